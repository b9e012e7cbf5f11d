use Rattle.account_host.specs.Sets.{views_of}
use Rattle.std.proofs.Common.{◌≤◌}
use Rattle.account_host.proofs.Looking.{Before}
use Rattle.account_host.proofs.ending.first_unjoined.Given as goal

abbrev pub invariant-loop-account : goal.invariant-loop-account
invariant-loop-account l = Before (λ v. v.made ≤ v.held) (views_of l.set) l.account
