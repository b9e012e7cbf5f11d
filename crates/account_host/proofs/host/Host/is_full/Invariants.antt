use Rattle.std.proofs.Common.{◌≢◌}
use Rattle.account_host.specs.Sets.{views_of}
use Rattle.account_host.proofs.Looking.{Before}
use Rattle.account_host.proofs.host.Host.is_full.Given as goal

abbrev pub invariant-loop-account : goal.invariant-loop-account
invariant-loop-account g l = Before (λ v. v.made ≢ l.self.callers) (views_of l.first) l.account
