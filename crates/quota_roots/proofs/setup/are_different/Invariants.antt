use Rattle.std.proofs.Common.{◌≡◌, drop}
use Rattle.quota_roots.specs.Setups.{are_different}
use Rattle.quota_roots.proofs.setup.are_different.Given as goal

abbrev pub invariant-loop-at : goal.invariant-loop-at
invariant-loop-at l = are_different (drop l.at l.names) ≡ are_different l.names
