use Rattle.std.proofs.Common.{◌≡◌}
use Rattle.quota_roots.proofs.GoverningLemmas.{gaining_below}
use Rattle.quota_roots.proofs.roots.gained.Given as goal

abbrev pub invariant-loop-root : goal.invariant-loop-root
invariant-loop-root l = l.roots ≡ gaining_below l.specs l.from l.to l.root
