use Rattle.std.proofs.Common.{◌≡◌}
use Rattle.quota_roots.proofs.GoverningLemmas.{governing_below}
use Rattle.quota_roots.proofs.roots.roots_of.Given as goal

abbrev pub invariant-loop-root : goal.invariant-loop-root
invariant-loop-root l = l.roots ≡ governing_below l.specs l.mailbox l.root
