use Rattle.std.proofs.Common.{◌<◌, All}
use Rattle.admission.proofs.FirstLemmas.{NoneBelow}
use Rattle.admission.proofs.verdict.admit.Given as goal

abbrev pub invariant-loop-root : goal.invariant-loop-root
invariant-loop-root l = record {
  low : 0 < l.root → All (λ root. root < 4) l.roots;
  none : NoneBelow l.limits l.totals l.roots l.octets l.root;
}
