use Rattle.std.specs.Prelude.{bytes_eq}
use Rattle.accounts_file.proofs.DoubleLemmas.{IsSoFar}
use Rattle.accounts_file.proofs.doubles.repeated.Given as goal

abbrev pub invariant-loop-at : goal.invariant-loop-at
invariant-loop-at l = IsSoFar bytes_eq l.names l.at
