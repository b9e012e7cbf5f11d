use Rattle.std.proofs.Common.{take}
use Rattle.std.specs.Str.{str_eq_ignore_ascii_case}
use Rattle.accounts_file.specs.Doubles.{AreInserted}
use Rattle.accounts_file.proofs.DoubleLemmas.{IsSoFar}
use Rattle.accounts_file.proofs.doubles.repeated_in_any_case.Given as goal

abbrev pub invariant-loop-at : goal.invariant-loop-at
invariant-loop-at l = IsSoFar str_eq_ignore_ascii_case l.names l.at × AreInserted l.notes (take l.at l.names)
