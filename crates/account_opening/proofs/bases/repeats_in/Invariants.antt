use Rattle.std.proofs.Common.{◌≡◌, false, take}
use Rattle.account_opening.specs.Bases.{AreApart, AreCounted}
use Rattle.account_opening.proofs.bases.repeats_in.Given as goal

abbrev pub invariant-loop-file : goal.invariant-loop-file
invariant-loop-file l = AreCounted l.notes (take l.file-index l.files) × (l.repeats ≡ false → AreApart (take l.file-index l.files))
