use Rattle.std.proofs.Common.{◌≡◌, drop, find, nat_lt}
use Rattle.account_opening.specs.Bases.{base_in, times_in}
use Rattle.account_opening.proofs.bases.double_in.Given as goal

abbrev pub invariant-loop-file : goal.invariant-loop-file
invariant-loop-file l = find (λ file. nat_lt 1 (times_in l.files (base_in file))) (drop l.file-index l.files) ≡ find (λ file. nat_lt 1 (times_in l.files (base_in file))) l.files
