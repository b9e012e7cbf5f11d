use Rattle.std.proofs.Common.{◌≡◌, drop, find}
use Rattle.account_opening.specs.Bases.{base_in, is_of_epoch}
use Rattle.account_opening.proofs.bases.used_in.Given as goal

abbrev pub invariant-loop-file : goal.invariant-loop-file
invariant-loop-file l = find (λ file. is_of_epoch l.epoch (base_in file)) (drop l.file-index l.files) ≡ find (λ file. is_of_epoch l.epoch (base_in file)) l.files
