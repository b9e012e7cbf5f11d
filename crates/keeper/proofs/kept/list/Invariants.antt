use Rattle.std.proofs.Common.{◌≡◌, take}
use Rattle.keeper.specs.Files.{listed}
use Rattle.keeper.proofs.kept.list.Given as goal

abbrev pub invariant-loop-row : goal.invariant-loop-row
invariant-loop-row l = l.files.items ≡ listed l.mailbox (take l.row-index l.rows)
