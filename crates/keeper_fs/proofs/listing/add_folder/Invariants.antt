use Rattle.std.proofs.Common.{All}
use Rattle.keeper_fs.specs.Rows.{IsMessageRow}
use Rattle.keeper_fs.proofs.listing.add_folder.Given as goal

abbrev pub invariant-loop : goal.invariant-loop
invariant-loop g l = All IsMessageRow l.rows.items
