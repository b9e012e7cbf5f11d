use Rattle.std.proofs.Common.{◌≤◌, length, All}
use Rattle.keeper_fs.specs.Rows.{IsMessageRow}
use Rattle.keeper_fs.proofs.listing.add_names.Given as goal

abbrev pub invariant-loop-end : goal.invariant-loop-end
invariant-loop-end g l = (length l.rest ≤ length l.names) × All IsMessageRow l.rows.items

abbrev pub decreases-loop-end : goal.decreases-loop-end
decreases-loop-end g l = length l.rest
