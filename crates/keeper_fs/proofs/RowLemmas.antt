-- Rows that are added to a listing.
use Rattle.std.proofs.Common.{List, [], ◌∷◌, ◌++◌, All}
use Rattle.std.proofs.lemmas.List.Elements.{All-push}
use Rattle.keeper.specs.declared.rows.FileRow.{FileRow}
use Rattle.keeper_fs.specs.Rows.{IsMessageRow}

pub one_more : (rows : List FileRow) (row : FileRow) → All IsMessageRow rows → IsMessageRow row → All IsMessageRow (rows ++ row ∷ [])
one_more rows row all one = All-push IsMessageRow rows row all one
