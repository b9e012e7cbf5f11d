-- The files that a listing names.
use Rattle.std.specs.Prelude.{◌≡◌, true, IfSome}
use Rattle.message_names.specs.Parts.{unique_of}
use Rattle.message_names.specs.Sizes.{size_named}
use Rattle.keeper.specs.declared.rows.FileRow.{FileRow}
use Rattle.keeper_fs.specs.Names.{is_file_name}

-- a message file: its name is the name of a file, and its length is the size that its name states,
-- if it states one (Maildir++)
pub record IsMessageRow (row : FileRow) : Type 0 where
  pub name : is_file_name row.name ≡ true
  pub length : IfSome (size_named (unique_of row.name)) (λ size. row.length ≡ size)
