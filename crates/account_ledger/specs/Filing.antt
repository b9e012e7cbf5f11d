-- What calls do to the message files.
use Rattle.std.specs.Prelude.{◌≡◌, ℕ, List, [], ◌∷◌, ◌++◌, Some, Result, Ok, Err}
use Rattle.keeper.specs.Files.{Row, listed, removed, renamed}
use Rattle.keeper.specs.declared.rows.FileRow.{FileRow}
use Rattle.message_names.specs.Written.{written_name, renamed as with_flags}
use Rattle.account_core.specs.declared.calls.Call.{Call}
use Rattle.account_core.specs.declared.calls.Call.TheVariants.{Deliver, Remove, Mark, Move}
use Rattle.account_core.specs.declared.calls.Reply.{Reply}
use Rattle.account_core.specs.declared.calls.Reply.TheVariants.{Delivered, Removed, Marked, Moved}
use Rattle.account_core.specs.declared.calls.StepError.{StepError}
use Rattle.account_core.specs.Delivering.{delivered_base}
use Rattle.account_ledger.specs.NamedFiles.{file_named}

-- the file of the named message is gone
abbrev pub RemovesFile : List ℕ → List ℕ → List Row → List Row → Type 0
RemovesFile mailbox base rows rows' =
    (file : FileRow) × (file_named base (listed mailbox rows) ≡ Some file)
    × (rows' ≡ removed mailbox file.name rows)

-- the file of the named message has another mailbox or another name
abbrev pub RenamesFile : List ℕ → List ℕ → List ℕ → (List ℕ → List ℕ) → List Row → List Row → Type 0
RenamesFile from base to name rows rows' =
    (file : FileRow) × (file_named base (listed from rows) ≡ Some file)
    × (rows' ≡ renamed from file.name to (name file.name) rows)

-- What a call with this reply does to the files. The file of an accepted message comes last, and
-- the file of a removed message is gone. The file of a marked message has a name with its flags,
-- and the file of a moved message keeps its name.
abbrev pub RowsFor : ℕ → Call → List ℕ → Reply → List Row → List Row → Type 0
RowsFor epoch (Deliver mailbox octets flags) bytes (Delivered number) rows rows' =
    rows' ≡ rows ++ record {
      mailbox = mailbox;
      name = written_name (delivered_base epoch number) octets flags;
      octets = bytes;
    } ∷ []
RowsFor epoch (Remove mailbox base) bytes Removed rows rows' = RemovesFile mailbox base rows rows'
RowsFor epoch (Mark mailbox base flags) bytes Marked rows rows' =
    RenamesFile mailbox base mailbox (λ name. with_flags name flags) rows rows'
RowsFor epoch (Move from base to) bytes Moved rows rows' =
    RenamesFile from base to (λ name. name) rows rows'
RowsFor epoch call bytes given rows rows' = rows' ≡ rows

abbrev pub RowsBy : ℕ → Call → List ℕ → Result Reply StepError → List Row → List Row → Type 0
RowsBy epoch call bytes (Ok given) rows rows' = RowsFor epoch call bytes given rows rows'
RowsBy epoch call bytes (Err fault) rows rows' = rows' ≡ rows
