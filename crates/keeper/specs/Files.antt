-- The files of an account: its message files, in the mailboxes of a Maildir++ tree, and the ledgers
-- of its quota roots.
use Rattle.std.specs.Prelude.{◌≡◌, ℕ, ◌-◌, Bool, ◌&&◌, Vec, replicate, if◌then◌else◌, List, [], ◌∷◌, ◌++◌, length, map, filter, slice_index_or, bytes_eq, Option, Some, None}
use Rattle.std.specs.List.{list_any}
use Rattle.std.specs.Option.{option_map}
use Rattle.keeper.specs.declared.rows.FileRow.{FileRow}

-- a message file
pub record Row : Type 0 where
  pub mailbox : List ℕ
  pub name : List ℕ
  pub octets : List ℕ

pub record Files : Type 0 where
  pub rows : List Row
  -- the bytes of each root's ledger, from root 0 on; none if there is no such file
  pub ledgers : List (Option (List ℕ))

abbrev pub is_in : List ℕ → Row → Bool
is_in mailbox row = bytes_eq row.mailbox mailbox

abbrev pub is_named : List ℕ → List ℕ → Row → Bool
is_named mailbox name row = bytes_eq row.mailbox mailbox && bytes_eq row.name name

-- there is a row of this mailbox and name
abbrev pub has_row : List ℕ → List ℕ → List Row → Bool
has_row mailbox name rows = list_any (is_named mailbox name) rows

-- a message file's name, and its length in octets
abbrev pub file_of : Row → FileRow
file_of row = record { name = row.name; length = length row.octets }

-- the files of a mailbox, in the order of the rows
abbrev pub listed : List ℕ → List Row → List FileRow
listed mailbox rows = map file_of (filter (is_in mailbox) rows)

-- without the first row of this mailbox and name
abbrev pub removed : List ℕ → List ℕ → List Row → List Row
removed mailbox name [] = []
removed mailbox name (row ∷ rows) =
    if is_named mailbox name row then rows else row ∷ removed mailbox name rows

-- the first row of this mailbox and name gets another mailbox and name, and keeps its place and its
-- octets
abbrev pub renamed : List ℕ → List ℕ → List ℕ → List ℕ → List Row → List Row
renamed from name to new_name [] = []
renamed from name to new_name (row ∷ rows) =
    if is_named from name row then record row { mailbox = to; name = new_name } ∷ rows
    else row ∷ renamed from name to new_name rows

-- the ledger of a root
abbrev pub ledger_at : Files → ℕ → Option (List ℕ)
ledger_at files root = slice_index_or files.ledgers root None

abbrev pub bytes_of : Option (List ℕ) → List ℕ
bytes_of None = []
bytes_of (Some bytes) = bytes

-- the bytes of a root's ledger; a ledger that does not exist has none
abbrev pub ledger_bytes : Files → ℕ → List ℕ
ledger_bytes files root = bytes_of (ledger_at files root)

-- nothing but ledgers has changed
abbrev pub ButLedgers : Files → Files → Type 0
ButLedgers files files' = files' ≡ record files { ledgers = files'.ledgers }

-- the ledgers of four roots: these, and none for each root after them
abbrev pub four_ledgers : {A : Type 0} → List (Option (Vec ℕ A)) → List (Option (List ℕ))
four_ledgers given =
    map (option_map (λ bytes. bytes.items)) given ++ replicate (4 - length given) None

-- no message file, and no ledger
abbrev pub no_files : Files
no_files = record { rows = []; ledgers = None ∷ None ∷ None ∷ None ∷ [] }
