-- The lines that calls append to ledgers: one for each settled root whose usage changes.
use Rattle.std.specs.Prelude.{◌≡◌, ◌<◌, ◌≤◌, ◌+◌, ◌-◌, ◌^◌, ℕ, pos, neg_ℤ, min, Bool, true, false, nat_lt, if◌then◌else◌, List, length, sum_by, ◌++◌, Option, Some, None, IfSome}
use Rattle.std.specs.List.{range_with_len}
use Rattle.quota_units.specs.Limiting.{LimitNumbers}
use Rattle.quota_units.specs.declared.totals.Totals.{Totals}
use Rattle.quota_roots.specs.declared.root.RootSpec.{RootSpec}
use Rattle.quota_roots.specs.Governing.{governs_at}
use Rattle.keeper.specs.Files.{Files, ButLedgers, ledger_at, ledger_bytes, bytes_of}
use Rattle.keeper.specs.Calls.{Told}
use Rattle.admission.specs.Fitting.{limits_at}
use Rattle.maildirsize.specs.Sums.{Pair}
use Rattle.maildirsize.specs.Written.{written_line}
use Rattle.root_ledgers.specs.declared.book.Book.{Book}
use Rattle.root_ledgers.specs.declared.book.Standing.{Standing}
use Rattle.root_ledgers.specs.declared.book.Standing.TheVariants.{Settled, Doubt}
use Rattle.root_ledgers.specs.declared.change.Change.{Change}
use Rattle.root_ledgers.specs.declared.change.Change.TheVariants.{Comes, Goes}
use Rattle.quota_units.specs.Sums.{cut_totals}
use Rattle.root_ledgers.specs.Ledgers.{folded}
use Rattle.root_ledgers.specs.Settling.{book_at}

-- there is a mailbox, and the root of this number governs it
abbrev pub governs_in : List RootSpec → ℕ → Option (List ℕ) → Bool
governs_in roots root None = false
governs_in roots root (Some mailbox) = governs_at roots root mailbox

abbrev pub change_by : Bool → Bool → Option Change
change_by false true = Some Comes
change_by true false = Some Goes
change_by false false = None
change_by true true = None

-- how a message that goes from one mailbox to another changes the usage of a root; a delivered
-- message comes from no mailbox, and a removed message goes to none
abbrev pub change_at : List RootSpec → Option (List ℕ) → Option (List ℕ) → ℕ → Option Change
change_at roots from to root = change_by (governs_in roots root from) (governs_in roots root to)

-- what the line says of a message of this many octets
abbrev pub pair_by : Change → ℕ → Pair
pair_by Comes octets = record { octets = pos octets; count = pos 1 }
pair_by Goes octets = record { octets = neg_ℤ (pos octets); count = neg_ℤ (pos 1) }

abbrev pub line_by : Change → ℕ → List ℕ
line_by change octets = written_line (pair_by change octets)

-- the usage after the change, cut as the totals of a book are
abbrev pub totals_by : Change → ℕ → Totals → Totals
totals_by Comes octets totals = cut_totals (totals.octets + octets) (totals.count + 1)
totals_by Goes octets totals = record { octets = totals.octets - octets; count = totals.count - 1 }

-- a ledger of this many bytes has room for the line
abbrev pub has_room : ℕ → List ℕ → Bool
has_room long line = nat_lt (long + length line) 5120

-- The ledger of a settled root that gets a line. If there is room, the line comes after the
-- ledger's bytes, or else the ledger becomes the folded text. If the write failed, the root is in
-- doubt: a prefix of the line comes after the ledger's bytes if there was room, or else the ledger
-- stays.
abbrev pub LineLedger : Bool → List ℕ → List ℕ → Option (List ℕ) → Standing → Option (List ℕ)
    → Type 0
LineLedger true line text ledger Settled ledger' = ledger' ≡ Some (bytes_of ledger ++ line)
LineLedger true line text ledger Doubt ledger' = (prefix rest : List ℕ) × (line ≡ prefix ++ rest)
    × (bytes_of ledger' ≡ bytes_of ledger ++ prefix)
LineLedger false line text ledger Settled ledger' = ledger' ≡ Some text
LineLedger false line text ledger Doubt ledger' = ledger' ≡ ledger

-- one if a settled root has fallen into doubt and its ledger had room for the line, or had none, as
-- `room` says, or else zero
abbrev pub fallen_by : Bool → Bool → Standing → ℕ
fallen_by true true Doubt = 1
fallen_by false false Doubt = 1
fallen_by true false Doubt = 0
fallen_by false true Doubt = 0
fallen_by room was Settled = 0

abbrev pub fallen_at : Bool → Option Change → ℕ → Standing → ℕ → Standing → ℕ
fallen_at room None octets standing long standing' = 0
fallen_at room (Some change) octets Doubt long standing' = 0
fallen_at room (Some change) octets Settled long standing' =
    fallen_by room (has_room long (line_by change octets)) standing'

-- A count of faults goes up by at least this number of failures, or reaches the end of its type. If
-- there are no failures, it stays.
pub record HasCauses (failures before now : ℕ) : Type 0 where
  pub later : before ≤ now
  pub rose : min (before + failures) (2 ^ 64 - 1) ≤ now
  pub kept : failures ≡ 0 → now ≡ before

-- the book of a settled root that got a line, by its new standing
abbrev pub lined_book : List ℕ → List ℕ → Totals → Book → Standing → Book
lined_book line text totals book Settled = record {
  totals = totals;
  standing = Settled;
  length = if has_room book.length line then book.length + length line else length text;
}
lined_book line text totals book Doubt = record book { totals = totals; standing = Doubt }

-- the book after a change, with the line, the folded text and the usage of the change
abbrev pub changed_book : Change → ℕ → LimitNumbers → Book → Standing → Book
changed_book change octets limits book standing =
    lined_book (line_by change octets) (folded limits (totals_by change octets book.totals))
    (totals_by change octets book.totals) book standing

abbrev pub ChangedLedger : Change → ℕ → LimitNumbers → Book → Option (List ℕ) → Standing
    → Option (List ℕ) → Type 0
ChangedLedger change octets limits book ledger standing ledger' =
    LineLedger (has_room book.length (line_by change octets)) (line_by change octets)
    (folded limits (totals_by change octets book.totals)) ledger standing ledger'

-- if there is no room for the line, the folded text is short
abbrev pub FoldsShort : Change → ℕ → LimitNumbers → Book → Type 0
FoldsShort change octets limits book = has_room book.length (line_by change octets) ≡ false
    → length (folded limits (totals_by change octets book.totals)) < 5120

-- the length of the ledger of each settled root is known, if the files are told
abbrev pub AreLong : List Book → Option Told → Type 0
AreLong books told = (root : ℕ) → (book_at books root).standing ≡ Settled
    → IfSome told (λ t. length (ledger_bytes t.files root) ≡ (book_at books root).length)

-- how the book of a root changes: it stays unless the root is settled and its usage changes
abbrev pub BookBy : Standing → Change → ℕ → LimitNumbers → Book → Book → Type 0
BookBy Doubt change octets limits book book' = book' ≡ book
BookBy Settled change octets limits book book' = (book'
    ≡ changed_book change octets limits book book'.standing) × FoldsShort change octets limits book

abbrev pub BookLined : Option Change → ℕ → LimitNumbers → Book → Book → Type 0
BookLined None octets limits book book' = book' ≡ book
BookLined (Some change) octets limits book book' =
    BookBy book.standing change octets limits book book'

-- how the ledger of a root changes: it stays unless the root is settled and its usage changes
abbrev pub LedgerBy : Standing → Change → ℕ → LimitNumbers → Book → Standing → Option (List ℕ)
    → Option (List ℕ) → Type 0
LedgerBy Doubt change octets limits book standing' ledger ledger' = ledger' ≡ ledger
LedgerBy Settled change octets limits book standing' ledger ledger' =
    ChangedLedger change octets limits book ledger standing' ledger'

abbrev pub LedgerLined : Option Change → ℕ → LimitNumbers → Book → Standing → Option (List ℕ)
    → Option (List ℕ) → Type 0
LedgerLined None octets limits book standing' ledger ledger' = ledger' ≡ ledger
LedgerLined (Some change) octets limits book standing' ledger ledger' =
    LedgerBy book.standing change octets limits book standing' ledger ledger'

-- the books of the roots below a number include the roots' lines, and the other books stay
pub record BooksLined (upto : ℕ) (changes : ℕ → Option Change) (octets : ℕ)
    (limits : List LimitNumbers) (books books' : List Book) : Type 0 where
  pub count : length books' ≡ length books
  pub done : (root : ℕ) → root < upto → BookLined (changes root) octets (limits_at limits root)
      (book_at books root) (book_at books' root)
  pub left : (root : ℕ) → upto ≤ root → book_at books' root ≡ book_at books root

-- the ledgers of the roots below a number have their lines, and the other ledgers stay
pub record LedgersLined (upto : ℕ) (changes : ℕ → Option Change) (octets : ℕ)
    (limits : List LimitNumbers) (books books' : List Book) (files files' : Files) : Type 0 where
  pub same : ButLedgers files files'
  pub done : (root : ℕ) → root < upto
      → LedgerLined (changes root) octets (limits_at limits root) (book_at books root)
      (book_at books' root).standing (ledger_at files root) (ledger_at files' root)
  pub left : (root : ℕ) → upto ≤ root → ledger_at files' root ≡ ledger_at files root

-- how many of the roots below a number fell into doubt, of those whose ledger had room for the
-- line, or of those whose ledger had none, as `room` says
abbrev pub fell_below : ℕ → Bool → (ℕ → Option Change) → ℕ → List Book → List Book → ℕ
fell_below upto room changes octets books books' =
    sum_by (λ root. fallen_at room (changes root) octets (book_at books root).standing
    (book_at books root).length (book_at books' root).standing) (range_with_len 0 upto)
