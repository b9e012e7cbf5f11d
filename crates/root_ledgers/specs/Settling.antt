-- What is kept in memory of an account's roots, and how settling changes it and the roots' ledgers.
use Rattle.std.specs.Prelude.{◌≡◌, ◌<◌, ◌≤◌, ◌⊎◌, ℕ, Bool, true, List, length, map, set, slice_index_or, Option, Some, All}
use Rattle.quota_units.specs.Limiting.{LimitNumbers}
use Rattle.quota_units.specs.Sums.{AreSmall}
use Rattle.quota_units.specs.declared.totals.Totals.{Totals}
use Rattle.quota_roots.specs.declared.root.RootSpec.{RootSpec}
use Rattle.keeper.specs.Files.{Files, ButLedgers, ledger_at}
use Rattle.keeper.specs.Calls.{Told, Changes, OnFiles}
use Rattle.admission.specs.Fitting.{limits_at}
use Rattle.root_ledgers.specs.declared.book.Book.{Book}
use Rattle.root_ledgers.specs.declared.book.Standing.{Standing}
use Rattle.root_ledgers.specs.declared.book.Standing.TheVariants.{Settled, Doubt}
use Rattle.root_ledgers.specs.Scans.{scan}
use Rattle.root_ledgers.specs.Ledgers.{folded, IsRight}

-- what is kept of each root, in the order of the roots
pub record Kept : Type 0 where
  pub limits : List LimitNumbers
  pub books : List Book

abbrev pub kept_of : List LimitNumbers → List Book → Kept
kept_of limits books = record { limits = limits; books = books }

-- each total is below 2 ^ 62
abbrev pub AreSmallBooks : List Book → Type 0
AreSmallBooks books = All (λ (book : Book). AreSmall book.totals) books

-- each root's limits have a book, there are at most four roots, and each total is below 2 ^ 62
pub record AreKept (k : Kept) : Type 0 where
  pub each : length k.books ≡ length k.limits
  pub few : length k.limits ≤ 4
  pub small : AreSmallBooks k.books

-- what is kept of the roots stays, and the files stay
abbrev pub Spared : Kept → Kept → Option Told → Option Told → Type 0
Spared k k' told told' = (k' ≡ k) × Changes (OnFiles (λ files files'. files' ≡ files)) told told'

-- the book at a number that no root has
abbrev pub no_book : Book
no_book = record { totals = record { octets = 0; count = 0 }; standing = Doubt; length = 0 }

abbrev pub book_at : List Book → ℕ → Book
book_at books root = slice_index_or books root no_book

abbrev pub standings_of : List Book → List Standing
standings_of books = map (λ book. book.standing) books

abbrev pub lengths_of : List Book → List ℕ
lengths_of books = map (λ book. book.length) books

-- the book of a root whose ledger was folded
abbrev pub folded_book : LimitNumbers → Totals → Book
folded_book limits totals =
    record { totals = totals; standing = Settled; length = length (folded limits totals) }

-- what is kept after a root got these limits and totals, and its ledger was folded
abbrev pub with_folded : Kept → ℕ → LimitNumbers → Totals → Kept
with_folded k root limits totals = record {
  limits = set k.limits root limits;
  books = set k.books root (folded_book limits totals);
}

-- the book of a settled root has the root's usage and the length of the ledger, and the ledger is
-- right
pub record IsKept (limits : LimitNumbers) (usage : Totals) (ledger : Option (List ℕ))
    (bytes : List ℕ) (book : Book) : Type 0 where
  pub totals : book.totals ≡ usage
  pub right : IsRight limits usage ledger
  pub long : book.length ≡ length bytes

-- the book and the ledger of a root stay
pub record Stays (book book' : Book) (ledger ledger' : Option (List ℕ)) : Type 0 where
  pub book_is : book' ≡ book
  pub ledger_is : ledger' ≡ ledger

-- a root in doubt is settled: its book has these totals, and its ledger is the folded text of its
-- limits and these totals
pub record Settles (limits : LimitNumbers) (totals : Totals) (book book' : Book)
    (ledger' : Option (List ℕ)) : Type 0 where
  pub doubt : book.standing ≡ Doubt
  pub book_is : book' ≡ folded_book limits totals
  pub ledger_is : ledger' ≡ Some (folded limits totals)
  pub short : length (folded limits totals) < 5120

abbrev pub SettlesOrStays : Bool → LimitNumbers → Totals → Book → Book → Option (List ℕ)
    → Option (List ℕ) → Type 0
SettlesOrStays may limits totals book book' ledger ledger' =
    Stays book book' ledger ledger' ⊎ ((may ≡ true) × Settles limits totals book book' ledger')

-- some of the roots that may be settled are settled, each by a fresh scan, and nothing else changes
pub record Settling (may : ℕ → Bool) (roots : List RootSpec) (mailboxes : List (List ℕ))
    (k k' : Kept) (files files' : Files) : Type 0 where
  pub same : ButLedgers files files'
  pub each : (root : ℕ) → SettlesOrStays (may root) (limits_at k.limits root)
      (scan roots root mailboxes files.rows)
      (book_at k.books root) (book_at k'.books root) (ledger_at files root) (ledger_at files' root)

-- how a root's standing changes if it may be settled
abbrev pub MarksOne : Bool → Standing → Standing → Type 0
MarksOne may standing standing' =
    (standing' ≡ standing) ⊎ ((may ≡ true) × (standing ≡ Doubt) × (standing' ≡ Settled))

-- how the standings of all roots may change; this is known even if the files are not told
pub record Marks (may : ℕ → Bool) (books books' : List Book) : Type 0 where
  pub count : length books' ≡ length books
  pub each : (root : ℕ)
      → MarksOne (may root) (book_at books root).standing (book_at books' root).standing

-- one of the roots that may be settled is in doubt
abbrev pub StaysInDoubt : (ℕ → Bool) → List Book → Type 0
StaysInDoubt may books =
    (root : ℕ) × (root < length books) × (may root ≡ true) × ((book_at books root).standing ≡ Doubt)
