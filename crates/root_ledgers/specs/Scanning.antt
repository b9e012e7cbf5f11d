-- What a scan does.
use Rattle.std.specs.Prelude.{◌≡◌, ◌<◌, ◌+◌, ℕ, Bool, true, false, is_some, if◌then◌else◌, List, length, slice_index_or, Vec, Option, Some, None, IfSome, Result, Ok, Err}
use Rattle.quota_units.specs.declared.totals.Totals.{Totals}
use Rattle.quota_roots.specs.declared.root.RootSpec.{RootSpec}
use Rattle.keeper.specs.Files.{Row}
use Rattle.keeper.specs.Calls.{Told}
use Rattle.root_ledgers.specs.declared.book.Standing.{Standing}
use Rattle.root_ledgers.specs.declared.book.Standing.TheVariants.{Settled, Doubt}
use Rattle.quota_units.specs.Sums.{cut_totals, AreSmall}
use Rattle.root_ledgers.specs.Scans.{scan}

-- a root that may be settled is scanned if it is in doubt
abbrev pub is_wanted : Bool → Standing → Bool
is_wanted may Settled = false
is_wanted may Doubt = may

-- there is a scan exactly if the root is wanted
pub record IsScan (wanted : Bool) (found : Option Totals) : Type 0 where
  pub there : is_some found ≡ wanted
  pub small : IfSome found AreSmall

-- a scan that was made is what the files of the root's mailboxes add up to
abbrev pub IsFresh : List RootSpec → ℕ → List (List ℕ) → Option Totals → List Row → Type 0
IsFresh roots root mailboxes found rows =
    IfSome found (λ totals. totals ≡ scan roots root mailboxes rows)

-- a scan that has counted nothing yet, if the root is wanted, or else none
abbrev pub empty_scan : Bool → Option Totals
empty_scan false = None
empty_scan true = Some (record { octets = 0; count = 0 })

-- what was counted of a root, with the files of one more mailbox if the root governs it
abbrev pub with_files : Bool → Totals → Option Totals → Option Totals
with_files governs files None = None
with_files governs files (Some totals) = Some (if governs
    then cut_totals (totals.octets + files.octets) (totals.count + files.count) else totals)

-- the scan of a root, if one was made
abbrev pub scan_at : List (Option Totals) → ℕ → Option Totals
scan_at scans root = slice_index_or scans root None

-- some root is scanned
abbrev pub SomeScanned : List (Option Totals) → Type 0
SomeScanned scans = (root : ℕ) × (is_some (scan_at scans root) ≡ true)

-- of the roots below a number, exactly those that are wanted have a scan
pub record AreScans (upto : ℕ) (wanted : ℕ → Bool) (scans : List (Option Totals)) : Type 0 where
  pub count : length scans ≡ upto
  pub each : (root : ℕ) → root < upto → IsScan (wanted root) (scan_at scans root)

-- the files stay, and each scan that was made is fresh
abbrev pub ScansList : List RootSpec → List (List ℕ) → List (Option Totals) → Told → Told → Type 0
ScansList roots mailboxes scans told told' =
    ((root : ℕ) → IsFresh roots root mailboxes (scan_at scans root) told.files.rows)
    × (told'.files ≡ told.files)

abbrev pub ScansEach : {A E : Type 0} → List RootSpec → List (List ℕ)
    → Result (Vec (Option Totals) A) E → Told → Told → Type 0
ScansEach roots mailboxes (Ok scans) told told' = ScansList roots mailboxes scans.items told told'
ScansEach roots mailboxes (Err e) told told' = told'.files ≡ told.files
