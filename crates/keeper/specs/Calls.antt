-- The calls of a keeper, by their result: what each call answers, and how it changes what the
-- keeper tells contracts.
use Rattle.std.specs.Prelude.{◌≡◌, ◌≢◌, ◌+◌, ◌≤◌, ◌<◌, ℕ, Vec, List, [], ◌∷◌, ◌++◌, Option, Some, None, Result, Ok, Err, ⊤}
use Rattle.std.specs.Option.{option_map}
use Rattle.keeper.specs.declared.rows.FileRow.{FileRow}
use Rattle.keeper.specs.declared.failed.KeepError.{KeepError}
use Rattle.keeper.specs.declared.failed.KeepError.TheVariants.{Failed}
use Rattle.keeper.specs.Files.{Files, ButLedgers, listed, removed, renamed, ledger_at, ledger_bytes}

-- what a keeper tells contracts: its files, and how many failures of its calls may still come
pub record Told : Type 0 where
  pub files : Files
  pub due : ℕ

-- what is told changes by R; a keeper either always tells contracts its files, or never does;
-- stores either always tell contracts their accounts, or never do
abbrev pub Changes : {X : Type 0} → (X → X → Type 0) → Option X → Option X → Type 0
Changes R None None = ⊤
Changes R None (Some new) = ⊥
Changes R (Some old) None = ⊥
Changes R (Some old) (Some new) = R old new

-- a failure uses up at least one of the failures due, and the count of faults plus the failures due
-- never grows
pub record Spends (failed : Type 0) (before now : ℕ) (told told' : Told) : Type 0 where
  pub fewer : failed → told'.due < told.due
  pub bounded : now + told'.due ≤ before + told.due

-- a call of a keeper whose failures are counted by this count: if the call failed, it used up a
-- failure that was due
abbrev pub SpendsDue : {K : Type 0} → (told : K → Option Told) → (faults : K → ℕ)
    → (failed : Type 0) → K → K → Type 0
SpendsDue told faults failed keeper keeper' =
    Changes (Spends failed (faults keeper) (faults keeper')) (told keeper) (told keeper')

-- a call after which no more failures are due than before; it does not say whether it failed
abbrev pub AddsNoDue : {K : Type 0} → (told : K → Option Told) → (faults : K → ℕ) → K → K → Type 0
AddsNoDue told faults keeper keeper' = SpendsDue told faults ⊥ keeper keeper'

-- both counts of faults of a keeper, added up
abbrev pub both : {K : Type 0} → (faults appends : K → ℕ) → K → ℕ
both faults appends keeper = faults keeper + appends keeper

-- the same for work that may fail in an append or in another call: both counts of faults, added up
abbrev pub Due : (failed : Type 0) → (faults appends faults' appends' : ℕ)
    → Option Told → Option Told → Type 0
Due failed faults appends faults' appends' told told' =
    Changes (Spends failed (faults + appends) (faults' + appends')) told told'

-- a change of the files that a keeper tells
abbrev pub OnFiles : (Files → Files → Type 0) → Told → Told → Type 0
OnFiles R told told' = R told.files told'.files

-- the answer is never that the store failed
abbrev pub NeverFails : {T : Type 0} → Result T KeepError → Type 0
NeverFails result = result ≢ Err Failed

-- list: the files of the mailbox
abbrev pub Lists : {A E : Type 0} → List ℕ → Result (Vec FileRow A) E → Told → Told → Type 0
Lists mailbox (Ok found) told told' = (found.items ≡ listed mailbox told.files.rows)
    × (told'.files ≡ told.files)
Lists mailbox (Err e) told told' = told'.files ≡ told.files

-- put: one more row at the end
abbrev pub Puts : {T E : Type 0} → List ℕ → List ℕ → List ℕ → Result T E → Told → Told → Type 0
Puts mailbox name octets (Ok done) told told' =
    told'.files ≡ record told.files {
      rows =
          told.files.rows ++ record { mailbox = mailbox; name = name; octets = octets } ∷ [];
    }
Puts mailbox name octets (Err e) told told' = told'.files ≡ told.files

-- rename: the first row of the old mailbox and name has the new ones now
abbrev pub Renames : {T E : Type 0} → List ℕ → List ℕ → List ℕ → List ℕ → Result T E → Told → Told
    → Type 0
Renames from name to new_name (Ok done) told told' = told'.files ≡ record told.files {
  rows = renamed from name to new_name told.files.rows;
}
Renames from name to new_name (Err e) told told' = told'.files ≡ told.files

-- remove: the row is gone, and the others keep their order
abbrev pub Removes : {T E : Type 0} → List ℕ → List ℕ → Result T E → Told → Told → Type 0
Removes mailbox name (Ok done) told told' = told'.files ≡ record told.files {
  rows = removed mailbox name told.files.rows;
}
Removes mailbox name (Err e) told told' = told'.files ≡ told.files

-- read_ledger: the ledger's bytes, or none if there is no such file
abbrev pub ReadsLedger : {A E : Type 0} → ℕ → Result (Option (Vec ℕ A)) E → Told → Told → Type 0
ReadsLedger root (Ok found) told told' = (option_map (λ bytes. bytes.items) found
    ≡ ledger_at told.files root) × (told'.files ≡ told.files)
ReadsLedger root (Err e) told told' = told'.files ≡ told.files

-- nothing but the ledger of this root has changed
pub record OneLedger (root : ℕ) (files files' : Files) : Type 0 where
  pub same : ButLedgers files files'
  pub others : (other : ℕ) → other ≢ root → ledger_at files' other ≡ ledger_at files other

-- the ledger of this root has these bytes now, and nothing else has changed
abbrev pub Writes : ℕ → List ℕ → Files → Files → Type 0
Writes root bytes files files' = OneLedger root files files' × (ledger_at files' root ≡ Some bytes)

-- a prefix of the line comes after the ledger's bytes now, and nothing else has changed
abbrev pub Tears : ℕ → List ℕ → Files → Files → Type 0
Tears root line files files' = OneLedger root files files' × ((prefix rest : List ℕ)
    × (line ≡ prefix ++ rest) × (ledger_bytes files' root ≡ ledger_bytes files root ++ prefix))

-- append_ledger: the line comes after the ledger's bytes, or a prefix of the line if the call
-- failed
abbrev pub Appends : {T E : Type 0} → ℕ → List ℕ → Result T E → Told → Told → Type 0
Appends root line (Ok done) told told' =
    Writes root (ledger_bytes told.files root ++ line) told.files told'.files
Appends root line (Err e) told told' = Tears root line told.files told'.files

-- install_ledger: the text takes the place of the ledger's bytes
abbrev pub Installs : {T E : Type 0} → ℕ → List ℕ → Result T E → Told → Told → Type 0
Installs root text (Ok done) told told' = Writes root text told.files told'.files
Installs root text (Err e) told told' = told'.files ≡ told.files
