-- What clauses see of an account's store: its keeper, and what is known of its ledgers.
use Rattle.std.specs.Prelude.{◌≡◌, ◌<◌, ◌≤◌, ℕ, List, length, slice_index_or, Option, IfSome}
use Rattle.quota_units.specs.declared.totals.Totals.{Totals}
use Rattle.quota_roots.specs.declared.root.RootSpec.{RootSpec}
use Rattle.keeper.specs.Files.{Files, Row, ledger_at, ledger_bytes}
use Rattle.keeper.specs.Calls.{Told}
use Rattle.admission.specs.Fitting.{limits_at, totals_at}
use Rattle.account_core.specs.Account.{Account}
use Rattle.account_core.specs.Machine.{usages}
use Rattle.root_ledgers.specs.declared.book.Standing.{Standing}
use Rattle.root_ledgers.specs.declared.book.Standing.TheVariants.{Settled, Doubt}
use Rattle.root_ledgers.specs.Scans.{scanned_octets, scanned_count}
use Rattle.root_ledgers.specs.Ledgers.{IsRight}
use Rattle.account_ledger.specs.Messages.{StandFor, how_many}

pub record Store : Type 0 where
  -- what the keeper tells and counts
  pub told : Option Told
  pub faults : ℕ
  pub append_faults : ℕ
  pub lists : ℕ
  -- the account's own
  pub roots : List RootSpec
  pub mailboxes : List (List ℕ)
  -- the second in which the account was opened
  pub epoch : ℕ
  -- the standing of each root, and the length in bytes of the ledger of each settled root
  pub standings : List Standing
  pub lengths : List ℕ

abbrev pub standing_at : List Standing → ℕ → Standing
standing_at standings root = slice_index_or standings root Doubt

abbrev pub length_at : List ℕ → ℕ → ℕ
length_at lengths root = slice_index_or lengths root 0

-- the usage of the root of this number
abbrev pub usage_at : List RootSpec → ℕ → Account → Totals
usage_at roots root account = totals_at (usages roots account) root

-- what every call leaves as it is
pub record Keeps (f f' : Store) : Type 0 where
  pub roots : f'.roots ≡ f.roots
  pub mailboxes : f'.mailboxes ≡ f.mailboxes
  pub epoch : f'.epoch ≡ f.epoch

-- neither count of faults falls
pub record NoneFalls (f f' : Store) : Type 0 where
  pub faults : f.faults ≤ f'.faults
  pub appends : f.append_faults ≤ f'.append_faults

-- a fresh scan: the octets and the number of the files in the mailboxes that the root governs
abbrev pub fresh_scan : List RootSpec → ℕ → List (List ℕ) → List Row → Totals
fresh_scan roots root mailboxes rows = record {
  octets = scanned_octets roots root mailboxes rows;
  count = scanned_count roots root mailboxes rows;
}

-- The files and the account agree. The files stand for the account, and no mailbox has a base
-- twice. A fresh scan of each root comes to the root's usage. The ledger of each settled root is
-- right, so its sum is that of a fresh scan, and its length is known.
pub record Agree (f : Store) (account : Account) (files : Files) : Type 0 where
  pub stand : StandFor files.rows account
  pub fresh : (root : ℕ) → root < length f.roots
      → fresh_scan f.roots root account.mailboxes files.rows ≡ usage_at f.roots root account
  pub apart : (mailbox base : List ℕ) → how_many mailbox base account.messages ≤ 1
  pub right : (root : ℕ) → root < length f.roots → standing_at f.standings root ≡ Settled
      → IsRight (limits_at account.limits root) (usage_at f.roots root account)
      (ledger_at files root)
  pub long : (root : ℕ) → root < length f.roots → standing_at f.standings root ≡ Settled
      → length_at f.lengths root ≡ length (ledger_bytes files root)

-- if the files are told, they agree with the account
abbrev pub Agrees : (Account → Type 0) → Store → Type 0
Agrees Is f = (account : Account) → Is account → IfSome f.told (λ told. Agree f account told.files)
