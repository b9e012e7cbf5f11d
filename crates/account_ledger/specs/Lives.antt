-- A live account: its keeper, what is kept of the account in memory, and which account it stands
-- for.
use Rattle.std.specs.Prelude.{◌≡◌, ◌<◌, ◌≤◌, ◌+◌, ◌^◌, ℕ, Bool, false, List, length, Option, Some, IfSome, Result, Ok, Err, IfOk}
use Rattle.quota_units.specs.Causes.{HasCause, Rose, next_count}
use Rattle.quota_units.specs.Limiting.{LimitNumbers}
use Rattle.quota_roots.specs.declared.root.RootSpec.{RootSpec}
use Rattle.quota_roots.specs.Setups.{AreMailboxes}
use Rattle.keeper.specs.Files.{Files, ledger_at, ledger_bytes}
use Rattle.keeper.specs.Calls.{Told, Changes, Due, OnFiles}
use Rattle.admission.specs.Fitting.{limits_at}
use Rattle.account_core.specs.declared.calls.Call.{Call}
use Rattle.account_core.specs.declared.calls.Reply.{Reply}
use Rattle.account_core.specs.declared.calls.StepError.{StepError}
use Rattle.account_core.specs.declared.calls.StepError.TheVariants.{Store as StoreError}
use Rattle.account_core.specs.Forms.{HasForm}
use Rattle.account_core.specs.History.{NeverFull}
use Rattle.account_core.specs.Account.{Account}
use Rattle.account_core.specs.Machine.{step}
use Rattle.account_core.specs.Orderly.{IsOrderly}
use Rattle.root_ledgers.specs.declared.book.Book.{Book}
use Rattle.root_ledgers.specs.declared.book.Standing.TheVariants.{Settled}
use Rattle.root_ledgers.specs.Settling.{AreKept, IsKept, book_at, kept_of, lengths_of, standings_of}
use Rattle.account_ledger.specs.Messages.{StandFor}
use Rattle.account_ledger.specs.Stores.{Store, Keeps, NoneFalls, usage_at}
use Rattle.account_ledger.specs.Settling.{SettlesSome}
use Rattle.account_ledger.specs.Performing.{Performs, PerformsRows, Replies, UsesDue}
use Rattle.account_ledger.specs.Writing.{WritesBy, misses}

pub record Live : Type 0 where
  -- what the keeper tells and counts
  pub told : Option Told
  pub faults : ℕ
  pub append_faults : ℕ
  pub lists : ℕ
  -- the account's own
  pub roots : List RootSpec
  pub mailboxes : List (List ℕ)
  pub epoch : ℕ
  -- of each root
  pub limits : List LimitNumbers
  pub books : List Book
  -- how many deliveries were accepted, and how often messages came, went or moved
  pub deliveries : ℕ
  pub generation : ℕ

-- what clauses see of a live account
abbrev pub store_of : Live → Store
store_of l = record {
  told = l.told;
  faults = l.faults;
  append_faults = l.append_faults;
  lists = l.lists;
  roots = l.roots;
  mailboxes = l.mailboxes;
  epoch = l.epoch;
  standings = standings_of l.books;
  lengths = lengths_of l.books;
}

-- there are limits and a book for each root, and the mailboxes are different, INBOX first
pub record IsWhole (l : Live) : Type 0 where
  pub limits : length l.limits ≡ length l.roots
  pub kept : AreKept (kept_of l.limits l.books)
  pub mailboxes : AreMailboxes l.mailboxes

-- what is kept in memory and the files both stand for the account
pub record Stands (l : Live) (account : Account) (files : Files) : Type 0 where
  pub limits_are : account.limits ≡ l.limits
  pub mailboxes_are : account.mailboxes ≡ l.mailboxes
  pub epoch_is : account.epoch ≡ l.epoch
  pub deliveries_are : account.deliveries ≡ l.deliveries
  pub generation_is : account.generation ≡ l.generation
  pub stand : StandFor files.rows account
  pub kept : (root : ℕ) → root < length l.roots → (book_at l.books root).standing ≡ Settled
      → IsKept (limits_at l.limits root) (usage_at l.roots root account)
      (ledger_at files root) (ledger_bytes files root) (book_at l.books root)

-- the live account stands for the account, if the files are told
abbrev pub StandsIfTold : Live → Account → Type 0
StandsIfTold l account = IfSome l.told (λ told. Stands l account told.files)

-- The keeper tells its files, and the live account stands for this account. The account has had so
-- few entries that no sum is cut.
pub record Shows (l : Live) (account : Account) : Type 0 where
  pub told : Told
  pub is_told : l.told ≡ Some told
  pub whole : IsWhole l
  pub stands : Stands l account told.files
  pub entries : ℕ
  pub few : entries < 2 ^ 32
  pub orderly : IsOrderly entries account

-- if the keeper tells its files, there is an account that the live account stands for
abbrev pub IsShown : Live → Type 0
IsShown l = IfSome l.told (λ told. (account : Account) × Shows l account)

-- the account after a call with this result
abbrev pub after_call : List RootSpec → Account → Call → Result Reply StepError → Account
after_call roots account call (Ok given) = step roots account call
after_call roots account call (Err fault) = account

-- how much a call may add to the counts of deliveries and of changes
abbrev pub Counted : Result Reply StepError → Live → Live → Type 0
Counted (Ok given) l l' =
    (l'.deliveries ≤ l.deliveries + 1) × (l'.generation ≤ l.generation + 1)
Counted (Err fault) l l' = (l'.deliveries ≡ l.deliveries) × (l'.generation ≡ l.generation)

-- what a call does to a live account
pub record Steps (call : Call) (bytes : List ℕ) (result : Result Reply StepError)
    (l l' : Live) : Type 0 where
  pub performs : Performs (Shows l) call bytes result (store_of l) (store_of l')
  pub stands : (account : Account) → Shows l account
      → StandsIfTold l' (after_call l.roots account call result)
  pub counts : Counted result l l'

-- a mailbox is listed, and the files and what is kept in memory stay
pub record Looks (failed : Type 0) (l l' : Live) : Type 0 where
  pub same : l' ≡ record l { told = l'.told; faults = l'.faults; lists = next_count l.lists }
  pub files : Changes (OnFiles (λ files files'. files' ≡ files)) l.told l'.told
  pub cause : HasCause failed l.faults l'.faults
  pub due : Due failed l.faults l.append_faults l'.faults l'.append_faults l.told l'.told

-- some of the roots that may be settled are settled, and the live account stands for the same
-- account
pub record Prepares (failed : Type 0) (may : ℕ → Bool) (l l' : Live) : Type 0 where
  pub same : l'
      ≡ record l { told = l'.told; faults = l'.faults; lists = l'.lists; books = l'.books }
  pub settles : SettlesSome (Shows l) may (store_of l) (store_of l')
  pub stands : (account : Account) → Shows l account → StandsIfTold l' account
  pub cause : HasCause failed l.faults l'.faults
  pub due : Due failed l.faults l.append_faults l'.faults l'.append_faults l.told l'.told

-- what a call does after the roots that it needs are settled
pub record Acts (call : Call) (bytes : List ℕ) (result : Result Reply StepError)
    (l l' : Live) : Type 0 where
  pub keeps : Keeps (store_of l) (store_of l')
  pub reply : Replies (Shows l) call result (store_of l)
  pub form : IfOk result (HasForm l.roots l.mailboxes call)
  pub there : IfOk result (λ given. misses given ≡ false)
  pub writes : WritesBy (Shows l) call result (store_of l) (store_of l')
  pub rows : PerformsRows call bytes result (store_of l) (store_of l')
  pub stands : (account : Account) → Shows l account
      → StandsIfTold l' (after_call l.roots account call result)
  pub counts : Counted result l l'
  pub later : NoneFalls (store_of l) (store_of l')
  pub cause : result ≡ Err StoreError → Rose l.faults l'.faults
  pub due : UsesDue result (store_of l) (store_of l')
  pub never_full : NeverFull result
