-- An account's state as clauses see it: its store, and the history that it stands for.
use Rattle.std.specs.Prelude.{◌≡◌, ◌≤◌, ℕ, Bool, true, false, List, [], length, Option, Some, None, Result, Ok, Err}
use Rattle.std.specs.Option.{option_map}
use Rattle.quota_roots.specs.Setups.{IsSound}
use Rattle.quota_roots.specs.declared.setup.Setup.{Setup}
use Rattle.keeper.specs.Calls.{Told, Changes}
use Rattle.account_core.specs.declared.calls.Call.{Call}
use Rattle.account_core.specs.declared.calls.Reply.{Reply}
use Rattle.account_core.specs.declared.calls.StepError.{StepError}
use Rattle.account_core.specs.declared.calls.StepError.TheVariants.{Store as StoreError}
use Rattle.account_core.specs.declared.calls.Entry.{Entry}
use Rattle.account_core.specs.Logs.{Serves}
use Rattle.account_ledger.specs.Performing.{Performs}
use Rattle.account_core.specs.Account.{Account}
use Rattle.account_core.specs.History.{replay}
use Rattle.account_core.specs.Histories.{Origin}
use Rattle.account_core.specs.Legality.{IsLegal}
use Rattle.account_core.specs.Orderly.{IsOrderly}
use Rattle.root_ledgers.specs.declared.book.Standing.TheVariants.{Doubt}
use Rattle.account_ledger.specs.Opening.{opening_account, opening_of}
use Rattle.account_ledger.specs.Stores.{Store, Agrees, standing_at}
use Rattle.account_ledger.specs.Lives.{Live, Stands}

pub record State : Type 0 where
  pub store : Store
  -- what the account was opened with, and the entries since
  pub origin : Origin
  pub history : List Entry
  -- how many faults other than append faults the keeper had counted at the opening
  pub first_faults : ℕ

-- the account now, if the opening account is told
abbrev pub account_of : State → Option Account
account_of s = option_map (λ opening. replay s.origin.roots opening s.history) s.origin.account

-- this is the account
abbrev pub IsAccount : State → Account → Type 0
IsAccount s account = account_of s ≡ Some account

-- a fact about the account, if the account is told
abbrev pub OfAccount : State → (Account → Type 0) → Type 0
OfAccount s P = (account : Account) → IsAccount s account → P account

-- what the account was opened with stays
pub record Opened (s s' : State) : Type 0 where
  pub origin : s'.origin ≡ s.origin
  pub first_faults : s'.first_faults ≡ s.first_faults

-- the state of an account that was just opened; at the opening the keeper told this and had counted
-- these faults
pub record IsOpened (told : Option Told) (faults : ℕ) (setup : Setup) (epoch : ℕ)
    (s : State) : Type 0 where
  pub roots : s.origin.roots ≡ setup.roots
  pub journal : s.origin.journal ≡ setup.journal
  pub epoch_is : s.origin.epoch ≡ epoch
  pub opening : s.origin.account ≡ opening_of setup epoch told
  pub mailboxes : s.store.mailboxes ≡ setup.mailboxes
  pub history : s.history ≡ []
  pub doubt : (root : ℕ) → standing_at s.store.standings root ≡ Doubt
  pub first_faults : s.first_faults ≡ faults
  pub faults_are : s.store.faults ≡ faults

-- Between two calls the history is legal, and the files agree with the account.
pub record IsInOrder (s : State) : Type 0 where
  pub legal : IsLegal s.origin.journal s.first_faults s.store.faults s.history
  pub agrees : Agrees (IsAccount s) s.store
  pub roots : s.store.roots ≡ s.origin.roots
  pub epoch : s.store.epoch ≡ s.origin.epoch

-- whether the entry of a call with this result has fault; none if the call has no entry
abbrev pub entry_fault : Result Reply StepError → Option Bool
entry_fault (Ok given) = Some false
entry_fault (Err StoreError) = Some true
entry_fault (Err fault) = None

-- what a call does to a state that has room for its entry
pub record ServesNext (caller : ℕ) (call : Call) (bytes : List ℕ) (result : Result Reply StepError)
    (s s' : State) : Type 0 where
  pub opened : Opened s s'
  pub serves : Serves s.origin caller s.history call result s'.history
  pub performs : Performs (IsAccount s) call bytes result s.store s'.store

-- The account that the files made at the opening is orderly. The live account, with the files that
-- there are now, stands for that account after this history.
pub record Holds (setup : Setup) (live : Live) (history : List Entry)
    (then now : Told) : Type 0 where
  pub orderly : IsOrderly 0 (opening_account setup live.epoch then.files)
  pub stands : Stands live
      (replay live.roots (opening_account setup live.epoch then.files) history) now.files

-- the live account and the history are in order, by what the keeper told and had counted at the
-- opening
pub record InOrder (then : Option Told) (first_faults : ℕ) (setup : Setup) (journal : ℕ)
    (live : Live) (history : List Entry) : Type 0 where
  pub sound : IsSound setup
  pub journal_is : journal ≡ setup.journal
  pub roots_are : live.roots ≡ setup.roots
  pub legal : IsLegal journal first_faults live.faults history
  pub delivered : live.deliveries ≤ length history
  pub changed : live.generation ≤ length history
  pub held : Changes (Holds setup live history) then live.told
