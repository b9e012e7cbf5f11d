-- What closing accounts does.
use Rattle.std.specs.Prelude.{◌≡◌, ℕ, true, List, [], ◌∷◌, Option, Some}
use Rattle.std.specs.List.{AllZip, sum_by}
use Rattle.keeper.specs.Calls.{Told}
use Rattle.keeper.specs.Accounts.{keeper_in}
use Rattle.account_ledger.specs.States.{State}
use Rattle.accounts_file.specs.declared.entry.AccountEntry.{AccountEntry}
use Rattle.host_opening.specs.Telling.{OthersStay, has_account}
use Rattle.host_opening.specs.Opening.{names_of}

-- the faults other than append faults that the keepers of these accounts have counted, added up
abbrev pub faults_of : List State → ℕ
faults_of states = sum_by (λ s. s.store.faults) states

module _ {K : Type 0} (told : K → Option Told) (faults append_faults lists : K → ℕ) where
  -- the keeper has what this state's store tells and counts
  pub record IsKeeperOf (s : State) (keeper : K) : Type 0 where
    pub told_is : told keeper ≡ s.store.told
    pub faults_are : faults keeper ≡ s.store.faults
    pub append_faults_are : append_faults keeper ≡ s.store.append_faults
    pub lists_are : lists keeper ≡ s.store.lists

  -- the account of this entry has the keeper of this state, if the stores have the account
  abbrev pub IsClosed : List (List ℕ × Option K) → AccountEntry → State → Type 0
  IsClosed accounts entry s = has_account entry.name accounts ≡ true
      → (keeper : K) × (keeper_in entry.name accounts ≡ Some keeper) × IsKeeperOf s keeper

  -- the account of this entry is closed now, and no other has changed
  pub record ClosesOne (entry : AccountEntry) (s : State)
      (accounts accounts' : List (List ℕ × Option K)) : Type 0 where
    pub closed : IsClosed accounts' entry s
    pub others : OthersStay (entry.name ∷ []) accounts accounts'

  -- the accounts of these entries are closed now, and no others have changed
  pub record ClosesEach (entries : List AccountEntry) (states : List State)
      (accounts accounts' : List (List ℕ × Option K)) : Type 0 where
    pub closed : AllZip (IsClosed accounts') entries states
    pub others : OthersStay (names_of entries) accounts accounts'
