-- What opening accounts does, if none is refused.
use Rattle.std.specs.Prelude.{◌≡◌, ℕ, List, [], ◌∷◌, map, Option, Some}
use Rattle.std.specs.List.{All, AllZip}
use Rattle.keeper.specs.Calls.{Told, Changes, OnFiles, Due}
use Rattle.keeper.specs.Accounts.{keeper_in}
use Rattle.account_opening.specs.Admitting.{MayOpen}
use Rattle.account_ledger.specs.States.{State, IsInOrder, IsOpened}
use Rattle.accounts_file.specs.declared.entry.AccountEntry.{AccountEntry}
use Rattle.host_opening.specs.Telling.{IsOpen, OthersStay}

-- the state of an account that was just opened with the setup of this entry, over a keeper that
-- told this and had counted no fault
pub record IsOpenedWith (told : Option Told) (epoch : ℕ) (entry : AccountEntry) (s : State)
    : Type 0 where
  pub opened : IsOpened told 0 entry.setup epoch s
  pub admitted : Changes (OnFiles (MayOpen entry.setup epoch)) told s.store.told
  pub due : Due ⊥ 0 0 s.store.faults s.store.append_faults told s.store.told
  pub no_append_fault : s.store.append_faults ≡ 0
  pub order : IsInOrder s

-- the same, whatever the keeper told
abbrev pub WasOpened : ℕ → AccountEntry → State → Type 0
WasOpened epoch entry s = (told : Option Told) × IsOpenedWith told epoch entry s

abbrev pub names_of : List AccountEntry → List (List ℕ)
names_of entries = map (λ entry. entry.name) entries

module _ {K : Type 0} (told : K → Option Told) where
  -- the account was opened over the keeper that the stores told under its name
  abbrev pub IsOpenedFrom : ℕ → List (List ℕ × Option K) → AccountEntry → State → Type 0
  IsOpenedFrom epoch accounts entry s = (keeper : K) × (keeper_in entry.name accounts ≡ Some keeper)
      × IsOpenedWith (told keeper) epoch entry s

  -- the account of this entry is open now, and no other has changed
  pub record OpensOne (epoch : ℕ) (entry : AccountEntry) (s : State)
      (accounts accounts' : List (List ℕ × Option K)) : Type 0 where
    pub kept : IsOpenedFrom epoch accounts entry s
    pub open_now : IsOpen entry.name accounts'
    pub others : OthersStay (entry.name ∷ []) accounts accounts'

  -- the accounts of these entries are open now, and no others have changed
  pub record OpensEach (epoch : ℕ) (entries : List AccountEntry) (states : List State)
      (accounts accounts' : List (List ℕ × Option K)) : Type 0 where
    pub kept : AllZip (IsOpenedFrom epoch accounts) entries states
    pub open_now : All (λ entry. IsOpen entry.name accounts') entries
    pub others : OthersStay (names_of entries) accounts accounts'
