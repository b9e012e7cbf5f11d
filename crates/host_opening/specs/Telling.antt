-- What stores tell of the accounts of some names, before and after some accounts were opened or
-- closed.
use Rattle.std.specs.Prelude.{◌≡◌, ◌≢◌, ◌<◌, ◌≤◌, ◌⊎◌, ℕ, Bool, true, List, map, bytes_eq, Option, Some, None, IfSome}
use Rattle.std.specs.List.{All, list_any}
use Rattle.keeper.specs.Files.{Files}
use Rattle.keeper.specs.Calls.{Told, Changes}
use Rattle.keeper.specs.Accounts.{keeper_in}

-- the files are the same, and no more failures are due than before
pub record SameFiles (told told' : Told) : Type 0 where
  pub files : told'.files ≡ told.files
  pub due : told'.due ≤ told.due

-- a failure that was due is used up
abbrev pub UsesUpDue : Told → Told → Type 0
UsesUpDue told told' = told'.due < told.due

module _ {K : Type 0} where
  -- the names of the accounts that the stores have
  abbrev pub names_in : List (List ℕ × Option K) → List (List ℕ)
  names_in accounts = map (λ account. account.0) accounts

  -- the stores have an account of this name
  abbrev pub has_account : List ℕ → List (List ℕ × Option K) → Bool
  has_account name accounts = list_any (λ other. bytes_eq other name) (names_in accounts)

  -- the stores have an account of this name, and it is open
  pub record IsOpen (name : List ℕ) (accounts : List (List ℕ × Option K)) : Type 0 where
    pub there : has_account name accounts ≡ true
    pub taken : keeper_in name accounts ≡ None

  -- the stores have the accounts that they had, and any account that has none of these names is
  -- told as before
  pub record OthersStay (names : List (List ℕ)) (accounts accounts' : List (List ℕ × Option K))
      : Type 0 where
    pub accounts_stay : names_in accounts' ≡ names_in accounts
    pub others : (other : List ℕ) → All (λ name. name ≢ other) names
        → keeper_in other accounts' ≡ keeper_in other accounts

  module _ (told : K → Option Told) where
    -- the account of this name is not open, and this holds of its files, if its keeper tells them
    abbrev pub HasFiles : List ℕ → (Files → Type 0) → List (List ℕ × Option K) → Type 0
    HasFiles name P accounts = (keeper : K) × (keeper_in name accounts ≡ Some keeper)
        × IfSome (told keeper) (λ t. P t.files)

    -- the account of this name is open if it was open before, and its files are the same
    abbrev pub KeepsFiles : List ℕ → (accounts accounts' : List (List ℕ × Option K)) → Type 0
    KeepsFiles name accounts accounts' =
        Changes (λ keeper keeper'. Changes SameFiles (told keeper) (told keeper'))
        (keeper_in name accounts) (keeper_in name accounts')

    -- the stores did not give out the keeper of the account of this name, or the keeper failed, and
    -- a failure that was due is used up
    abbrev pub Fails : List ℕ → (accounts accounts' : List (List ℕ × Option K)) → Type 0
    Fails name accounts accounts' =
        (keeper_in name accounts' ≡ keeper_in name accounts)
        ⊎ Changes (λ keeper keeper'. Changes UsesUpDue (told keeper) (told keeper'))
        (keeper_in name accounts) (keeper_in name accounts')
