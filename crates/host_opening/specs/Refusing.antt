-- What opening accounts does, if one is refused.
use Rattle.std.specs.Prelude.{◌≡◌, ◌≢◌, ◌+◌, ℕ, List, [], ◌∷◌, take, slice_get, Option, Some}
use Rattle.std.specs.List.{All}
use Rattle.keeper.specs.Calls.{Told}
use Rattle.account_opening.specs.Admitting.{CanOpen, HasReason}
use Rattle.account_opening.specs.declared.error.OpenError.{OpenError}
use Rattle.account_opening.specs.declared.error.OpenError.TheVariants.{Store, NoMemory}
use Rattle.accounts_file.specs.declared.entry.AccountEntry.{AccountEntry}
use Rattle.host_opening.specs.Telling.{Fails, HasFiles, KeepsFiles, OthersStay}
use Rattle.host_opening.specs.Opening.{names_of}

module _ {K : Type 0} (told : K → Option Told) where
  -- nothing in the files of this entry's account prevents opening it
  abbrev pub MayBeOpened : ℕ → List (List ℕ × Option K) → AccountEntry → Type 0
  MayBeOpened epoch accounts entry =
      HasFiles told entry.name (CanOpen entry.setup epoch) accounts

  -- unless the store failed or memory ran out, the account's files give this cause for a refusal
  abbrev pub GivesCause : ℕ → OpenError → List (List ℕ × Option K) → AccountEntry → Type 0
  GivesCause epoch cause accounts entry = cause ≢ Store → cause ≢ NoMemory
      → HasFiles told entry.name (HasReason entry.setup epoch cause) accounts

  -- the account of this entry is refused, and its keeper is back
  pub record RefusesOne (epoch : ℕ) (cause : OpenError) (entry : AccountEntry)
      (accounts accounts' : List (List ℕ × Option K)) : Type 0 where
    pub reason : GivesCause epoch cause accounts entry
    pub store : cause ≡ Store → Fails told entry.name accounts accounts'
    pub files : KeepsFiles told entry.name accounts accounts'
    pub others : OthersStay (entry.name ∷ []) accounts accounts'

  -- The account of this number is the first that is refused. Its keeper is back, and so are those
  -- of the accounts before it.
  pub record RefusesFirst (epoch : ℕ) (cause : OpenError) (entries : List AccountEntry)
      (accounts accounts' : List (List ℕ × Option K)) : Type 0 where
    pub number : ℕ
    pub refused : AccountEntry
    pub is_there : slice_get entries number ≡ Some refused
    pub before : All (MayBeOpened epoch accounts) (take number entries)
    pub reason : GivesCause epoch cause accounts refused
    pub store : cause ≡ Store → Fails told refused.name accounts accounts'
    pub files : All (λ entry. KeepsFiles told entry.name accounts accounts')
        (take (number + 1) entries)
    pub others : OthersStay (names_of (take (number + 1) entries)) accounts accounts'
