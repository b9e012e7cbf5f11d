-- What stores tell contracts: the names of their accounts, each with its keeper unless the account
-- is open. If a name occurs twice, the first account of that name counts.
use Rattle.std.specs.Prelude.{◌≡◌, ℕ, if◌then◌else◌, List, [], ◌∷◌, bytes_eq, Option, Some, None, Result, Ok, Err}

-- the keeper of the account of this name; none if the account is open, or if no account has the
-- name
abbrev pub keeper_in : {K : Type 0} → List ℕ → List (List ℕ × Option K) → Option K
keeper_in name [] = None
keeper_in name (account ∷ accounts) =
    if bytes_eq account.0 name then account.1 else keeper_in name accounts

-- the accounts, with this keeper or none for the account of this name; nothing changes if no
-- account has the name
abbrev pub with_keeper : {K : Type 0} → List ℕ → Option K → List (List ℕ × Option K)
    → List (List ℕ × Option K)
with_keeper name kept [] = []
with_keeper name kept (account ∷ accounts) =
    if bytes_eq account.0 name then (account.0, kept) ∷ accounts
    else account ∷ with_keeper name kept accounts

-- open: gives the keeper that was told of the account, as it was except for its faults, which are
-- forgotten; the account is open then
abbrev pub Opens : {K E : Type 0} → (K → K → Type 0) → List ℕ → Result K E
    → List (List ℕ × Option K) → List (List ℕ × Option K) → Type 0
Opens {K} IsSame name (Ok keeper) accounts accounts' =
    (kept : K) × (keeper_in name accounts ≡ Some kept) × IsSame kept keeper
    × (accounts' ≡ with_keeper name None accounts)
Opens IsSame name (Err e) accounts accounts' = accounts' ≡ accounts

-- close: the account of this name has the given keeper
abbrev pub Closes : {K : Type 0} → List ℕ → K → List (List ℕ × Option K) → List (List ℕ × Option K)
    → Type 0
Closes name keeper accounts accounts' = accounts' ≡ with_keeper name (Some keeper) accounts
