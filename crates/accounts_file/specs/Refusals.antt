-- Refusals, and which of several comes first.
use Rattle.std.specs.Prelude.{◌≡◌, ◌⊎◌, ℕ, Bool, true, false, List, [], ◌∷◌, nat_le, if◌then◌else◌, Option, None, Some, Result, IfErr, MatchResult}
use Rattle.accounts_file.specs.declared.key.Key.{Key}
use Rattle.accounts_file.specs.declared.error.AccountsError.{AccountsError}
use Rattle.accounts_file.specs.declared.error.AccountsError.TheVariants.{Missing, BadValue, Double, TooMany, NoMemory}

-- the first refusal in a list, if there is one
abbrev pub first_in : List (Option AccountsError) → Option AccountsError
first_in [] = None
first_in (None ∷ rest) = first_in rest
first_in (Some refusal ∷ rest) = Some refusal

-- the value at the key is good, or refused
abbrev pub judged : Key → Bool → Option AccountsError
judged key true = None
judged key false = Some (BadValue key)

-- the refusal of a value that may be missing: it is refused only if it is there and not good
abbrev pub optional : Key → Option Bool → Option AccountsError
optional key None = None
optional key (Some good) = judged key good

-- the refusal of a value that must be there and must be good
abbrev pub needed : Key → Option Bool → Option AccountsError
needed key None = Some (Missing key)
needed key (Some good) = judged key good

-- the refusal of a list at the key with `count` items, if that is more than `most`
abbrev pub at_most : Key → ℕ → ℕ → Option AccountsError
at_most key most count = if nat_le count most then None else Some (TooMany key)

-- the refusal of a name that occurs twice
abbrev pub double : Option (List ℕ) → Option AccountsError
double None = None
double (Some name) = Some (Double name)

-- what was read is this value, and nothing is refused; or this is the refusal; or memory ran out
abbrev pub IsRead : {A : Type 0} → Option AccountsError → A → Result A AccountsError → Type 0
IsRead refusal value result = MatchResult result (λ read. (refusal ≡ None)
    × (read ≡ value)) (λ e. (e ≡ NoMemory) ⊎ (refusal ≡ Some e))

-- the only error is that memory ran out
abbrev pub OnlyNoMemory : {A : Type 0} → Result A AccountsError → Type 0
OnlyNoMemory result = IfErr result (λ e. e ≡ NoMemory)

-- nothing is refused; or this is the refusal; or memory ran out
abbrev pub Checks : {A : Type 0} → Option AccountsError → Result A AccountsError → Type 0
Checks refusal result =
    MatchResult result (λ _. refusal ≡ None) (λ e. (e ≡ NoMemory) ⊎ (refusal ≡ Some e))
