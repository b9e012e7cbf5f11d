-- Entries that are dropped.
use Rattle.std.proofs.Common.{◌≡◌, ◌<◌, ◌≤◌, Bool, true, false, not, ◌||◌, cond, List, [], ◌∷◌, length, filter, arith}
use Rattle.std.specs.List.{list_any}

fewer_step : {X : Type 0} (b : Bool) (x : X) (xs kept : List X) → length kept ≤ length xs → length (cond (not b) (x ∷ kept) kept) ≤ length (x ∷ xs)
fewer_step true x xs kept h = omega arith
fewer_step false x xs kept h = omega arith

no_more_left : {X : Type 0} (p : X → Bool) (xs : List X) → length (filter (λ x. not (p x)) xs) ≤ length xs
no_more_left p [] = omega arith
no_more_left p (x ∷ xs) = fewer_step (p x) x xs (filter (λ y. not (p y)) xs) (no_more_left p xs)

fewer_at : {X : Type 0} (b rest : Bool) (x : X) (xs kept : List X) → length kept ≤ length xs → (rest ≡ true → length kept < length xs) → (b || rest) ≡ true
    → length (cond (not b) (x ∷ kept) kept) < length (x ∷ xs)
fewer_at true rest x xs kept most fewer any = omega arith
fewer_at false rest x xs kept most fewer any = let h : length kept < length xs = fewer any in omega arith

pub fewer_left : {X : Type 0} (p : X → Bool) (xs : List X) → list_any p xs ≡ true → length (filter (λ x. not (p x)) xs) < length xs
fewer_left p [] any = absurd (cc)
fewer_left p (x ∷ xs) any =
    fewer_at (p x) (list_any p xs) x xs (filter (λ y. not (p y)) xs) (no_more_left p xs) (fewer_left p xs) any
