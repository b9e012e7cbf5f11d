-- Which numbers are in a list, and in what a filter keeps of it.
use Rattle.std.proofs.Common.{◌≡◌, ℕ, zero, suc, ◌+◌, ◌<◌, ◌≤◌, Bool, true, false, cond, ◌&&◌, ◌||◌, List, [], ◌∷◌, get_or, eqb, arith, refl, sym, ◌∙◌, ap, subst, inl, inr}
use Rattle.std.specs.List.{Contains, filter, list_any, range_with_len}
use Rattle.std.proofs.lemmas.Bool.{eqb-true, eq-eqb, cases_Bool, or_cases, false≢true}
use Rattle.std.proofs.lemmas.Bool.Decides.{nat_tests}
use Rattle.std.proofs.lemmas.List.Folds.{Any-from_list_any, list_any-from_Any}

-- the test of membership
abbrev pub is_in : ℕ → List ℕ → Bool
is_in x xs = list_any (λ y. eqb y x) xs

pub is_in-from_Contains : (xs : List ℕ) (x : ℕ) → Contains xs x → is_in x xs ≡ true
is_in-from_Contains xs x c = list_any-from_Any (λ y. eqb y x) xs (c.0, x, c.1, c.2, eq-eqb x x refl)

pub Contains-from_is_in : (xs : List ℕ) (x : ℕ) → is_in x xs ≡ true → Contains xs x
Contains-from_is_in xs x h =
    let a = Any-from_list_any (λ y. eqb y x) xs h in
    let same : a.1 ≡ x = eqb-true a.1 x a.4 in
    (a.0, a.2, subst (λ z. get_or xs a.0 z ≡ z) same a.3)

yes : (y x : ℕ) (some keeps : Bool) → (y ≡ x → keeps ≡ true) → (eqb y x || (some && keeps)) ≡ ((eqb y x || some) && keeps)
yes y x some keeps h = grind (arith, nat_tests)

no : (y x : ℕ) (some keeps : Bool) → (y ≡ x → keeps ≡ false) → (some && keeps) ≡ ((eqb y x || some) && keeps)
no y x some keeps h = grind (arith, nat_tests)

kept : (p : ℕ → Bool) (y x : ℕ) (some : Bool) (more : List ℕ) → is_in x more ≡ (some && p x) → is_in x (cond (p y) (y ∷ more) more) ≡ ((eqb y x || some) && p x)
kept p y x some more h = elim (cases_Bool (p y)) [
  | inl e ↦ ap (λ b. is_in x (cond b (y ∷ more) more)) e ∙ (ap (λ b. eqb y x || b) h ∙ yes y x some (p x) (λ s. sym (ap p s) ∙ e))
  | inr e ↦ ap (λ b. is_in x (cond b (y ∷ more) more)) e ∙ (h ∙ no y x some (p x) (λ s. sym (ap p s) ∙ e))
]

pub is_in-filter : (p : ℕ → Bool) (x : ℕ) (xs : List ℕ) → is_in x (filter p xs) ≡ (is_in x xs && p x)
is_in-filter p x [] = refl
is_in-filter p x (y ∷ ys) = kept p y x (is_in x ys) (filter p ys) (is_in-filter p x ys)

pub is_in-range : (x n a : ℕ) → is_in x (range_with_len a n) ≡ true → (a ≤ x) × (x < a + n)
is_in-range x zero a h = absurd (false≢true h)
is_in-range x (suc n) a h = elim (or_cases _ _ h) [
  | inl e ↦ let same = eqb-true a x e in (omega arith, omega arith)
  | inr e ↦ let rest = is_in-range x n (a + 1) e in (omega arith, omega arith)
]

later : (x n a : ℕ) → (a + 1 ≤ x → x < a + 1 + n → is_in x (range_with_len (a + 1) n) ≡ true) → a ≤ x → x < a + suc n → (eqb a x || is_in x (range_with_len (a + 1) n)) ≡ true
later x n a rest above below = grind (arith, nat_tests)

pub range-is_in : (x n a : ℕ) → a ≤ x → x < a + n → is_in x (range_with_len a n) ≡ true
range-is_in x zero a above below = absurd (omega arith)
range-is_in x (suc n) a above below = later x n a (range-is_in x n (a + 1)) above below
