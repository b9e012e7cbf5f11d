-- Fronts that pass a test, and what stands behind them.
use Rattle.std.proofs.Common.{◌≡◌, ℕ, ◌+◌, List, [], ◌∷◌, ◌++◌, Bool, true, false, cond, ◌&&◌, drop, refl, ap, ◌∙◌, sym, ⊎_elim, take-append-drop}
use Rattle.std.proofs.Math.Numerals.{one-add}
use Rattle.std.specs.List.{prefix_len, take_while, list_all}
use Rattle.std.proofs.lemmas.Bool.{cases_Bool, false≢true}
use Rattle.std.proofs.lemmas.List.Sums.{take_while-cons}
use Rattle.maildirsize.specs.Prefixes.{skip_while, begins_with}

drop_either : (b : Bool) (n x : ℕ) (xs : List ℕ) → drop (cond b (1 + n) 0) (x ∷ xs) ≡ cond b (drop n xs) (x ∷ xs)
drop_either true n x xs = rw one-add
drop_either false n x xs = refl

pub skip_while-cons : (p : ℕ → Bool) (x : ℕ) (xs : List ℕ) → skip_while p (x ∷ xs) ≡ cond (p x) (skip_while p xs) (x ∷ xs)
skip_while-cons p x xs = drop_either (p x) (prefix_len p xs) x xs

pub take_yes : (p : ℕ → Bool) (x : ℕ) (xs : List ℕ) → p x ≡ true → take_while p (x ∷ xs) ≡ x ∷ take_while p xs
take_yes p x xs h = take_while-cons p x xs ∙ ap (λ b. cond b (x ∷ take_while p xs) []) h

pub take_no : (p : ℕ → Bool) (x : ℕ) (xs : List ℕ) → p x ≡ false → take_while p (x ∷ xs) ≡ []
take_no p x xs h = take_while-cons p x xs ∙ ap (λ b. cond b (x ∷ take_while p xs) []) h

pub skip_yes : (p : ℕ → Bool) (x : ℕ) (xs : List ℕ) → p x ≡ true → skip_while p (x ∷ xs) ≡ skip_while p xs
skip_yes p x xs h = skip_while-cons p x xs ∙ ap (λ b. cond b (skip_while p xs) (x ∷ xs)) h

pub skip_no : (p : ℕ → Bool) (x : ℕ) (xs : List ℕ) → p x ≡ false → skip_while p (x ∷ xs) ≡ x ∷ xs
skip_no p x xs h = skip_while-cons p x xs ∙ ap (λ b. cond b (skip_while p xs) (x ∷ xs)) h

-- a list is its prefix and what stands behind
pub take_while-append-skip_while : (p : ℕ → Bool) (xs : List ℕ) → take_while p xs ++ skip_while p xs ≡ xs
take_while-append-skip_while p xs = take-append-drop (prefix_len p xs) xs

pub begins_with-skip_while : (p : ℕ → Bool) (xs : List ℕ) → begins_with p (skip_while p xs) ≡ false
begins_with-skip_while p [] = refl
begins_with-skip_while p (x ∷ xs) = ⊎_elim
    (λ (h : p x ≡ true). ap (begins_with p) (skip_yes p x xs h) ∙ begins_with-skip_while p xs)
    (λ (h : p x ≡ false). ap (begins_with p) (skip_no p x xs h) ∙ h)
    (cases_Bool (p x))

pub prefix_none : (p : ℕ → Bool) (xs : List ℕ) → begins_with p xs ≡ false → take_while p xs ≡ []
prefix_none p [] h = refl
prefix_none p (x ∷ xs) h = take_no p x xs h

pub skip_none : (p : ℕ → Bool) (xs : List ℕ) → begins_with p xs ≡ false → skip_while p xs ≡ xs
skip_none p [] h = refl
skip_none p (x ∷ xs) h = skip_no p x xs h

pub list_all_cons : (p : ℕ → Bool) (x : ℕ) (xs : List ℕ) → p x ≡ true → list_all p xs ≡ true → list_all p (x ∷ xs) ≡ true
list_all_cons p x xs h k = ap (λ b. b && list_all p xs) h ∙ k

pub list_all-take_while : (p : ℕ → Bool) (xs : List ℕ) → list_all p (take_while p xs) ≡ true
list_all-take_while p [] = refl
list_all-take_while p (x ∷ xs) = ⊎_elim
    (λ (h : p x ≡ true). ap (list_all p) (take_yes p x xs h) ∙ list_all_cons p x (take_while p xs) h (list_all-take_while p xs))
    (λ (h : p x ≡ false). ap (list_all p) (take_no p x xs h))
    (cases_Bool (p x))

-- where another test passes what p passes, its prefix goes on behind that of p
module _ (p q : ℕ → Bool) (wider : (x : ℕ) → p x ≡ true → q x ≡ true) where
  pub prefix_wider : (xs : List ℕ) → take_while q xs ≡ take_while p xs ++ take_while q (skip_while p xs)
  prefix_wider [] = refl
  prefix_wider (x ∷ xs) = ⊎_elim
      (λ (h : p x ≡ true). take_yes q x xs (wider x h) ∙ ap (λ ys. x ∷ ys) (prefix_wider xs)
      ∙ sym (ap (λ ys. ys ++ take_while q (skip_while p (x ∷ xs))) (take_yes p x xs h)
      ∙ ap (λ ys. (x ∷ take_while p xs) ++ take_while q ys) (skip_yes p x xs h)))
      (λ (h : p x ≡ false). sym (ap (λ ys. ys ++ take_while q (skip_while p (x ∷ xs))) (take_no p x xs h)
      ∙ ap (take_while q) (skip_no p x xs h)))
      (cases_Bool (p x))

  pub skip_wider : (xs : List ℕ) → skip_while q xs ≡ skip_while q (skip_while p xs)
  skip_wider [] = refl
  skip_wider (x ∷ xs) = ⊎_elim
      (λ (h : p x ≡ true). skip_yes q x xs (wider x h) ∙ skip_wider xs ∙ ap (skip_while q) (sym (skip_yes p x xs h)))
      (λ (h : p x ≡ false). ap (skip_while q) (sym (skip_no p x xs h)))
      (cases_Bool (p x))

-- a prefix of q that p does not begin has an element that p refuses
pub prefix_mixed : (p q : ℕ → Bool) (xs : List ℕ) → begins_with p xs ≡ false → begins_with q xs ≡ true
    → list_all p (take_while q xs) ≡ false
prefix_mixed p q [] h k = absurd (false≢true k)
prefix_mixed p q (x ∷ xs) h k = ap (list_all p) (take_yes q x xs k) ∙ ap (λ b. b && list_all p (take_while q xs)) h
