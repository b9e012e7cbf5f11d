-- Lists of which one place after the other is changed.
use Rattle.std.proofs.Common.{◌≡◌, ◌<◌, ◌+◌, ℕ, zero, suc, List, [], ◌∷◌, ◌++◌, length, map, set, take, drop, slice_get, Option, Some, None, refl, sym, ap, ◌∙◌, subst, arith, append_assoc}
use Rattle.std.specs.List.{All}
use Rattle.std.proofs.lemmas.List.Elements.{All-nil, All-cons, All-head, All-tail}
use Rattle.account_lock.specs.Known.{View}
use Rattle.account_lock.specs.Views.{joined}
use Rattle.account_host.specs.Sets.{joined_each}

module _ {X : Type 0} where
  pub take_next : (xs : List X) (i : ℕ) (x : X) → slice_get xs i ≡ Some x → take (suc i) xs ≡ take i xs ++ x ∷ []
  take_next [] i x at = absurd cc
  take_next (y ∷ xs) zero x at = let e : y ≡ x = cc in ap (λ (z : X). z ∷ []) e
  take_next (y ∷ xs) (suc i) x at = ap (λ (l : List X). y ∷ l) (take_next xs i x at)

  pub drop_next : (xs : List X) (i : ℕ) (x : X) → slice_get xs i ≡ Some x → drop i xs ≡ x ∷ drop (suc i) xs
  drop_next [] i x at = absurd cc
  drop_next (y ∷ xs) zero x at = let e : y ≡ x = cc in ap (λ (z : X). z ∷ xs) e
  drop_next (y ∷ xs) (suc i) x at = drop_next xs i x at

  pub all_at : (P : X → Type 0) (xs : List X) (i : ℕ) (x : X) → slice_get xs i ≡ Some x → All P xs → P x
  all_at P [] i x at all = absurd cc
  all_at P (y ∷ xs) zero x at all = let e : y ≡ x = cc in subst P e (All-head P y xs all)
  all_at P (y ∷ xs) (suc i) x at all = all_at P xs i x at (All-tail P y xs all)

  -- from a fact of each place
  pub all_of : (P : X → Type 0) (xs : List X) → ((k : ℕ) (x : X) → slice_get xs k ≡ Some x → P x) → All P xs
  all_of P [] each = All-nil P
  all_of P (y ∷ xs) each = All-cons P y xs (each 0 y refl) (all_of P xs (λ k x at. each (suc k) x at))

  pub all_front : (P : X → Type 0) (xs : List X) (x : X) → All P (xs ++ x ∷ []) → All P xs × P x
  all_front P [] x all = (All-nil P, All-head P x [] all)
  all_front P (y ∷ xs) x all =
      let more = all_front P xs x (All-tail P y (xs ++ x ∷ []) all) in
      (All-cons P y xs (All-head P y (xs ++ x ∷ []) all) more.0, more.1)

  -- the element that comes after the first ones
  pub popped_get : (xs : List X) (x : X) (ys : List X) → slice_get ((xs ++ x ∷ []) ++ ys) (length xs) ≡ Some x
  popped_get [] x ys = refl
  popped_get (y ∷ xs) x ys = popped_get xs x ys

  pub get_set : (xs : List X) (i : ℕ) (x y : X) → slice_get xs i ≡ Some x → slice_get (set xs i y) i ≡ Some y
  get_set [] i x y at = absurd cc
  get_set (z ∷ xs) zero x y at = refl
  get_set (z ∷ xs) (suc i) x y at = get_set xs i x y at

module _ {X Y : Type 0} (f : X → Y) where
  pub get_map : (xs : List X) (i : ℕ) (x : X) → slice_get xs i ≡ Some x → slice_get (map f xs) i ≡ Some (f x)
  get_map [] i x at = absurd cc
  get_map (y ∷ xs) zero x at = let e : y ≡ x = cc in ap (λ (z : X). Some (f z)) e
  get_map (y ∷ xs) (suc i) x at = get_map xs i x at

  pub all_unmap : (P : Y → Type 0) (xs : List X) → All P (map f xs) → All (λ x. P (f x)) xs
  all_unmap P [] all = All-nil (λ x. P (f x))
  all_unmap P (x ∷ xs) all = All-cons (λ x. P (f x)) x xs (All-head P (f x) (map f xs) all) (all_unmap P xs (All-tail P (f x) (map f xs) all))

module _ {X : Type 0} (f : X → X) where
  -- the elements before this place are changed
  pub changed_get : (xs : List X) (i : ℕ) → slice_get (map f (take i xs) ++ drop i xs) i ≡ slice_get xs i
  changed_get [] zero = refl
  changed_get [] (suc i) = refl
  changed_get (x ∷ xs) zero = refl
  changed_get (x ∷ xs) (suc i) = changed_get xs i

  pub changed_next : (xs : List X) (i : ℕ) (x : X) → slice_get xs i ≡ Some x → set (map f (take i xs) ++ drop i xs) i (f x) ≡ map f (take (suc i) xs) ++ drop (suc i) xs
  changed_next [] i x at = absurd cc
  changed_next (y ∷ xs) zero x at = let e : y ≡ x = cc in ap (λ (z : X). f z ∷ xs) (sym e)
  changed_next (y ∷ xs) (suc i) x at = ap (λ (l : List X). f y ∷ l) (changed_next xs i x at)

  pub taken_next : (xs : List X) (i : ℕ) (x : X) → slice_get xs i ≡ Some x → map f (take i xs) ++ f x ∷ [] ≡ map f (take (suc i) xs)
  taken_next [] i x at = absurd cc
  taken_next (y ∷ xs) zero x at = let e : y ≡ x = cc in ap (λ (z : X). f z ∷ []) (sym e)
  taken_next (y ∷ xs) (suc i) x at = ap (λ (l : List X). f y ∷ l) (taken_next xs i x at)

-- the views from this place on are joined
pub unjoined_get : (vs ws : List View) (i : ℕ) → slice_get (take (suc i) vs ++ joined_each (drop (suc i) vs) (drop (suc i) ws)) i ≡ slice_get vs i
unjoined_get [] ws zero = refl
unjoined_get [] ws (suc i) = refl
unjoined_get (v ∷ vs) ws zero = refl
unjoined_get (v ∷ vs) [] (suc i) = unjoined_get vs [] i
unjoined_get (v ∷ vs) (w ∷ ws) (suc i) = unjoined_get vs ws i

pub joined_next : (vs ws : List View) (i : ℕ) (v w : View) → slice_get vs i ≡ Some v → slice_get ws i ≡ Some w
    → set (take (suc i) vs ++ joined_each (drop (suc i) vs) (drop (suc i) ws)) i (joined v w) ≡ take i vs ++ joined_each (drop i vs) (drop i ws)
joined_next [] ws i v w at at' = absurd cc
joined_next (x ∷ vs) [] i v w at at' = absurd cc
joined_next (x ∷ vs) (y ∷ ws) zero v w at at' =
    let e : x ≡ v = cc in
    let f : y ≡ w = cc in
    λ i. joined (sym e i) (sym f i) ∷ joined_each vs ws
joined_next (x ∷ vs) (y ∷ ws) (suc i) v w at at' = ap (λ (l : List View). x ∷ l) (joined_next vs ws i v w at at')

-- at the end nothing is joined yet, or all is
pub joined_none : (vs ws : List View) → length ws ≡ length vs → take (length ws) vs ++ joined_each (drop (length ws) vs) (drop (length ws) ws) ≡ vs
joined_none [] [] long = refl
joined_none [] (w ∷ ws) long = absurd (omega arith)
joined_none (v ∷ vs) [] long = absurd (omega arith)
joined_none (v ∷ vs) (w ∷ ws) long = ap (λ (l : List View). v ∷ l) (joined_none vs ws (omega arith))
