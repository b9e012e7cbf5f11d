-- Lists of views: one is changed, or one joins them.
use Rattle.std.proofs.Common.{◌≡◌, ◌≢◌, ◌<◌, ◌≤◌, ◌+◌, ℕ, zero, suc, List, [], ◌∷◌, ◌++◌, length, set, refl, sym, ap, ◌∙◌, subst, ◌⊎◌, inl, inr, ⊎_elim, arith}
use mathlib.Core.Option.{some-injective, some-ne-none}
use mathlib.Core.Logic.{dite}
use native.Mathlib.Decide.{ℕ_discrete}
use lib.ListN.{get_elem?}
use Rattle.atomic_table.proofs.Lists.{at_set, set_here, set_else, at_longer}
use Rattle.account_lock.specs.Known.{View}
use Rattle.account_lock.specs.Order.{At, Exists, total}

pub at_within : (views : List View) (i : ℕ) (v : View) → At views i v → i < length views
at_within [] i v at = absurd (some-ne-none v (sym at))
at_within (x ∷ xs) zero v at = omega arith
at_within (x ∷ xs) (suc i) v at = let h = at_within xs i v at in omega arith

pub at_here : (views : List View) (i : ℕ) (v w : View) → At views i v → At (set views i w) i w
at_here views i v w at = set_here views i w (at_within views i v at)

pub at_there : (views : List View) (i j : ℕ) (w u : View) → j ≢ i → At views j u → At (set views i w) j u
at_there views i j w u not at = set_else views i j w not ∙ at

-- one seat has one view
pub same_view : (views : List View) (i j : ℕ) (v w : View) → i ≡ j → At views i v → At views j w → v ≡ w
same_view views i j v w e at at' = some-injective v w (sym at ∙ (ap (get_elem? views) e ∙ at'))

at_end : (views : List View) (w u : View) (j : ℕ) → At (views ++ w ∷ []) j u → At views j u ⊎ ((j ≡ length views) × (w ≡ u))
at_end [] w u zero at = inr (refl, some-injective w u at)
at_end [] w u (suc j) at = absurd (some-ne-none u (sym at))
at_end (x ∷ xs) w u zero at = inl at
at_end (x ∷ xs) w u (suc j) at = ⊎_elim inl (λ t. let e : j ≡ length xs = t.0 in inr (omega arith, t.1)) (at_end xs w u j at)

-- a fact of each view
pub each_set : (P : View → Type 0) (views : List View) (i : ℕ) (w : View) → P w → ((j : ℕ) (u : View) → j ≢ i → At views j u → P u) → (j : ℕ) (u : View) → At (set views i w) j u → P u
each_set P views i w here there j u at = ⊎_elim (λ t. subst P t.1 here) (λ t. there j u t.0 t.1) (at_set views i j w u at)

pub each_end : (P : View → Type 0) (views : List View) (w : View) → P w → ((j : ℕ) (u : View) → At views j u → P u) → (j : ℕ) (u : View) → At (views ++ w ∷ []) j u → P u
each_end P views w here there j u at = ⊎_elim (there j u) (λ t. subst P t.1 here) (at_end views w u j at)

-- a fact of each two views of two seats
module _ (P : View → View → Type 0) (turned : (v w : View) → P v w → P w v) where
  abbrev Pairs : List View → Type 0
  Pairs views = (i j : ℕ) (v w : View) → At views i v → At views j w → i ≢ j → P v w

  pub pairs_set : (views : List View) (i : ℕ) (w : View) → Pairs views → ((j : ℕ) (u : View) → j ≢ i → At views j u → P w u) → Pairs (set views i w)
  pairs_set views i w pairs new j k a b at at' apart = ⊎_elim
      (λ t. ⊎_elim (λ r. absurd (apart (t.0 ∙ sym r.0))) (λ r. subst (λ (z : View). P z b) t.1 (new k b r.0 r.1)) (at_set views i k w b at'))
      (λ t. ⊎_elim (λ r. subst (λ (z : View). P a z) r.1 (turned w a (new j a t.0 t.1))) (λ r. pairs j k a b t.1 r.1 apart) (at_set views i k w b at'))
      (at_set views i j w a at)

  pub pairs_end : (views : List View) (w : View) → Pairs views → ((j : ℕ) (u : View) → At views j u → P w u) → Pairs (views ++ w ∷ [])
  pairs_end views w pairs new j k a b at at' apart = ⊎_elim
      (λ l. ⊎_elim (λ r. pairs j k a b l r apart) (λ r. subst (λ (z : View). P a z) r.1 (turned w a (new j a l))) (at_end views w b k at'))
      (λ t. ⊎_elim (λ r. subst (λ (z : View). P z b) t.1 (new k b r)) (λ r. absurd (apart (t.0 ∙ sym r.0))) (at_end views w b k at'))
      (at_end views w a j at)

-- that there is a view of which a fact holds
pub exists_set : (P Q : View → Type 0) (views : List View) (i : ℕ) (v w : View) → At views i v → (P v → Q w) → ((j : ℕ) (u : View) → j ≢ i → At views j u → P u → Q u) → Exists P views → Exists Q (set views i w)
exists_set P Q views i v w at here there (j, u, at', p) = dite (ℕ_discrete j i)
    (λ e. (i, w, at_here views i v w at, here (subst P (same_view views j i u v e at' at) p)))
    (λ not. (j, u, at_there views i j w u not at', there j u not at' p))

pub exists_end : (P : View → Type 0) (views : List View) (w : View) → Exists P views → Exists P (views ++ w ∷ [])
exists_end P views w (j, u, at, p) = (j, u, at_longer views (w ∷ []) j u at, p)

-- sums over all views
module _ (f : View → ℕ) where
  pub total_set : (views : List View) (i : ℕ) (v w : View) → At views i v → total f (set views i w) + f v ≡ total f views + f w
  total_set [] i v w at = absurd (some-ne-none v (sym at))
  total_set (x ∷ xs) zero v w at = let e : f x ≡ f v = ap f (some-injective x v at) in omega arith
  total_set (x ∷ xs) (suc i) v w at = let h = total_set xs i v w at in omega arith

  pub total_end : (views : List View) (w : View) → total f (views ++ w ∷ []) ≡ total f views + f w
  total_end [] w = omega arith
  total_end (x ∷ xs) w = let h = total_end xs w in omega arith

  pub total_part : (views : List View) (i : ℕ) (v : View) → At views i v → f v ≤ total f views
  total_part [] i v at = absurd (some-ne-none v (sym at))
  total_part (x ∷ xs) zero v at = let e : f x ≡ f v = ap f (some-injective x v at) in omega arith
  total_part (x ∷ xs) (suc i) v at = let h = total_part xs i v at in omega arith

  -- two views of two seats
  pub total_parts : (views : List View) (i j : ℕ) (v w : View) → At views i v → At views j w → i ≢ j → f v + f w ≤ total f views
  total_parts [] i j v w at at' apart = absurd (some-ne-none v (sym at))
  total_parts (x ∷ xs) zero zero v w at at' apart = absurd (apart refl)
  total_parts (x ∷ xs) zero (suc j) v w at at' apart = let e : f x ≡ f v = ap f (some-injective x v at) in let h = total_part xs j w at' in omega arith
  total_parts (x ∷ xs) (suc i) zero v w at at' apart = let e : f x ≡ f w = ap f (some-injective x w at') in let h = total_part xs i v at in omega arith
  total_parts (x ∷ xs) (suc i) (suc j) v w at at' apart = let h = total_parts xs i j v w at at' (λ e. apart (ap suc e)) in omega arith

  total_none : (views : List View) → ((j : ℕ) (u : View) → At views j u → f u ≡ 0) → total f views ≡ 0
  total_none [] others = refl
  total_none (x ∷ xs) others = let e : f x ≡ 0 = others 0 x refl in let h = total_none xs (λ j u a. others (suc j) u a) in omega arith

  -- where all others have none, the sum is that of one
  pub total_alone : (views : List View) (i : ℕ) (v : View) → At views i v → ((j : ℕ) (u : View) → j ≢ i → At views j u → f u ≡ 0) → total f views ≡ f v
  total_alone [] i v at others = absurd (some-ne-none v (sym at))
  total_alone (x ∷ xs) zero v at others = let e : f x ≡ f v = ap f (some-injective x v at) in let h = total_none xs (λ j u a. others (suc j) u (λ z. omega arith) a) in omega arith
  total_alone (x ∷ xs) (suc i) v at others = let e : f x ≡ 0 = others 0 x (λ z. omega arith) refl in let h = total_alone xs i v at (λ j u n a. others (suc j) u (λ z. let y : j ≡ i = omega arith in n y) a) in omega arith

pub total_below : (f g : View → ℕ) (views : List View) → ((j : ℕ) (u : View) → At views j u → f u ≤ g u) → total f views ≤ total g views
total_below f g [] le = omega arith
total_below f g (x ∷ xs) le = let e : f x ≤ g x = le 0 x refl in let h = total_below f g xs (λ j u a. le (suc j) u a) in omega arith
