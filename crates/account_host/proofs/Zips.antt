-- Two lists whose elements are related place by place.
use Rattle.std.proofs.Common.{◌≡◌, ◌<◌, ◌+◌, ℕ, zero, suc, List, [], ◌∷◌, ◌++◌, length, map, reverse, slice_get, Option, Some, None, refl, sym, ap, ◌∙◌, subst, arith}
use Rattle.std.specs.List.{All, AllZip}
use Rattle.std.proofs.lemmas.List.Elements.{All-nil, All-cons, All-head, All-tail}
use mathlib.Core.List.{reverse-cons}

module _ {A B : Type 0} (R : A → B → Type 0) where
  pub zip_push : (xs : List A) (ys : List B) (x : A) (y : B) → AllZip R xs ys → R x y → AllZip R (xs ++ x ∷ []) (ys ++ y ∷ [])
  zip_push [] [] x y all r = (r, tt)
  zip_push [] (b ∷ ys) x y all r = absurd all
  zip_push (a ∷ xs) [] x y all r = absurd all
  zip_push (a ∷ xs) (b ∷ ys) x y all r = (all.0, zip_push xs ys x y all.1 r)

  pub zip_pop : (xs : List A) (ys : List B) (x : A) (y : B) → AllZip R (xs ++ x ∷ []) (ys ++ y ∷ []) → AllZip R xs ys × R x y
  zip_pop [] [] x y all = (tt, all.0)
  zip_pop [] (b ∷ []) x y all = absurd all.1
  zip_pop [] (b ∷ d ∷ ys) x y all = absurd all.1
  zip_pop (a ∷ []) [] x y all = absurd all.1
  zip_pop (a ∷ d ∷ xs) [] x y all = absurd all.1
  zip_pop (a ∷ xs) (b ∷ ys) x y all = let more = zip_pop xs ys x y all.1 in ((all.0, more.0), more.1)

  pub zip_append : (xs more : List A) (ys others : List B) → AllZip R xs ys → AllZip R more others → AllZip R (xs ++ more) (ys ++ others)
  zip_append [] more [] others all also = also
  zip_append [] more (b ∷ ys) others all also = absurd all
  zip_append (a ∷ xs) more [] others all also = absurd all
  zip_append (a ∷ xs) more (b ∷ ys) others all also = (all.0, zip_append xs more ys others all.1 also)

  pub zip_reverse : (xs : List A) (ys : List B) → AllZip R xs ys → AllZip R (reverse xs) (reverse ys)
  zip_reverse [] [] all = tt
  zip_reverse [] (b ∷ ys) all = absurd all
  zip_reverse (a ∷ xs) [] all = absurd all
  zip_reverse (a ∷ xs) (b ∷ ys) all =
      subst (λ (z : List A × List B). AllZip R z.0 z.1) (λ i. (sym (reverse-cons a xs) i, sym (reverse-cons b ys) i))
      (zip_push (reverse xs) (reverse ys) a b (zip_reverse xs ys all.1) all.0)

  pub zip_none : (ys : List B) → AllZip R [] ys → ys ≡ []
  zip_none [] all = refl
  zip_none (b ∷ ys) all = absurd all

  pub zip_at : (xs : List A) (ys : List B) (k : ℕ) (x : A) (y : B) → AllZip R xs ys → slice_get xs k ≡ Some x → slice_get ys k ≡ Some y → R x y
  zip_at [] ys k x y all at at' = absurd cc
  zip_at (a ∷ xs) [] k x y all at at' = absurd all
  zip_at (a ∷ xs) (b ∷ ys) zero x y all at at' =
      let e : a ≡ x = cc in
      let f : b ≡ y = cc in
      subst (λ (z : A × B). R z.0 z.1) (λ i. (e i, f i)) all.0
  zip_at (a ∷ xs) (b ∷ ys) (suc k) x y all at at' = zip_at xs ys k x y all.1 at at'

  -- from a fact of each place
  pub zipped : (xs : List A) (ys : List B) → length ys ≡ length xs → ((k : ℕ) (x : A) (y : B) → slice_get xs k ≡ Some x → slice_get ys k ≡ Some y → R x y) → AllZip R xs ys
  zipped [] [] long each = tt
  zipped [] (b ∷ ys) long each = absurd (omega arith)
  zipped (a ∷ xs) [] long each = absurd (omega arith)
  zipped (a ∷ xs) (b ∷ ys) long each = (each 0 a b refl refl, zipped xs ys (omega arith) (λ k x y at at'. each (suc k) x y at at'))

  -- what the relation gives of each element of the second list
  pub all_second : (P : B → Type 0) → ((x : A) (y : B) → R x y → P y) → (xs : List A) (ys : List B) → AllZip R xs ys → All P ys
  all_second P gives [] [] all = All-nil P
  all_second P gives [] (b ∷ ys) all = absurd all
  all_second P gives (a ∷ xs) [] all = absurd all
  all_second P gives (a ∷ xs) (b ∷ ys) all = All-cons P b ys (gives a b all.0) (all_second P gives xs ys all.1)

  -- and from a fact of the first
  pub all_along : (P : A → Type 0) (Q : B → Type 0) → ((x : A) (y : B) → P x → R x y → Q y) → (xs : List A) (ys : List B) → All P xs → AllZip R xs ys → All Q ys
  all_along P Q gives [] [] p all = All-nil Q
  all_along P Q gives [] (b ∷ ys) p all = absurd all
  all_along P Q gives (a ∷ xs) [] p all = absurd all
  all_along P Q gives (a ∷ xs) (b ∷ ys) p all = All-cons Q b ys (gives a b (All-head P a xs p) all.0) (all_along P Q gives xs ys (All-tail P a xs p) all.1)

module _ {A B C : Type 0} where
  pub zip_map_right : (R : A → C → Type 0) (f : B → C) (xs : List A) (ys : List B) → AllZip (λ x y. R x (f y)) xs ys → AllZip R xs (map f ys)
  zip_map_right R f [] [] all = tt
  zip_map_right R f [] (b ∷ ys) all = absurd all
  zip_map_right R f (a ∷ xs) [] all = absurd all
  zip_map_right R f (a ∷ xs) (b ∷ ys) all = (all.0, zip_map_right R f xs ys all.1)

  pub zip_map_left : (R : C → B → Type 0) (f : A → C) (xs : List A) (ys : List B) → AllZip (λ x y. R (f x) y) xs ys → AllZip R (map f xs) ys
  zip_map_left R f [] [] all = tt
  zip_map_left R f [] (b ∷ ys) all = absurd all
  zip_map_left R f (a ∷ xs) [] all = absurd all
  zip_map_left R f (a ∷ xs) (b ∷ ys) all = (all.0, zip_map_left R f xs ys all.1)

  -- two relations, one after the other
  pub zip_through : (R : A → B → Type 0) (S : B → C → Type 0) (T : A → C → Type 0) → ((x : A) (y : B) (z : C) → R x y → S y z → T x z)
      → (xs : List A) (ys : List B) (zs : List C) → AllZip R xs ys → AllZip S ys zs → AllZip T xs zs
  zip_through R S T gives [] [] [] r s = tt
  zip_through R S T gives [] [] (d ∷ zs) r s = absurd s
  zip_through R S T gives [] (b ∷ ys) zs r s = absurd r
  zip_through R S T gives (a ∷ xs) [] zs r s = absurd r
  zip_through R S T gives (a ∷ xs) (b ∷ ys) [] r s = absurd s
  zip_through R S T gives (a ∷ xs) (b ∷ ys) (d ∷ zs) r s = (gives a b d r.0 s.0, zip_through R S T gives xs ys zs r.1 s.1)

module _ {A : Type 0} where
  -- each element is related to itself
  pub zip_itself : (R : A → A → Type 0) (P : A → Type 0) → ((x : A) → P x → R x x) → (xs : List A) → All P xs → AllZip R xs xs
  zip_itself R P gives [] p = tt
  zip_itself R P gives (a ∷ xs) p = (gives a (All-head P a xs p), zip_itself R P gives xs (All-tail P a xs p))
