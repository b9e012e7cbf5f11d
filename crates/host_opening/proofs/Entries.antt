-- Entries of a host's accounts by their numbers, and lists that go with them.
use Rattle.std.proofs.Common.{◌≡◌, ◌≢◌, ℕ, ◌+◌, ◌-◌, ◌<◌, ◌≤◌, List, [], ◌∷◌, ◌++◌, length, map, get_or, take, drop, length-take, length-drop, slice_get, Some, arith, refl, ◌∙◌, sym, ap, subst}
use Rattle.std.specs.List.{All, AllZip}
use Rattle.std.proofs.lemmas.List.{take_more, drop_more, get_or-take, get_or-drop}
use Rattle.std.proofs.lemmas.List.Elements.{All-nil, All-cons, All-head, All-tail}
use Rattle.std.proofs.lemmas.Option.{slice_get_within, get_or_from_slice_get, slice_get-get_or}
use Rattle.accounts_file.specs.Hosts.{AreAccounts, named}
use Rattle.accounts_file.specs.declared.entry.AccountEntry.{AccountEntry}
use Rattle.accounts_file.proofs.LookupLemmas.{different_logins}

module _ {X : Type 0} where
  pub take_next : (xs : List X) (i : ℕ) (x : X) → slice_get xs i ≡ Some x → take (i + 1) xs ≡ take i xs ++ x ∷ []
  take_next xs i x read =
      take_more xs i x (slice_get_within xs i x read) ∙ ap (λ (y : X). take i xs ++ y ∷ []) (get_or_from_slice_get xs i x x read)

  pub drop_next : (xs : List X) (i : ℕ) (x : X) → slice_get xs i ≡ Some x → drop i xs ≡ x ∷ drop (i + 1) xs
  drop_next xs i x read =
      drop_more xs i x (slice_get_within xs i x read) ∙ ap (λ (y : X). y ∷ drop (i + 1) xs) (get_or_from_slice_get xs i x x read)

  -- an element among the first n
  pub read_first : (xs : List X) (n i : ℕ) (x : X) → i < n → slice_get xs i ≡ Some x → slice_get (take n xs) i ≡ Some x
  read_first xs n i x within read =
      let inside : i < length xs = slice_get_within xs i x read in
      let first : i < length (take n xs) = grind (arith, length-take) in
      slice_get-get_or (take n xs) i x first ∙ ap Some (get_or-take n xs i x within ∙ get_or_from_slice_get xs i x x read)

module _ {A B : Type 0} where
  pub zip_push : (R : A → B → Type 0) (xs : List A) (ys : List B) (x : A) (y : B) → AllZip R xs ys → R x y → AllZip R (xs ++ x ∷ []) (ys ++ y ∷ [])
  zip_push R [] [] x y all r = (r, tt)
  zip_push R [] (z ∷ ys) x y all r = absurd all
  zip_push R (z ∷ xs) [] x y all r = absurd all
  zip_push R (a ∷ xs) (b ∷ ys) x y all r = (all.0, zip_push R xs ys x y all.1 r)

  -- what both relations give of each element of the first list
  pub zip_first : (R S : A → B → Type 0) (P : A → Type 0) → ((x : A) (y : B) → R x y → S x y → P x) → (xs : List A) (ys : List B) → AllZip R xs ys → AllZip S xs ys → All P xs
  zip_first R S P gives [] [] r s = All-nil P
  zip_first R S P gives [] (y ∷ ys) r s = absurd r
  zip_first R S P gives (x ∷ xs) [] r s = absurd r
  zip_first R S P gives (x ∷ xs) (y ∷ ys) r s = All-cons P x xs (gives x y r.0 s.0) (zip_first R S P gives xs ys r.1 s.1)

  -- a relation gives another at elements of which P holds
  pub zip_still : (R S : A → B → Type 0) (P : A → Type 0) → ((x : A) (y : B) → P x → R x y → S x y) → (xs : List A) (ys : List B) → All P xs → AllZip R xs ys → AllZip S xs ys
  zip_still R S P gives [] [] p r = tt
  zip_still R S P gives [] (y ∷ ys) p r = absurd r
  zip_still R S P gives (x ∷ xs) [] p r = absurd r
  zip_still R S P gives (x ∷ xs) (y ∷ ys) p r = (gives x y (All-head P x xs p) r.0, zip_still R S P gives xs ys (All-tail P x xs p) r.1)

module _ (entries : List AccountEntry) (are : AreAccounts entries) where
  -- accounts of different numbers have different names
  apart : (k i : ℕ) (x e : AccountEntry) → slice_get entries k ≡ Some x → slice_get entries i ≡ Some e → k ≢ i → x.name ≢ e.name
  apart k i x e at_k at_i differ same =
      let by = (different_logins entries are).by_name in
      let here : named entries x.name ≡ Some k = by k x at_k in
      let there : named entries e.name ≡ Some i = by i e at_i in
      let one : Some k ≡ Some i = sym here ∙ ap (named entries) same ∙ there in
      differ (cc)

  -- no account before this one has its name, and none after it
  pub before_apart : (i : ℕ) (e : AccountEntry) → slice_get entries i ≡ Some e → All (λ (x : AccountEntry). x.name ≢ e.name) (take i entries)
  before_apart i e at_i k d lt =
      let inside : i < length entries = slice_get_within entries i e at_i in
      let small : k < i = grind (arith, length-take) in
      let within : k < length entries = omega arith in
      let read = slice_get-get_or entries k d within in
      subst (λ (x : AccountEntry). x.name ≢ e.name) (sym (get_or-take i entries k d small)) (apart k i (get_or entries k d) e read at_i (λ is. absurd (omega (arith, is))))

  pub after_apart : (n i : ℕ) (e : AccountEntry) → slice_get entries i ≡ Some e → All (λ (x : AccountEntry). x.name ≢ e.name) (drop (i + 1) (take n entries))
  after_apart n i e at_i k d lt =
      let long = length (take n entries) in
      let left : k < long - (i + 1) = grind (arith, length-drop) in
      let inner : (i + 1) + k < long = omega arith in
      let small : (i + 1) + k < n = grind (arith, length-take) in
      let within : (i + 1) + k < length entries = grind (arith, length-take) in
      let read = slice_get-get_or entries ((i + 1) + k) d within in
      let is : get_or (drop (i + 1) (take n entries)) k d ≡ get_or entries ((i + 1) + k) d = get_or-drop (i + 1) (take n entries) k d ∙ get_or-take n entries ((i + 1) + k) d small in
      subst (λ (x : AccountEntry). x.name ≢ e.name) (sym is) (apart ((i + 1) + k) i (get_or entries ((i + 1) + k) d) e read at_i (λ same. absurd (omega (arith, same))))
