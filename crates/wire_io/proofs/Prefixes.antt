-- Two prefixes of one list.
use Rattle.std.proofs.Common.{◌≡◌, ◌⊎◌, List, [], ◌∷◌, ◌++◌, refl, sym, ap, ◌∙◌, inl, inr, append_assoc, append-nil}
use Rattle.std.proofs.lemmas.List.{append_cancel_left}

-- one of two prefixes of a list is a prefix of the other
pub prefixes : {A : Type 0} (a b u v : List A) → a ++ u ≡ b ++ v → ((m : List A) × (b ≡ a ++ m)) ⊎ ((x : A) × (m : List A) × (a ≡ b ++ x ∷ m))
prefixes [] b u v e = inl (b, refl)
prefixes (x ∷ a) [] u v e = inr (x, a, refl)
prefixes (x ∷ a) (y ∷ b) u v e =
    let head : x ≡ y = cc in
    let tail : a ++ u ≡ b ++ v = cc in
    elim (prefixes a b u v tail) [ inl h ↦ inl (h.0, ap (λ z. z ∷ b) (sym head) ∙ ap (λ l. x ∷ l) h.1) | inr h ↦ inr (h.0, h.1, ap (λ z. z ∷ a) head ∙ ap (λ l. y ∷ l) h.2) ]

-- nothing is empty that has an element
pub no_nil : {A : Type 0} (m : List A) (x : A) (more : List A) → [] ≡ m ++ x ∷ more → ⊥
no_nil [] x more e = cc
no_nil (y ∷ m) x more e = cc

-- a prefix of a list with one more element is the list, or a shorter prefix of it
pub prefix_of_push : {A : Type 0} (come : List A) (b : A) (prefix : List A) (x : A) (more : List A) → come ++ b ∷ [] ≡ prefix ++ x ∷ more
    → (come ≡ prefix) ⊎ ((y : A) × (m : List A) × (come ≡ prefix ++ y ∷ m))
prefix_of_push {A} come b prefix x more e = elim (prefixes prefix come (x ∷ more) (b ∷ []) (sym e)) [ inl h ↦ within h.0 h.1 | inr h ↦ beyond h.0 h.1 h.2 ]
  where
    within : (m : List A) → come ≡ prefix ++ m → (come ≡ prefix) ⊎ ((y : A) × (m : List A) × (come ≡ prefix ++ y ∷ m))
    within [] i = inl (i ∙ append-nil prefix)
    within (y ∷ m) i = inr (y, m, i)

    beyond : (z : A) (m : List A) → prefix ≡ come ++ z ∷ m → (come ≡ prefix) ⊎ ((y : A) × (m : List A) × (come ≡ prefix ++ y ∷ m))
    beyond z m i =
        let whole : come ++ b ∷ [] ≡ come ++ (z ∷ m ++ x ∷ more) = e ∙ ap (λ l. l ++ x ∷ more) i ∙ append_assoc come (z ∷ m) (x ∷ more) in
        let tails = append_cancel_left come (b ∷ []) (z ∷ m ++ x ∷ more) whole in
        let rest : [] ≡ m ++ x ∷ more = cc in
        absurd (no_nil m x more rest)
