-- The flags of letters, letter by letter.
use Rattle.std.proofs.Common.{◌≡◌, ℕ, ◌==◌, List, [], ◌∷◌, Bool, true, false, cond, refl, ap, ◌∙◌, sym, ⊎_elim}
use Rattle.std.specs.List.{list_all}
use Rattle.std.proofs.lemmas.Bool.{cases_Bool, cond-true, cond-false, and_parts, or_from, eqb-true, eq-eqb, false_from_ne_true}
use Rattle.quota_units.specs.Flagging.{is_among, is_flag_letter, has_flag, flags_among}

apart : (x l : ℕ) → is_flag_letter x ≡ true → is_flag_letter l ≡ false → (x == l) ≡ false
apart x l h k = false_from_ne_true (x == l) (λ e. absurd (same (sym h ∙ ap is_flag_letter (eqb-true x l e) ∙ k)))
  where
    same : true ≡ false → ⊥
    same e = absurd cc

-- a byte that names no flag does not stand among letters that name flags
no_other : (xs : List ℕ) (l : ℕ) → list_all is_flag_letter xs ≡ true → is_flag_letter l ≡ false → is_among xs l ≡ false
no_other [] l h k = refl
no_other (x ∷ xs) l h k =
    let parts = and_parts (is_flag_letter x) (list_all is_flag_letter xs) h in
    or_from (x == l) (is_among xs l) (apart x l parts.0 k) (no_other xs l parts.1 k)

-- one test of many: its flag, or what the others say
one_test : (xs : List ℕ) (l b : ℕ) (rest : Bool) → ((l == b) ≡ false → rest ≡ is_among xs l)
    → cond (l == b) (is_among xs b) rest ≡ is_among xs l
one_test xs l b rest others = ⊎_elim
    (λ (h : (l == b) ≡ true). cond-true (l == b) (is_among xs b) rest h ∙ ap (is_among xs) (sym (eqb-true l b h)))
    (λ (h : (l == b) ≡ false). cond-false (l == b) (is_among xs b) rest h ∙ others h)
    (cases_Bool (l == b))

differs : (l b : ℕ) → (l == b) ≡ false → (b == l) ≡ false
differs l b h = false_from_ne_true (b == l) (λ e. absurd (same (sym h ∙ eq-eqb l b (sym (eqb-true b l e)))))
  where
    same : false ≡ true → ⊥
    same e = absurd cc

-- the flag of each letter is set exactly where the letter stands among letters that name flags
pub has_among : (xs : List ℕ) → list_all is_flag_letter xs ≡ true → (l : ℕ) → has_flag (flags_among xs) l ≡ is_among xs l
has_among xs all l =
    one_test xs l 68 _ (λ d. one_test xs l 70 _ (λ f. one_test xs l 80 _ (λ p. one_test xs l 82 _ (λ r.
    one_test xs l 83 _ (λ s. one_test xs l 84 false (λ t. sym (no_other xs l all (none d f p r s t))))))))
  where
    none : (l == 68) ≡ false → (l == 70) ≡ false → (l == 80) ≡ false → (l == 82) ≡ false → (l == 83) ≡ false
        → (l == 84) ≡ false → is_flag_letter l ≡ false
    none d f p r s t =
        or_from (68 == l) _ (differs l 68 d) (or_from (70 == l) _ (differs l 70 f) (or_from (80 == l) _ (differs l 80 p)
        (or_from (82 == l) _ (differs l 82 r) (or_from (83 == l) _ (differs l 83 s)
        (or_from (84 == l) false (differs l 84 t) refl)))))
