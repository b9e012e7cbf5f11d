-- The places of a unique part are its fields.
use Rattle.std.proofs.Common.{◌≡◌, ℕ, ◌==◌, List, [], ◌∷◌, Bool, true, false, cond, ◌&&◌, Option, None, Some, is_some, refl, ap, ◌∙◌, sym, ⊎_elim}
use Rattle.std.specs.List.{before_first, after_first}
use Rattle.std.specs.Option.{option_or, option_and_then}
use Rattle.std.proofs.lemmas.Bool.{cases_Bool, cond-false, and_left, and_right, eqb-true}
use Rattle.message_names.specs.Parts.{is_comma}
use Rattle.message_names.specs.Sizes.{size_in_digits, size_at, size_named}
use Rattle.message_names.specs.Fields.{size_in_field}
use Rattle.message_names.proofs.CutLemmas.{after_yes, after_no, before_yes, before_no}

-- no place begins with another byte than a comma
size_at_no : (x : ℕ) (xs : List ℕ) → is_comma x ≡ false → size_at (x ∷ xs) ≡ None
size_at_no x [] h = refl
size_at_no x (y ∷ []) h = refl
size_at_no x (y ∷ z ∷ rest) h =
    ap (option_and_then (λ r. size_in_digits (before_first is_comma r)))
    (cond-false (is_comma x && (y == 83 && z == 61)) (Some rest) None (and_left (is_comma x) (y == 83 && z == 61) h))

pub named_no : (x : ℕ) (xs : List ℕ) → is_comma x ≡ false → size_named (x ∷ xs) ≡ size_named xs
named_no x xs h = ap (λ o. option_or o (size_named xs)) (size_at_no x xs h)

-- bytes before the first comma have no part in the size
pub named_behind : (bytes : List ℕ) → size_named (44 ∷ after_first is_comma bytes) ≡ size_named bytes
named_behind [] = refl
named_behind (x ∷ xs) = ⊎_elim
    (λ (h : is_comma x ≡ true). ap (λ ys. size_named (44 ∷ ys)) (after_yes is_comma x xs h)
    ∙ ap (λ y. size_named (y ∷ xs)) (sym (eqb-true x 44 h)))
    (λ (h : is_comma x ≡ false). ap (λ ys. size_named (44 ∷ ys)) (after_no is_comma x xs h) ∙ named_behind xs
    ∙ sym (named_no x xs h))
    (cases_Bool (is_comma x))

taken : (t : Bool) (rest : List ℕ) → option_and_then (λ r. size_in_digits (before_first is_comma r)) (cond t (Some rest) None)
    ≡ cond t (size_in_digits (before_first is_comma rest)) None
taken true rest = refl
taken false rest = refl

marked : (a b : ℕ) (rest : List ℕ) → size_at (44 ∷ a ∷ b ∷ rest)
    ≡ cond (a == 83 && b == 61) (size_in_digits (before_first is_comma rest)) None
marked a b rest = taken (a == 83 && b == 61) rest

other_byte : (a : ℕ) → is_comma a ≡ true → (a == 83) ≡ false
other_byte a h = ap (λ x. x == 83) (eqb-true a 44 h)

no_equals : (b : ℕ) → is_comma b ≡ true → (b == 61) ≡ false
no_equals b h = ap (λ x. x == 61) (eqb-true b 44 h)

one_byte : (a : ℕ) → size_in_field (before_first is_comma (a ∷ [])) ≡ None
one_byte a = ⊎_elim
    (λ (h : is_comma a ≡ true). ap size_in_field (before_yes is_comma a [] h))
    (λ (h : is_comma a ≡ false). ap size_in_field (before_no is_comma a [] h))
    (cases_Bool (is_comma a))

-- what a comma and the bytes behind it name is what the field behind the comma states
pub field_at : (rest : List ℕ) → size_at (44 ∷ rest) ≡ size_in_field (before_first is_comma rest)
field_at [] = refl
field_at (a ∷ []) = sym (one_byte a)
field_at (a ∷ b ∷ rest) = ⊎_elim
    (λ (h : is_comma a ≡ true). marked a b rest
    ∙ cond-false (a == 83 && b == 61) (size_in_digits (before_first is_comma rest)) None (and_left (a == 83) (b == 61) (other_byte a h))
    ∙ ap size_in_field (sym (before_yes is_comma a (b ∷ rest) h)))
    (λ (h : is_comma a ≡ false). ⊎_elim
    (λ (k : is_comma b ≡ true). marked a b rest
    ∙ cond-false (a == 83 && b == 61) (size_in_digits (before_first is_comma rest)) None (and_right (a == 83) (b == 61) (no_equals b k))
    ∙ ap size_in_field (sym (before_no is_comma a (b ∷ rest) h ∙ ap (λ ys. a ∷ ys) (before_yes is_comma b rest k))))
    (λ (k : is_comma b ≡ false). marked a b rest
    ∙ ap size_in_field (sym (before_no is_comma a (b ∷ rest) h ∙ ap (λ ys. a ∷ ys) (before_no is_comma b rest k))))
    (cases_Bool (is_comma b)))
    (cases_Bool (is_comma a))

-- the size of the field behind a comma, and else what stands behind that field
pub named_field : (rest : List ℕ) → size_named (44 ∷ rest)
    ≡ option_or (size_in_field (before_first is_comma rest)) (size_named (44 ∷ after_first is_comma rest))
named_field rest =
    ap (λ o. option_or o (size_named rest)) (field_at rest)
    ∙ ap (option_or (size_in_field (before_first is_comma rest))) (sym (named_behind rest))

-- the same of what a loop finds in the first field: a size, or none
pub field_some : (rest : List ℕ) (field : Option ℕ) → field ≡ size_in_field (before_first is_comma rest) → is_some field ≡ true
    → field ≡ size_named (44 ∷ rest)
field_some rest None e h = absurd cc
field_some rest (Some n) e h = sym (named_field rest ∙ ap (λ o. option_or o (size_named (44 ∷ after_first is_comma rest))) (sym e))

pub field_none : (rest : List ℕ) (field : Option ℕ) → field ≡ size_in_field (before_first is_comma rest) → is_some field ≡ false
    → size_named (44 ∷ after_first is_comma rest) ≡ size_named (44 ∷ rest)
field_none rest None e h = sym (named_field rest ∙ ap (λ o. option_or o (size_named (44 ∷ after_first is_comma rest))) (sym e))
field_none rest (Some n) e h = absurd cc
