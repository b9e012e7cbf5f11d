-- The first line of a text, cut at a separator, from its prefix on.
use Rattle.std.proofs.Common.{◌≡◌, ℕ, ◌+◌, List, [], ◌∷◌, Bool, true, false, cond, not, ◌||◌, refl, ap, ◌∙◌, sym, ⊎_elim}
use Rattle.std.specs.List.{take_while, slice_split, onto_first, list_any, after_first}
use Rattle.std.proofs.lemmas.Bool.{cases_Bool, cond-true, cond-false, or_left, or_right, or_from, not_from_true, not_from_false}
use Rattle.maildirsize.specs.Prefixes.{skip_while}
use Rattle.maildirsize.specs.Lines.{is_line_feed, is_in_line, first_line}
use Rattle.quota_units.proofs.CutLemmas.{after-cons}
use Rattle.maildirsize.proofs.PrefixLemmas.{take_yes, take_no, skip_yes, skip_no}

pub line_more : (x : ℕ) (xs : List ℕ) → is_line_feed x ≡ false → first_line (x ∷ xs) ≡ x ∷ first_line xs
line_more x xs h = take_yes is_in_line x xs (not_from_false (is_line_feed x) h)

pub line_over : (x : ℕ) (xs : List ℕ) → is_line_feed x ≡ true → first_line (x ∷ xs) ≡ []
line_over x xs h = take_no is_in_line x xs (not_from_true (is_line_feed x) h)

pub split_yes : (sep : ℕ → Bool) (x : ℕ) (xs : List ℕ) → sep x ≡ true → slice_split sep (x ∷ xs) ≡ [] ∷ slice_split sep xs
split_yes sep x xs h = cond-true (sep x) ([] ∷ slice_split sep xs) (onto_first x (slice_split sep xs)) h

pub split_no : (sep : ℕ → Bool) (x : ℕ) (xs : List ℕ) → sep x ≡ false → slice_split sep (x ∷ xs) ≡ onto_first x (slice_split sep xs)
split_no sep x xs h = cond-false (sep x) ([] ∷ slice_split sep xs) (onto_first x (slice_split sep xs)) h

-- the parts of the first line behind its first part, from the separator on
abbrev pub parts_behind : (ℕ → Bool) → List ℕ → List (List ℕ)
parts_behind sep [] = []
parts_behind sep (x ∷ xs) = cond (sep x) (slice_split sep (first_line xs)) []

abbrev pub is_inside : (ℕ → Bool) → ℕ → Bool
is_inside sep b = not (sep b || is_line_feed b)

module _ (sep : ℕ → Bool) (apart : (x : ℕ) → is_line_feed x ≡ true → sep x ≡ false) where
  inside_yes : (x : ℕ) → sep x ≡ false → is_line_feed x ≡ false → is_inside sep x ≡ true
  inside_yes x s l = not_from_false (sep x || is_line_feed x) (or_from (sep x) (is_line_feed x) s l)

  outside_sep : (x : ℕ) → sep x ≡ true → is_inside sep x ≡ false
  outside_sep x s = not_from_true (sep x || is_line_feed x) (or_left (sep x) (is_line_feed x) s)

  outside_end : (x : ℕ) → is_line_feed x ≡ true → is_inside sep x ≡ false
  outside_end x l = not_from_true (sep x || is_line_feed x) (or_right (sep x) (is_line_feed x) l)

  at_end : (x : ℕ) (xs : List ℕ) → is_line_feed x ≡ true
      → slice_split sep (first_line (x ∷ xs)) ≡ take_while (is_inside sep) (x ∷ xs) ∷ parts_behind sep
      (skip_while (is_inside sep) (x ∷ xs))
  at_end x xs l =
      ap (slice_split sep) (line_over x xs l)
      ∙ sym (ap (λ ys. ys ∷ parts_behind sep (skip_while (is_inside sep) (x ∷ xs))) (take_no (is_inside sep) x xs (outside_end x l))
      ∙ ap (λ ys. [] ∷ parts_behind sep ys) (skip_no (is_inside sep) x xs (outside_end x l))
      ∙ ap (λ ps. [] ∷ ps) (cond-false (sep x) (slice_split sep (first_line xs)) [] (apart x l)))

  at_separator : (x : ℕ) (xs : List ℕ) → is_line_feed x ≡ false → sep x ≡ true
      → slice_split sep (first_line (x ∷ xs)) ≡ take_while (is_inside sep) (x ∷ xs) ∷ parts_behind sep
      (skip_while (is_inside sep) (x ∷ xs))
  at_separator x xs l s =
      ap (slice_split sep) (line_more x xs l) ∙ split_yes sep x (first_line xs) s
      ∙ sym (ap (λ ys. ys ∷ parts_behind sep (skip_while (is_inside sep) (x ∷ xs))) (take_no (is_inside sep) x xs (outside_sep x s))
      ∙ ap (λ ys. [] ∷ parts_behind sep ys) (skip_no (is_inside sep) x xs (outside_sep x s))
      ∙ ap (λ ps. [] ∷ ps) (cond-true (sep x) (slice_split sep (first_line xs)) [] s))

  -- the first part, and those behind it
  pub first_part : (xs : List ℕ) → slice_split sep (first_line xs) ≡ take_while (is_inside sep) xs ∷ parts_behind sep
      (skip_while (is_inside sep) xs)
  first_part [] = refl
  first_part (x ∷ xs) = ⊎_elim
      (λ (l : is_line_feed x ≡ true). at_end x xs l)
      (λ (l : is_line_feed x ≡ false). ⊎_elim
      (λ (s : sep x ≡ true). at_separator x xs l s)
      (λ (s : sep x ≡ false).
      ap (slice_split sep) (line_more x xs l) ∙ split_no sep x (first_line xs) s ∙ ap (onto_first x) (first_part xs)
      ∙ sym (ap (λ ys. ys ∷ parts_behind sep (skip_while (is_inside sep) (x ∷ xs)))
      (take_yes (is_inside sep) x xs (inside_yes x s l))
      ∙ ap (λ ys. (x ∷ take_while (is_inside sep) xs) ∷ parts_behind sep ys) (skip_yes (is_inside sep) x xs (inside_yes x s l))))
      (cases_Bool (sep x)))
      (cases_Bool (is_line_feed x))

-- bytes that are no line feeds have no part in whether a line feed comes, and in what stands behind it
module _ (p : ℕ → Bool) (within : (x : ℕ) → p x ≡ true → is_line_feed x ≡ false) where
  pub list_any-skip_while : (xs : List ℕ) → list_any is_line_feed (skip_while p xs) ≡ list_any is_line_feed xs
  list_any-skip_while [] = refl
  list_any-skip_while (x ∷ xs) = ⊎_elim
      (λ (h : p x ≡ true). ap (list_any is_line_feed) (skip_yes p x xs h) ∙ list_any-skip_while xs
      ∙ sym (ap (λ b. b || list_any is_line_feed xs) (within x h)))
      (λ (h : p x ≡ false). ap (list_any is_line_feed) (skip_no p x xs h))
      (cases_Bool (p x))

  pub after_first-skip_while : (xs : List ℕ) → after_first is_line_feed (skip_while p xs) ≡ after_first is_line_feed xs
  after_first-skip_while [] = refl
  after_first-skip_while (x ∷ xs) = ⊎_elim
      (λ (h : p x ≡ true). ap (after_first is_line_feed) (skip_yes p x xs h) ∙ after_first-skip_while xs
      ∙ sym (after-cons is_line_feed x xs ∙ cond-false (is_line_feed x) xs (after_first is_line_feed xs) (within x h)))
      (λ (h : p x ≡ false). ap (after_first is_line_feed) (skip_no p x xs h))
      (cases_Bool (p x))
