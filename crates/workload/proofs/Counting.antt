-- The lines of a text, and how many of them pass a test.
use Rattle.std.proofs.Common.{◌≡◌, ℕ, ◌+◌, ◌-◌, ◌≤◌, eqb, Bool, List, [], ◌∷◌, length, take, drop, Some, None, ap, sym, ◌∙◌, arith}
use Rattle.std.specs.List.{position_or_len}
use Rattle.std.proofs.lemmas.Bool.{false_from_ne_true}
use Rattle.std.proofs.lemmas.List.{take_rest, get_or_default}
use Rattle.std.proofs.lemmas.List.Splits.{slice_split_first, slice_split_none, length-slice_split}
use Rattle.std.proofs.lemmas.List.Sums.{position_or_len_is, count_by-le-length}
use Rattle.memchr.specs.Find.{IsFirstByte, is_byte}
use Rattle.workload.specs.Summaries.{lines_in, lines_that}

abbrev is_end : ℕ → Bool
is_end b = eqb b 10

-- a text that has a line feed, and its first line
pub first_cut : (text : List ℕ) (end : ℕ) → IsFirstByte (is_byte 10) text (Some end)
    → lines_in text ≡ take end text ∷ lines_in (take (length text - (end + 1)) (drop (end + 1) text))
first_cut text end found =
    let place : position_or_len is_end text ≡ end = position_or_len_is is_end text end 0 (omega arith)
    (λ j lt. false_from_ne_true _ (found.0.before j (omega arith) lt)) (λ _. found.1) in
    slice_split_first is_end text 0 (omega arith)
    ∙ ap (λ n. take n text ∷ lines_in (drop (n + 1) text)) place
    ∙ ap (λ l. take end text ∷ lines_in l) (sym (take_rest text (end + 1)))

-- a text that has none
pub no_cut : (text : List ℕ) → IsFirstByte (is_byte 10) text None → lines_in text ≡ text ∷ []
no_cut text none = slice_split_none is_end text (λ k d lt. ap is_end (get_or_default text k d 0 lt) ∙ false_from_ne_true _ (none k (omega arith) lt))

-- no more lines pass a test than there are bytes and one
pub that-few : (test : List ℕ → Bool) (text : List ℕ) → lines_that test text ≤ length text + 1
that-few test text = omega (arith, count_by-le-length test (lines_in text), length-slice_split is_end text, count_by-le-length is_end text)
