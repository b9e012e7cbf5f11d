-- Reading digits, as far as an index.
use Rattle.std.proofs.Common.{◌≡◌, ℕ, zero, suc, ◌+◌, ◌-◌, ◌*◌, ◌<◌, ◌≤◌, true, false, List, length, drop, get_or, refl, sym, ap, ◌∙◌, arith}
use Rattle.std.proofs.lemmas.List.{drop_more, drop_all}
use Rattle.imap_grammar.specs.Reading.{got, wrong, short}
use Rattle.imap_grammar.specs.Numbers.{takes_digit, number_ends, digits, number_within}
use Rattle.std.proofs.lemmas.Bool.{cond-false, cond-true}

module _ (most largest : ℕ) (text : List ℕ) where
  -- what is read, as far as an index
  abbrev pub DigitsTo : ℕ → ℕ → Type 0
  DigitsTo i value = number_within most largest text ≡ digits most largest i value (drop i text)

  pub digits_none : DigitsTo 0 0
  digits_none = refl

  pub digits_more : (i value more : ℕ) → i < length text → takes_digit most largest i value (get_or text i 0) ≡ true → more ≡ value * 10 + (get_or text i 0 - 48) → DigitsTo i value → DigitsTo (i + 1) more
  digits_more i value more lt takes is so_far =
      so_far ∙ ap (digits most largest i value) (drop_more text i 0 lt) ∙ cond-true (takes_digit most largest i value (get_or text i 0)) _ _ takes ∙ ap (λ n. digits most largest (i + 1) n (drop (i + 1) text)) (sym is)

  pub digits_wrong : (i value : ℕ) → i ≡ 0 → i < length text → takes_digit most largest i value (get_or text i 0) ≡ false → DigitsTo i value → number_within most largest text ≡ wrong text
  digits_wrong i value none lt refused so_far =
      so_far ∙ ap (digits most largest i value) (drop_more text i 0 lt) ∙ cond-false (takes_digit most largest i value (get_or text i 0)) _ _ refused
      ∙ ap (number_ends i value) (sym (drop_more text i 0 lt)) ∙ ap (λ n. number_ends n value (drop n text)) none

  pub digits_end : (i value : ℕ) → 0 < i → i < length text → takes_digit most largest i value (get_or text i 0) ≡ false → DigitsTo i value → number_within most largest text ≡ got value (drop i text)
  digits_end i value some lt refused so_far =
      so_far ∙ ap (digits most largest i value) (drop_more text i 0 lt) ∙ cond-false (takes_digit most largest i value (get_or text i 0)) _ _ refused
      ∙ ap (number_ends i value) (sym (drop_more text i 0 lt)) ∙ ends i some (drop i text)
    where
      ends : (n : ℕ) → 0 < n → (rest : List ℕ) → number_ends n value rest ≡ got value rest
      ends zero lt rest = absurd (omega (arith, lt))
      ends (suc n) lt rest = refl

  pub digits_all : (i value : ℕ) → length text ≤ i → DigitsTo i value → number_within most largest text ≡ short
  digits_all i value le so_far = so_far ∙ ap (digits most largest i value) (drop_all i text le)
