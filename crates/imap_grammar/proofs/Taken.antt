-- Bytes up to one that ends them, as far as an index.
use Rattle.std.proofs.Common.{◌≡◌, ℕ, ◌+◌, ◌<◌, ◌≤◌, ◌==◌, Bool, true, false, ◌||◌, List, [], ◌∷◌, ◌++◌, length, take, drop, get_or, refl, sym, ap, ◌∙◌, append_assoc, append-nil, arith, if◌then◌else◌}
use Rattle.std.proofs.lemmas.Bool.{cond-false, cond-true}
use Rattle.std.proofs.lemmas.List.{drop_more, take_more, drop_all, take_all}
use Rattle.imap_grammar.specs.Faults.{taken, untaken, begins_line_end, word_in}

-- the bytes before an index, and one more
joined : (text more : List ℕ) (i : ℕ) → i < length text → take i text ++ (get_or text i 0 ∷ more) ≡ take (i + 1) text ++ more
joined text more i lt = sym (append_assoc (take i text) (get_or text i 0 ∷ []) more) ∙ ap (λ l. l ++ more) (sym (take_more text i 0 lt))

module _ (is : ℕ → Bool) (text : List ℕ) where
  -- the bytes that are taken, as far as an index
  abbrev pub TakenTo : ℕ → Type 0
  TakenTo i = (taken is text ≡ take i text ++ taken is (drop i text)) × (untaken is text ≡ untaken is (drop i text))

  pub taken_none : TakenTo 0
  taken_none = (refl, refl)

  pub taken_more : (i : ℕ) → i < length text → is (get_or text i 0) ≡ true → TakenTo i → TakenTo (i + 1)
  taken_more i lt holds (some, none) = (
    some ∙ ap (λ l. take i text ++ taken is l) (drop_more text i 0 lt)
        ∙ ap (λ l. take i text ++ l) (cond-true (is (get_or text i 0)) (get_or text i 0 ∷ taken is (drop (i + 1) text)) [] holds)
        ∙ joined text (taken is (drop (i + 1) text)) i lt,
    none ∙ ap (untaken is) (drop_more text i 0 lt) ∙ cond-true (is (get_or text i 0)) (untaken is (drop (i + 1) text)) (get_or text i 0 ∷ drop (i + 1) text) holds,
  )

  pub taken_stops : (i : ℕ) → i < length text → is (get_or text i 0) ≡ false → TakenTo i → take i text ≡ taken is text
  taken_stops i lt fails (some, none) =
      sym (some ∙ ap (λ l. take i text ++ taken is l) (drop_more text i 0 lt)
      ∙ ap (λ l. take i text ++ l) (cond-false (is (get_or text i 0)) (get_or text i 0 ∷ taken is (drop (i + 1) text)) [] fails) ∙ append-nil (take i text))

  pub untaken_stops : (i : ℕ) → i < length text → is (get_or text i 0) ≡ false → TakenTo i → drop i text ≡ untaken is text
  untaken_stops i lt fails (some, none) =
      sym (none ∙ ap (untaken is) (drop_more text i 0 lt) ∙ cond-false (is (get_or text i 0)) (untaken is (drop (i + 1) text)) (get_or text i 0 ∷ drop (i + 1) text) fails
      ∙ sym (drop_more text i 0 lt))

  pub taken_all : (i : ℕ) → length text ≤ i → TakenTo i → take (length text) text ≡ taken is text
  taken_all i le (some, none) =
      sym (some ∙ ap (λ l. take i text ++ taken is l) (drop_all i text le) ∙ append-nil (take i text) ∙ take_all i text le ∙ sym (take_all (length text) text (omega arith)))

  pub untaken_all : (i : ℕ) → length text ≤ i → TakenTo i → drop (length text) text ≡ untaken is text
  untaken_all i le (some, none) = sym (none ∙ ap (untaken is) (drop_all i text le) ∙ sym (drop_all (length text) text (omega arith)))

module _ (text : List ℕ) where
  abbrev here : ℕ → ℕ
  here i = get_or text i 0

  -- the bytes of a word, as far as an index
  abbrev pub WordTo : ℕ → Type 0
  WordTo i = word_in text ≡ take i text ++ word_in (drop i text)

  pub word_none : WordTo 0
  word_none = refl

  word_at : (i : ℕ) (ends : Bool) → i < length text → (here i == 32 || begins_line_end (drop i text)) ≡ ends → word_in (drop i text) ≡ (if ends then [] else here i ∷ word_in (drop (i + 1) text))
  word_at i ends lt e =
      ap word_in (drop_more text i 0 lt)
      ∙ ap (λ l. if here i == 32 || begins_line_end l then [] else here i ∷ word_in (drop (i + 1) text)) (sym (drop_more text i 0 lt))
      ∙ ap (λ (c : Bool). if c then [] else here i ∷ word_in (drop (i + 1) text)) e

  pub word_more : (i : ℕ) → i < length text → (here i == 32) ≡ false → begins_line_end (drop i text) ≡ false → WordTo i → WordTo (i + 1)
  word_more i lt no_space no_end so_far =
      so_far ∙ ap (λ l. take i text ++ l) (word_at i false lt (ap (λ c. c || begins_line_end (drop i text)) no_space ∙ no_end)) ∙ joined text (word_in (drop (i + 1) text)) i lt

  stops : (i : ℕ) → i < length text → (here i == 32 || begins_line_end (drop i text)) ≡ true → WordTo i → take i text ≡ word_in text
  stops i lt e so_far = sym (so_far ∙ ap (λ l. take i text ++ l) (word_at i true lt e) ∙ append-nil (take i text))

  pub word_space : (i : ℕ) → i < length text → (here i == 32) ≡ true → WordTo i → take i text ≡ word_in text
  word_space i lt space so_far = stops i lt (ap (λ c. c || begins_line_end (drop i text)) space) so_far

  pub word_line_end : (i : ℕ) → i < length text → (here i == 32) ≡ false → begins_line_end (drop i text) ≡ true → WordTo i → take i text ≡ word_in text
  word_line_end i lt no_space end so_far = stops i lt (ap (λ c. c || begins_line_end (drop i text)) no_space ∙ end) so_far

  pub word_all : (i : ℕ) → length text ≤ i → WordTo i → text ≡ word_in text
  word_all i le so_far = sym (so_far ∙ ap (λ l. take i text ++ word_in l) (drop_all i text le) ∙ append-nil (take i text) ∙ take_all i text le)
