-- Reading all bytes of a kind, as far as an index.
use Rattle.std.proofs.Common.{◌≡◌, ℕ, ◌+◌, ◌<◌, ◌≤◌, Bool, true, false, List, [], ◌∷◌, ◌++◌, length, take, drop, get_or, refl, sym, ap, ◌∙◌, append_assoc, append-nil}
use Rattle.std.proofs.lemmas.Bool.{cond-false, cond-true}
use Rattle.std.proofs.lemmas.List.{drop_more, take_more, drop_all}
use Rattle.imap_grammar.specs.Reading.{Reading, got, wrong, short, marked, many, with_first}

-- these bytes come before what was read
abbrev pub with_prefix : List ℕ → Reading (List ℕ) → Reading (List ℕ)
with_prefix prefix (got bytes rest) = got (prefix ++ bytes) rest
with_prefix prefix (wrong rest) = wrong rest
with_prefix prefix short = short
with_prefix prefix (marked count) = marked count

pub prefix_first : (prefix : List ℕ) (b : ℕ) (reading : Reading (List ℕ)) → with_prefix prefix (with_first b reading) ≡ with_prefix (prefix ++ b ∷ []) reading
prefix_first prefix b (got bytes rest) = ap (λ l. got l rest) (sym (append_assoc prefix (b ∷ []) bytes))
prefix_first prefix b (wrong rest) = refl
prefix_first prefix b short = refl
prefix_first prefix b (marked count) = refl

module _ (is : ℕ → Bool) (text : List ℕ) where
  -- what is read, as far as an index
  abbrev pub ReadTo : ℕ → Type 0
  ReadTo i = many is text ≡ with_prefix (take i text) (many is (drop i text))

  pub read_none : ReadTo 0
  read_none = go (many is text)
    where
      go : (reading : Reading (List ℕ)) → reading ≡ with_prefix [] reading
      go (got bytes rest) = refl
      go (wrong rest) = refl
      go short = refl
      go (marked count) = refl

  pub read_more : (i : ℕ) → i < length text → is (get_or text i 0) ≡ true → ReadTo i → ReadTo (i + 1)
  read_more i lt holds so_far =
      so_far ∙ ap (λ l. with_prefix (take i text) (many is l)) (drop_more text i 0 lt)
      ∙ ap (with_prefix (take i text)) (cond-true (is (get_or text i 0)) _ _ holds)
      ∙ prefix_first (take i text) (get_or text i 0) (many is (drop (i + 1) text))
      ∙ ap (λ l. with_prefix l (many is (drop (i + 1) text))) (sym (take_more text i 0 lt))

  pub read_stops : (i : ℕ) → i < length text → is (get_or text i 0) ≡ false → ReadTo i → many is text ≡ got (take i text) (drop i text)
  read_stops i lt fails so_far =
      so_far ∙ ap (λ l. with_prefix (take i text) (many is l)) (drop_more text i 0 lt)
      ∙ ap (with_prefix (take i text)) (cond-false (is (get_or text i 0)) _ _ fails)
      ∙ ap (λ l. got l (get_or text i 0 ∷ drop (i + 1) text)) (append-nil (take i text))
      ∙ ap (got (take i text)) (sym (drop_more text i 0 lt))

  pub read_all : (i : ℕ) → length text ≤ i → ReadTo i → many is text ≡ short
  read_all i le so_far = so_far ∙ ap (λ l. with_prefix (take i text) (many is l)) (drop_all i text le)
