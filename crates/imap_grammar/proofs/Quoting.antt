-- Reading what is between quotes, as far as an index.
use Rattle.std.proofs.Common.{◌≡◌, ℕ, ◌+◌, ◌<◌, ◌≤◌, Bool, true, false, List, [], ◌∷◌, ◌++◌, length, drop, get_or, refl, sym, ap, ◌∙◌, append-nil, eqb}
use Rattle.std.proofs.lemmas.List.{drop_more, drop_all}
use Rattle.imap_grammar.specs.Bytes.{is_escaped, is_quotable}
use Rattle.imap_grammar.specs.Reading.{Reading, got, wrong, short, marked}
use Rattle.imap_grammar.specs.Astrings.{inside}
use Rattle.std.proofs.lemmas.Bool.{cond-false, cond-true}
use Rattle.imap_grammar.proofs.Many.{with_prefix, prefix_first}

module _ (text : List ℕ) where
  -- what is read, as far as an index
  abbrev pub InsideTo : List ℕ → Bool → ℕ → Type 0
  InsideTo bytes after_backslash i = inside false text ≡ with_prefix bytes (inside after_backslash (drop i text))

  abbrev here : ℕ → ℕ
  here i = get_or text i 0

  pub inside_none : InsideTo [] false 0
  inside_none = go (inside false text)
    where
      go : (reading : Reading (List ℕ)) → reading ≡ with_prefix [] reading
      go (got v rest) = refl
      go (wrong rest) = refl
      go short = refl
      go (marked count) = refl

  pub inside_escaped : (bytes : List ℕ) (i : ℕ) → i < length text → is_escaped (here i) ≡ true → InsideTo bytes true i → InsideTo (bytes ++ here i ∷ []) false (i + 1)
  inside_escaped bytes i lt e so_far =
      so_far ∙ ap (λ l. with_prefix bytes (inside true l)) (drop_more text i 0 lt)
      ∙ ap (with_prefix bytes) (cond-true (is_escaped (here i)) _ _ e)
      ∙ prefix_first bytes (here i) (inside false (drop (i + 1) text))

  pub inside_not_escaped : (bytes : List ℕ) (i : ℕ) → i < length text → is_escaped (here i) ≡ false → InsideTo bytes true i → inside false text ≡ wrong (drop i text)
  inside_not_escaped bytes i lt e so_far =
      so_far ∙ ap (λ l. with_prefix bytes (inside true l)) (drop_more text i 0 lt)
      ∙ ap (with_prefix bytes) (cond-false (is_escaped (here i)) _ _ e) ∙ ap wrong (sym (drop_more text i 0 lt))

  pub inside_closed : (bytes : List ℕ) (i : ℕ) → i < length text → eqb (here i) 34 ≡ true → InsideTo bytes false i → inside false text ≡ got bytes (drop (i + 1) text)
  inside_closed bytes i lt e so_far =
      so_far ∙ ap (λ l. with_prefix bytes (inside false l)) (drop_more text i 0 lt)
      ∙ ap (with_prefix bytes) (cond-true (eqb (here i) 34) _ _ e) ∙ ap (λ l. got l (drop (i + 1) text)) (append-nil bytes)

  pub inside_slash : (bytes : List ℕ) (i : ℕ) → i < length text → eqb (here i) 34 ≡ false → eqb (here i) 92 ≡ true → InsideTo bytes false i → InsideTo bytes true (i + 1)
  inside_slash bytes i lt no_quote e so_far =
      so_far ∙ ap (λ l. with_prefix bytes (inside false l)) (drop_more text i 0 lt)
      ∙ ap (with_prefix bytes) (cond-false (eqb (here i) 34) _ _ no_quote ∙ cond-true (eqb (here i) 92) _ _ e)

  pub inside_more : (bytes : List ℕ) (i : ℕ) → i < length text → eqb (here i) 34 ≡ false → eqb (here i) 92 ≡ false → is_quotable (here i) ≡ true → InsideTo bytes false i → InsideTo (bytes ++ here i ∷ []) false (i + 1)
  inside_more bytes i lt no_quote no_slash e so_far =
      so_far ∙ ap (λ l. with_prefix bytes (inside false l)) (drop_more text i 0 lt)
      ∙ ap (with_prefix bytes) (cond-false (eqb (here i) 34) _ _ no_quote ∙ cond-false (eqb (here i) 92) _ _ no_slash ∙ cond-true (is_quotable (here i)) _ _ e)
      ∙ prefix_first bytes (here i) (inside false (drop (i + 1) text))

  pub inside_wrong : (bytes : List ℕ) (i : ℕ) → i < length text → eqb (here i) 34 ≡ false → eqb (here i) 92 ≡ false → is_quotable (here i) ≡ false → InsideTo bytes false i → inside false text ≡ wrong (drop i text)
  inside_wrong bytes i lt no_quote no_slash e so_far =
      so_far ∙ ap (λ l. with_prefix bytes (inside false l)) (drop_more text i 0 lt)
      ∙ ap (with_prefix bytes) (cond-false (eqb (here i) 34) _ _ no_quote ∙ cond-false (eqb (here i) 92) _ _ no_slash ∙ cond-false (is_quotable (here i)) _ _ e)
      ∙ ap wrong (sym (drop_more text i 0 lt))

  pub inside_all : (bytes : List ℕ) (after_backslash : Bool) (i : ℕ) → length text ≤ i → InsideTo bytes after_backslash i → inside false text ≡ short
  inside_all bytes true i le so_far = so_far ∙ ap (λ l. with_prefix bytes (inside true l)) (drop_all i text le)
  inside_all bytes false i le so_far = so_far ∙ ap (λ l. with_prefix bytes (inside false l)) (drop_all i text le)
