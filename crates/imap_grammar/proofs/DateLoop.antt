-- Reading a date between quotes and dropping it, as far as an index.
use Rattle.std.proofs.Common.{◌≡◌, ℕ, ◌+◌, ◌<◌, ◌≤◌, Bool, true, false, List, length, drop, get_or, refl, sym, ap, ◌∙◌, eqb}
use Rattle.std.proofs.lemmas.List.{drop_more, drop_all}
use Rattle.std.proofs.lemmas.Bool.{cond-false, cond-true}
use Rattle.imap_grammar.specs.Bytes.{is_escaped, is_quotable}
use Rattle.imap_grammar.specs.Reading.{Reading, got, wrong, short, marked, and_then, gives, with_first}
use Rattle.imap_grammar.specs.Astrings.{inside}
use Rattle.imap_grammar.specs.AppendArguments.{date}

-- the bytes are dropped
abbrev dropped : Reading (List ℕ) → Reading (Unit {0})
dropped reading = and_then reading (λ value. gives tt)

drops_first : (b : ℕ) (reading : Reading (List ℕ)) → dropped (with_first b reading) ≡ dropped reading
drops_first b (got bytes rest) = refl
drops_first b (wrong rest) = refl
drops_first b short = refl
drops_first b (marked count) = refl

module _ (text : List ℕ) where
  -- what is read, as far as an index
  abbrev pub DateTo : Bool → ℕ → Type 0
  DateTo after_backslash i = date text ≡ and_then (inside after_backslash (drop i text)) (λ value. gives tt)

  abbrev here : ℕ → ℕ
  here i = get_or text i 0

  abbrev more : ℕ → List ℕ
  more i = drop (i + 1) text

  pub date_none : DateTo false 0
  date_none = refl

  pub date_escaped : (i : ℕ) → i < length text → is_escaped (here i) ≡ true → DateTo true i → DateTo false (i + 1)
  date_escaped i lt e so_far =
      so_far ∙ ap (λ l. dropped (inside true l)) (drop_more text i 0 lt) ∙ ap dropped (cond-true (is_escaped (here i)) _ _ e) ∙ drops_first (here i) (inside false (more i))

  pub date_not_escaped : (i : ℕ) → i < length text → is_escaped (here i) ≡ false → DateTo true i → date text ≡ wrong (drop i text)
  date_not_escaped i lt e so_far =
      so_far ∙ ap (λ l. dropped (inside true l)) (drop_more text i 0 lt) ∙ ap dropped (cond-false (is_escaped (here i)) _ _ e) ∙ ap wrong (sym (drop_more text i 0 lt))

  pub date_closed : (i : ℕ) → i < length text → eqb (here i) 34 ≡ true → DateTo false i → date text ≡ got tt (drop (i + 1) text)
  date_closed i lt e so_far = so_far ∙ ap (λ l. dropped (inside false l)) (drop_more text i 0 lt) ∙ ap dropped (cond-true (eqb (here i) 34) _ _ e)

  pub date_slash : (i : ℕ) → i < length text → eqb (here i) 34 ≡ false → eqb (here i) 92 ≡ true → DateTo false i → DateTo true (i + 1)
  date_slash i lt no_quote e so_far =
      so_far ∙ ap (λ l. dropped (inside false l)) (drop_more text i 0 lt)
      ∙ ap dropped (cond-false (eqb (here i) 34) _ _ no_quote ∙ cond-true (eqb (here i) 92) _ _ e)

  pub date_more : (i : ℕ) → i < length text → eqb (here i) 34 ≡ false → eqb (here i) 92 ≡ false → is_quotable (here i) ≡ true → DateTo false i → DateTo false (i + 1)
  date_more i lt no_quote no_slash e so_far =
      so_far ∙ ap (λ l. dropped (inside false l)) (drop_more text i 0 lt)
      ∙ ap dropped (cond-false (eqb (here i) 34) _ _ no_quote ∙ cond-false (eqb (here i) 92) _ _ no_slash ∙ cond-true (is_quotable (here i)) _ _ e)
      ∙ drops_first (here i) (inside false (more i))

  pub date_wrong : (i : ℕ) → i < length text → eqb (here i) 34 ≡ false → eqb (here i) 92 ≡ false → is_quotable (here i) ≡ false → DateTo false i → date text ≡ wrong (drop i text)
  date_wrong i lt no_quote no_slash e so_far =
      so_far ∙ ap (λ l. dropped (inside false l)) (drop_more text i 0 lt)
      ∙ ap dropped (cond-false (eqb (here i) 34) _ _ no_quote ∙ cond-false (eqb (here i) 92) _ _ no_slash ∙ cond-false (is_quotable (here i)) _ _ e)
      ∙ ap wrong (sym (drop_more text i 0 lt))

  pub date_all : (after_backslash : Bool) (i : ℕ) → length text ≤ i → DateTo after_backslash i → date text ≡ short
  date_all true i le so_far = so_far ∙ ap (λ l. dropped (inside true l)) (drop_all i text le)
  date_all false i le so_far = so_far ∙ ap (λ l. dropped (inside false l)) (drop_all i text le)
