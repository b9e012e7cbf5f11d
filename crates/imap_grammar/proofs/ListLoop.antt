-- Reading the items of a list one after another.
use Rattle.std.proofs.Common.{◌≡◌, ℕ, zero, suc, ◌<◌, ◌≤◌, List, [], ◌∷◌, ◌++◌, length, Option, Some, None, refl, sym, ap, ◌∙◌, arith, append_assoc, append-nil}
use Rattle.imap_grammar.specs.declared.readers.Stop.{Stop}
use Rattle.imap_grammar.specs.declared.readers.Stop.TheVariants.{Wrong, Short, Marked, Memory}
use Rattle.imap_grammar.specs.Reading.{Reading, Reader, got, wrong, short, marked, and_then, gives, Stops}
use Rattle.imap_grammar.specs.Lists.{next_item, with_others, more_items, some_items}

-- these items come before what was read
abbrev pub with_items : {A : Type 0} → List A → Reading (List A) → Reading (List A)
with_items prefix (got items rest) = got (prefix ++ items) rest
with_items prefix (wrong rest) = wrong rest
with_items prefix short = short
with_items prefix (marked count) = marked count

one_item : {A : Type 0} (own : A) (reading : Reading (List A)) → and_then reading (λ others. gives (own ∷ others)) ≡ with_items (own ∷ []) reading
one_item own (got v rest) = refl
one_item own (wrong rest) = refl
one_item own short = refl
one_item own (marked count) = refl

items_first : {A : Type 0} (prefix : List A) (own : A) (reading : Reading (List A)) → with_items prefix (and_then reading (λ items. gives (own ∷ items))) ≡ with_items (prefix ++ own ∷ []) reading
items_first prefix own (got v rest) = ap (λ l. got l rest) (sym (append_assoc prefix (own ∷ []) v))
items_first prefix own (wrong rest) = refl
items_first prefix own short = refl
items_first prefix own (marked count) = refl

module _ {A : Type 0} (item : Reader A) (text : List ℕ) where
  -- what is read, up to this rest, with rounds enough for it
  abbrev pub ItemsTo : List A → List ℕ → Type 0
  ItemsTo items rest = (rounds : ℕ) × (length rest ≤ rounds) × (some_items item text ≡ with_items items (more_items item rounds rest))

  pub items_one : (first : A) (items : List A) (rest : List ℕ) → item text ≡ got first rest → items ≡ first ∷ [] → ItemsTo items rest
  items_one first items rest e is = (
    length rest,
    omega arith,
    ap (λ r. and_then r (λ first rest. and_then (more_items item (length rest) rest) (λ others. gives (first ∷ others)))) e
        ∙ one_item first (more_items item (length rest) rest) ∙ ap (λ l. with_items l (more_items item (length rest) rest)) (sym is),
  )

  pub items_more : (items items' : List A) (rest more : List ℕ) (own : A) → length more < length rest → next_item item rest ≡ got (Some own) more → items' ≡ items ++ own ∷ [] → ItemsTo items rest → ItemsTo items' more
  items_more items items' rest more own lt e is (zero, le, so_far) = absurd (omega (arith, lt, le))
  items_more items items' rest more own lt e is (suc rounds, le, so_far) = (
    rounds,
    omega (arith, lt, le),
    so_far ∙ ap (λ r. with_items items (and_then r (with_others (more_items item rounds)))) e
        ∙ items_first items own (more_items item rounds more) ∙ ap (λ l. with_items l (more_items item rounds more)) (sym is),
  )

  pub items_end : (items : List A) (rest more : List ℕ) → length more < length rest → next_item item rest ≡ got None more → ItemsTo items rest → some_items item text ≡ got items more
  items_end items rest more lt e (zero, le, so_far) = absurd (omega (arith, lt, le))
  items_end items rest more lt e (suc rounds, le, so_far) =
      so_far ∙ ap (λ r. with_items items (and_then r (with_others (more_items item rounds)))) e ∙ ap (λ l. got l more) (append-nil items)

  -- what stops the next item stops all
  stopped : (items : List A) (rest : List ℕ) (stop : (B : Type 0) → Reading B) → ((B : Type 0) (n : B → Reader (List A)) → with_items items (and_then (stop B) n) ≡ stop (List A))
      → next_item item rest ≡ stop (Option A) → ItemsTo items rest → some_items item text ≡ stop (List A)
  stopped items [] stop is e (zero, le, so_far) = so_far ∙ go (sym (is (Option A) (λ x. gives [])) ∙ ap (λ r. with_items items (and_then r (λ x. gives []))) (sym e))
    where
      go : stop (List A) ≡ short → short ≡ stop (List A)
      go e = sym e
  stopped items (b ∷ bs) stop is e (zero, le, so_far) = absurd (omega (arith, le))
  stopped items rest stop is e (suc rounds, le, so_far) =
      so_far ∙ ap (λ r. with_items items (and_then r (with_others (more_items item rounds)))) e ∙ is (Option A) (with_others (more_items item rounds))

  pub items_stop : (items : List A) (rest : List ℕ) (stop : Stop) → Stops stop (next_item item rest) → ItemsTo items rest → Stops stop (some_items item text)
  items_stop items rest (Wrong left) (at, e, sized) so_far = (at, stopped items rest (λ B. wrong at) (λ B n. refl) e so_far, sized)
  items_stop items rest Short e so_far = stopped items rest (λ B. short) (λ B n. refl) e so_far
  items_stop items rest (Marked count) e so_far = stopped items rest (λ B. marked count) (λ B n. refl) e so_far
  items_stop items rest Memory e so_far = tt

  -- the first item was not read
  pub items_none : (stop : Stop) → Stops stop (item text) → Stops stop (some_items item text)
  items_none (Wrong left) (at, e, sized) = (at, ap (λ r. and_then r (λ first rest. and_then (more_items item (length rest) rest) (λ others. gives (first ∷ others)))) e, sized)
  items_none Short e = ap (λ r. and_then r (λ first rest. and_then (more_items item (length rest) rest) (λ others. gives (first ∷ others)))) e
  items_none (Marked count) e = ap (λ r. and_then r (λ first rest. and_then (more_items item (length rest) rest) (λ others. gives (first ∷ others)))) e
  items_none Memory e = tt
