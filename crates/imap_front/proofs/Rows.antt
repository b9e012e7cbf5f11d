-- Rows told one after another, as far as an index.
use Rattle.std.proofs.Common.{◌≡◌, ℕ, ◌+◌, ◌<◌, ◌≤◌, List, ◌++◌, length, take, get_or, sym, ap, ◌∙◌, append-nil}
use Rattle.std.specs.List.{flat_map}
use Rattle.std.proofs.lemmas.List.{take_more, take_all, flat_map_more}

module _ {A : Type 0} (told : A → List ℕ) where
  -- the rows before the index were told
  abbrev pub ToldTo : (old out : List ℕ) → List A → ℕ → Type 0
  ToldTo old out rows i = out ≡ old ++ flat_map told (take i rows)

  pub rows_none : (old : List ℕ) (rows : List A) → ToldTo old old rows 0
  rows_none old rows = sym (append-nil old)

  pub rows_more : (old out more : List ℕ) (rows : List A) (i : ℕ) (none : A) → i < length rows → ToldTo old out rows i → more ≡ out ++ told (get_or rows i none) → ToldTo old more rows (i + 1)
  rows_more old out more rows i none lt so_far e =
      e ∙ ap (λ l. l ++ told (get_or rows i none)) so_far
      ∙ flat_map_more told old (take i rows) (get_or rows i none)
      ∙ ap (λ l. old ++ flat_map told l) (sym (take_more rows i none lt))

  pub rows_all : (old out : List ℕ) (rows : List A) (i : ℕ) → length rows ≤ i → ToldTo old out rows i → out ≡ old ++ flat_map told rows
  rows_all old out rows i le so_far = so_far ∙ ap (λ l. old ++ flat_map told l) (take_all i rows le)
