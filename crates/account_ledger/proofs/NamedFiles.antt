-- The file of a named message: what names it, and what is left of the sums without it or under another name.
use Rattle.std.proofs.Common.{◌≡◌, ◌⊎◌, ℕ, ◌+◌, Bool, true, false, cond, ◌||◌, ◌&&◌, List, [], ◌∷◌, map, filter, sum_by, bytes_eq, Option, Some, None, refl, sym, ap, ◌∙◌, arith, inl, inr}
use Rattle.std.specs.Option.{option_map, option_or}
use Rattle.std.proofs.lemmas.Bool.{false≢true}
use Rattle.std.proofs.lemmas.List.Folds.{find-append}
use Rattle.std.proofs.lemmas.List.Sums.{sum_by-cons}
use Rattle.std.proofs.lemmas.Slice.Eq.{bytes_eq-Decides}
use Rattle.keeper.specs.Files.{Row, is_in, is_named, file_of, listed, removed, renamed, has_row}
use Rattle.keeper.specs.declared.rows.FileRow.{FileRow}
use Rattle.message_names.specs.Parts.{base_of}
use Rattle.account_core.specs.Account.{Message}
use Rattle.account_core.specs.Messages.{is_message, named_message}
use Rattle.account_ledger.specs.Messages.{message_in, messages_of, messages_in}
use Rattle.account_opening.specs.Bases.{base_in}
use Rattle.account_ledger.specs.NamedFiles.{file_named}
use Rattle.account_ledger.proofs.Weighing.{weigh, told_by, is_mailbox_of}

same_bytes : (xs : List ℕ) → bytes_eq xs xs ≡ true
same_bytes xs = (bytes_eq-Decides xs xs).1 refl

not_same : (xs ys : List ℕ) → bytes_eq xs ys ≡ false → bytes_eq ys xs ≡ false
not_same xs ys apart = by (bytes_eq ys xs) refl
  where
    by : (b : Bool) → bytes_eq ys xs ≡ b → b ≡ false
    by false is = refl
    by true is = absurd (false≢true (sym apart ∙ ap (bytes_eq xs) ((bytes_eq-Decides ys xs).0 is) ∙ same_bytes xs))

-- the message that a mailbox and a base name is told by the first file that has the base
module _ (mailbox base : List ℕ) where
  in_box : (m : List ℕ) (files : List FileRow) → named_message mailbox base (map (message_in m) files) ≡ cond (bytes_eq m mailbox) (option_map (message_in m) (file_named base files)) None
  in_box m [] = by (bytes_eq m mailbox)
    where
      by : (b : Bool) → None ≡ cond b (option_map (message_in m) None) None
      by true = refl
      by false = refl
  in_box m (file ∷ files) = by (bytes_eq m mailbox) (bytes_eq (base_in file) base) (in_box m files)
    where
      by : (b c : Bool) → named_message mailbox base (map (message_in m) files) ≡ cond b (option_map (message_in m) (file_named base files)) None
          → cond (b && c) (Some (message_in m file)) (named_message mailbox base (map (message_in m) files)) ≡ cond b (option_map (message_in m) (cond c (Some file) (file_named base files))) None
      by true true rest = refl
      by true false rest = rest
      by false c rest = rest

  in_boxes : (mailboxes : List (List ℕ)) (rows : List Row) → named_message mailbox base (messages_in mailboxes rows) ≡ cond (is_mailbox_of mailboxes mailbox) (option_map (message_in mailbox) (file_named base (listed mailbox rows))) None
  in_boxes [] rows = refl
  in_boxes (m ∷ mailboxes) rows =
      find-append (is_message mailbox base) (messages_of rows m) (messages_in mailboxes rows)
      ∙ ap (λ o. option_or o (named_message mailbox base (messages_in mailboxes rows))) (in_box m (listed m rows))
      ∙ by (bytes_eq m mailbox) refl (is_mailbox_of mailboxes mailbox) (in_boxes mailboxes rows)
    where
      or_again : (o : Option FileRow) (c : Bool) → option_or (option_map (message_in mailbox) o) (cond c (option_map (message_in mailbox) o) None) ≡ option_map (message_in mailbox) o
      or_again None true = refl
      or_again None false = refl
      or_again (Some file) c = refl

      by : (b : Bool) → bytes_eq m mailbox ≡ b → (c : Bool) → named_message mailbox base (messages_in mailboxes rows) ≡ cond c (option_map (message_in mailbox) (file_named base (listed mailbox rows))) None
          → option_or (cond b (option_map (message_in m) (file_named base (listed m rows))) None) (named_message mailbox base (messages_in mailboxes rows))
          ≡ cond (b || c) (option_map (message_in mailbox) (file_named base (listed mailbox rows))) None
      by true is c rest =
          ap (λ x. option_or (option_map (message_in x) (file_named base (listed x rows))) (named_message mailbox base (messages_in mailboxes rows))) ((bytes_eq-Decides m mailbox).0 is)
          ∙ ap (λ o. option_or (option_map (message_in mailbox) (file_named base (listed mailbox rows))) o) rest ∙ or_again (file_named base (listed mailbox rows)) c
      by false is c rest = rest

  pub named_in : (mailboxes : List (List ℕ)) (rows : List Row) → is_mailbox_of mailboxes mailbox ≡ true → named_message mailbox base (messages_in mailboxes rows) ≡ option_map (message_in mailbox) (file_named base (listed mailbox rows))
  named_in mailboxes rows there = in_boxes mailboxes rows ∙ ap (λ b. cond b (option_map (message_in mailbox) (file_named base (listed mailbox rows))) None) there

-- the row of that file
one_file : (x y : FileRow) → Some x ≡ Some y → x ≡ y
one_file x y e = cc

has_base : (base : List ℕ) (file : FileRow) (files : List FileRow) → file_named base files ≡ Some file → base_in file ≡ base
has_base base file [] found = absurd (cc)
has_base base file (first ∷ files) found = by (bytes_eq (base_in first) base) refl found (has_base base file files)
  where
    by : (b : Bool) → bytes_eq (base_in first) base ≡ b → cond b (Some first) (file_named base files) ≡ Some file → (file_named base files ≡ Some file → base_in file ≡ base) → base_in file ≡ base
    by true is found rest = ap base_in (sym (one_file first file found)) ∙ (bytes_eq-Decides (base_in first) base).0 is
    by false is found rest = rest found

pub file_has_base : (mailbox base : List ℕ) (file : FileRow) (rows : List Row) → file_named base (listed mailbox rows) ≡ Some file → base_of file.name ≡ base
file_has_base mailbox base file rows found = has_base base file (listed mailbox rows) found

module _ (mailbox base : List ℕ) (file : FileRow) where
  -- what stands at the first row of the file's name, at which the base is found
  first_row : (row : Row) (rows : List Row) → file_named base (listed mailbox (row ∷ rows)) ≡ Some file → base_of file.name ≡ base
      → ((is_named mailbox file.name row ≡ true) × (row.mailbox ≡ mailbox) × (file_of row ≡ file)) ⊎ ((is_named mailbox file.name row ≡ false) × (file_named base (listed mailbox rows) ≡ Some file))
  first_row row rows found named = by (bytes_eq row.mailbox mailbox) refl found
    where
      in_it : (c : Bool) → bytes_eq (base_in (file_of row)) base ≡ c → bytes_eq row.mailbox mailbox ≡ true → cond c (Some (file_of row)) (file_named base (listed mailbox rows)) ≡ Some file
          → ((is_named mailbox file.name row ≡ true) × (row.mailbox ≡ mailbox) × (file_of row ≡ file)) ⊎ ((is_named mailbox file.name row ≡ false) × (file_named base (listed mailbox rows) ≡ Some file))
      in_it true si is found =
          let e = one_file (file_of row) file found in
          inl (ap (λ b. b && bytes_eq row.name file.name) is ∙ (bytes_eq-Decides row.name file.name).1 (ap (λ (f : FileRow). f.name) e), (bytes_eq-Decides row.mailbox mailbox).0 is, e)
      in_it false si is found = inr (ap (λ b. b && bytes_eq row.name file.name) is ∙ other (bytes_eq row.name file.name) refl, found)
        where
          other : (d : Bool) → bytes_eq row.name file.name ≡ d → d ≡ false
          other false e = refl
          other true e = absurd (false≢true (sym si ∙ (bytes_eq-Decides (base_of row.name) base).1 (ap base_of ((bytes_eq-Decides row.name file.name).0 e) ∙ named)))

      by : (b : Bool) → bytes_eq row.mailbox mailbox ≡ b → file_named base (map file_of (cond b (row ∷ filter (is_in mailbox) rows) (filter (is_in mailbox) rows))) ≡ Some file
          → ((is_named mailbox file.name row ≡ true) × (row.mailbox ≡ mailbox) × (file_of row ≡ file)) ⊎ ((is_named mailbox file.name row ≡ false) × (file_named base (listed mailbox rows) ≡ Some file))
      by true is found = in_it (bytes_eq (base_in (file_of row)) base) refl is found
      by false is found = inr (ap (λ b. b && bytes_eq row.name file.name) is, found)

  -- the row is there
  pub row_there : (rows : List Row) → file_named base (listed mailbox rows) ≡ Some file → base_of file.name ≡ base → has_row mailbox file.name rows ≡ true
  row_there [] found named = absurd (cc)
  row_there (row ∷ rows) found named = elim (first_row row rows found named) [
    | inl w ↦ ap (λ b. b || has_row mailbox file.name rows) w.0
    | inr w ↦ ap (λ b. b || has_row mailbox file.name rows) w.0 ∙ row_there rows w.1 named
  ]

  module _ (mailboxes : List (List ℕ)) (there : is_mailbox_of mailboxes mailbox ≡ true) (weight : Message → ℕ) where
    row_weighs : (row : Row) → row.mailbox ≡ mailbox → file_of row ≡ file → weigh weight mailboxes row ≡ weight (message_in mailbox file)
    row_weighs row box same =
        ap (λ m. cond (is_mailbox_of mailboxes m) (weight (message_in m (file_of row))) 0) box
        ∙ ap (λ b. cond b (weight (message_in mailbox (file_of row))) 0) there ∙ ap (λ f. weight (message_in mailbox f)) same

    -- without it
    pub removed_weighs : (rows : List Row) → file_named base (listed mailbox rows) ≡ Some file → base_of file.name ≡ base
        → sum_by (weigh weight mailboxes) (removed mailbox file.name rows) + weight (message_in mailbox file) ≡ sum_by (weigh weight mailboxes) rows
    removed_weighs [] found named = absurd (cc)
    removed_weighs (row ∷ rows) found named = elim (first_row row rows found named) [
      | inl w ↦
          let e = sum_by-cons (weigh weight mailboxes) row rows in
          let f = row_weighs row w.1 w.2 in
          rw w.0 (omega arith)
      | inr w ↦
          let e = sum_by-cons (weigh weight mailboxes) row rows in
          let f = sum_by-cons (weigh weight mailboxes) row (removed mailbox file.name rows) in
          let k = removed_weighs rows w.1 named in
          rw w.0 (omega arith)
    ]

    -- with another mailbox and name
    pub renamed_weighs : (to name : List ℕ) → is_mailbox_of mailboxes to ≡ true → (rows : List Row) → file_named base (listed mailbox rows) ≡ Some file → base_of file.name ≡ base
        → sum_by (weigh weight mailboxes) (renamed mailbox file.name to name rows) + weight (message_in mailbox file)
        ≡ sum_by (weigh weight mailboxes) rows + weight (message_in to (record { name = name; length = file.length }))
    renamed_weighs to name target [] found named = absurd (cc)
    renamed_weighs to name target (row ∷ rows) found named = elim (first_row row rows found named) [
      | inl w ↦
          let row' : Row = record row { mailbox = to; name = name } in
          let e = sum_by-cons (weigh weight mailboxes) row rows in
          let f = sum_by-cons (weigh weight mailboxes) row' rows in
          let k = row_weighs row w.1 w.2 in
          let l : weigh weight mailboxes row' ≡ weight (message_in to (record { name = name; length = file.length })) =
          ap (λ b. cond b (weight (told_by row')) 0) target ∙ ap (λ n. weight (message_in to (record { name = name; length = n }))) (ap (λ (x : FileRow). x.length) w.2) in
          rw w.0 (omega arith)
      | inr w ↦
          let e = sum_by-cons (weigh weight mailboxes) row rows in
          let f = sum_by-cons (weigh weight mailboxes) row (renamed mailbox file.name to name rows) in
          let k = renamed_weighs to name target rows w.1 named in
          rw w.0 (omega arith)
    ]
