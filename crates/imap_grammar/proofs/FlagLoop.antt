-- Reading flags one after another.
use Rattle.std.proofs.Common.{◌≡◌, ℕ, ◌<◌, ◌==◌, ◌||◌, List, [], ◌∷◌, ◌++◌, length, Option, Some, None, refl, sym, ap, ◌∙◌}
use Rattle.std.specs.List.{filter_map}
use Rattle.std.proofs.lemmas.List.Folds.{list_any-append}
use Rattle.quota_units.specs.declared.flags.Flags.{Flags}
use Rattle.quota_units.specs.Flagging.{is_among}
use Rattle.imap_grammar.specs.declared.readers.Stop.{Stop}
use Rattle.imap_grammar.specs.declared.readers.Stop.TheVariants.{Wrong, Short, Marked, Memory}
use Rattle.imap_grammar.specs.Reading.{Reading, got, and_then, gives, Stops}
use Rattle.imap_grammar.specs.SystemFlags.{flags_of, either}
use Rattle.imap_grammar.specs.Lists.{next_item, some_items}
use Rattle.imap_grammar.specs.AppendArguments.{flag, some_flags}
use Rattle.imap_grammar.proofs.ListLoop.{ItemsTo, items_one, items_more, items_end, items_stop, items_none}
use Rattle.imap_grammar.proofs.Shorter.{shrinks_flag, next_shorter}

letters_append : (xs ys : List (Option ℕ)) → filter_map (λ (l : Option ℕ). l) (xs ++ ys) ≡ filter_map (λ l. l) xs ++ filter_map (λ l. l) ys
letters_append [] ys = refl
letters_append (None ∷ xs) ys = letters_append xs ys
letters_append (Some x ∷ xs) ys = ap (λ l. x ∷ l) (letters_append xs ys)

among_append : (xs ys : List (Option ℕ)) (b : ℕ) → is_among (filter_map (λ (l : Option ℕ). l) (xs ++ ys)) b ≡ (is_among (filter_map (λ l. l) xs) b || is_among (filter_map (λ l. l) ys) b)
among_append xs ys b = ap (λ l. is_among l b) (letters_append xs ys) ∙ list_any-append (λ x. x == b) (filter_map (λ l. l) xs) (filter_map (λ l. l) ys)

-- the flags of letters and of more letters
flags_append : (xs ys : List (Option ℕ)) → flags_of (xs ++ ys) ≡ either (flags_of xs) (flags_of ys)
flags_append xs ys =
    let d = among_append xs ys 68 in
    let f = among_append xs ys 70 in
    let p = among_append xs ys 80 in
    let r = among_append xs ys 82 in
    let s = among_append xs ys 83 in
    let t = among_append xs ys 84 in
    λ i. record { draft = d i; flagged = f i; passed = p i; replied = r i; seen = s i; trashed = t i }

-- the flags are dropped to their sum
abbrev summed : Reading (List (Option ℕ)) → Reading Flags
summed reading = and_then reading (λ letters. gives (flags_of letters))

summed_stop : (stop : Stop) (reading : Reading (List (Option ℕ))) → Stops stop reading → Stops stop (summed reading)
summed_stop (Wrong left) reading (at, e, sized) = (at, ap summed e, sized)
summed_stop Short reading e = ap summed e
summed_stop (Marked count) reading e = ap summed e
summed_stop Memory reading e = tt

-- what is read, up to this rest
pub record FlagsTo (text : List ℕ) (flags : Flags) (rest : List ℕ) : Type 0 where
  pub letters : List (Option ℕ)
  pub are : flags ≡ flags_of letters
  pub so_far : ItemsTo flag text letters rest

module _ (text : List ℕ) where
  pub flags_one : (letter : Option ℕ) (flags : Flags) (rest : List ℕ) → flag text ≡ got letter rest → flags ≡ flags_of (letter ∷ []) → FlagsTo text flags rest
  flags_one letter flags rest e is = record { letters = letter ∷ []; are = is; so_far = items_one flag text letter (letter ∷ []) rest e refl }

  pub flags_shorter : (rest more : List ℕ) (next : Option (Option ℕ)) → next_item flag rest ≡ got next more → length more < length rest
  flags_shorter rest more next e = next_shorter flag shrinks_flag rest more next e

  pub flags_more : (flags one sum : Flags) (rest more : List ℕ) (letter : Option ℕ) → next_item flag rest ≡ got (Some letter) more → one ≡ flags_of (letter ∷ []) → sum ≡ either flags one
      → FlagsTo text flags rest → FlagsTo text sum more
  flags_more flags one sum rest more letter e is is_sum to =
      record {
        letters = to.letters ++ letter ∷ [];
        are = is_sum ∙ ap (λ f. either f one) to.are ∙ ap (either (flags_of to.letters)) is ∙ sym (flags_append to.letters (letter ∷ []));
        so_far = items_more flag text to.letters (to.letters ++ letter ∷ []) rest more letter (flags_shorter rest more (Some letter) e) e refl to.so_far;
      }

  pub flags_end : (flags : Flags) (rest more : List ℕ) → next_item flag rest ≡ got None more → FlagsTo text flags rest → some_flags text ≡ got flags more
  flags_end flags rest more e to =
      ap summed (items_end flag text to.letters rest more (flags_shorter rest more None e) e to.so_far) ∙ ap (λ f. got f more) (sym to.are)

  pub flags_stop : (flags : Flags) (rest : List ℕ) (stop : Stop) → Stops stop (next_item flag rest) → FlagsTo text flags rest → Stops stop (some_flags text)
  flags_stop flags rest stop e to = summed_stop stop (some_items flag text) (items_stop flag text to.letters rest stop e to.so_far)

  pub flags_none : (stop : Stop) → Stops stop (flag text) → Stops stop (some_flags text)
  flags_none stop e = summed_stop stop (some_items flag text) (items_none flag text stop e)
