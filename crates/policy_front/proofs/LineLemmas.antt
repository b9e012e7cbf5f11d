-- The lines of a text, one after another.
use Rattle.std.proofs.Common.{◌≡◌, ◌≢◌, ℕ, suc, None, Some, ◌+◌, ◌-◌, ◌<◌, Bool, true, false, not, ◌&&◌, eqb, cond, List, [], ◌∷◌, ◌++◌, length, get_or, take, drop, refl, ap, sym, ◌∙◌, arith, eqb-true, eq-eqb, take_while, find, option_map, length-take-le, add-one, drop-cons, take-append-drop}
use Rattle.std.specs.List.{slice_split, onto_first}
use Rattle.std.specs.Str.Lines.{lines, lines_of_parts, strip_carriage_return}
use Rattle.std.proofs.lemmas.Bool.{cond-true, cond-false}
use Rattle.std.proofs.lemmas.Bool.Decides.{nat_tests}
use Rattle.std.proofs.lemmas.List.Splits.{slice_split-cons_yes, slice_split-cons_no}
use Rattle.std.proofs.lemmas.List.Sums.{take_while-cons}
use Rattle.memchr.specs.Find.{IsFirstByte, is_byte}
use Rattle.wire_io.specs.Lines.{HasNoEnd}
use Rattle.wire_io.proofs.LineLemmas.{HasNoEnd-places}
use Rattle.std.proofs.lemmas.List.{take_rest, get_or-take}
use Rattle.policy_front.specs.Attributes.{is_filled, attribute_lines, is_closed, has_equals, has_form, value_in, is_named, attribute}

abbrev is_end : ℕ → Bool
is_end b = eqb b 10

not_end : (b : ℕ) → b ≢ 10 → is_end b ≡ false
not_end b ne = grind (arith, nat_tests)

is_not : (b : ℕ) → is_end b ≡ false → b ≢ 10
is_not b e = grind (arith, nat_tests)

eqb-ne : (m n : ℕ) → m ≢ n → eqb m n ≡ false
eqb-ne m n ne = grind (arith, nat_tests)

eqb-more : (m n : ℕ) → eqb (suc m) (suc n + 1) ≡ eqb m (n + 1)
eqb-more m n = go (eqb m (n + 1)) refl
  where
    go : (c : Bool) → eqb m (n + 1) ≡ c → eqb (suc m) (suc n + 1) ≡ c
    go true e = grind (arith, nat_tests)
    go false e = grind (arith, nat_tests)

and-true : (a : Bool) → (a && true) ≡ a
and-true true = refl
and-true false = refl

and-false : (a : Bool) → (a && false) ≡ false
and-false true = refl
and-false false = refl

-- a text has at least one part
some_part : (text : List ℕ) → (part : List ℕ) × (parts : List (List ℕ)) × (slice_split is_end text ≡ part ∷ parts)
some_part [] = ([], [], refl)
some_part (b ∷ bs) = go (is_end b) refl (some_part bs)
  where
    go : (c : Bool) → is_end b ≡ c → (part : List ℕ) × (parts : List (List ℕ)) × (slice_split is_end bs ≡ part ∷ parts)
        → (part : List ℕ) × (parts : List (List ℕ)) × (slice_split is_end (b ∷ bs) ≡ part ∷ parts)
    go true e rest = ([], slice_split is_end bs, slice_split-cons_yes is_end b bs e)
    go false e rest = (b ∷ rest.0, rest.1, slice_split-cons_no is_end b bs e ∙ ap (onto_first b) rest.2)

-- the first part ends at the first line feed
first_part : (body rest : List ℕ) → HasNoEnd body → slice_split is_end (body ++ 10 ∷ rest) ≡ body ∷ slice_split is_end rest
first_part [] rest none = slice_split-cons_yes is_end 10 rest refl
first_part (b ∷ body) rest none =
    slice_split-cons_no is_end b (body ++ 10 ∷ rest) (not_end b none.0) ∙ ap (onto_first b) (first_part body rest none.1)

only_part : (body : List ℕ) → HasNoEnd body → slice_split is_end body ≡ body ∷ []
only_part [] none = refl
only_part (b ∷ body) none = slice_split-cons_no is_end b body (not_end b none.0) ∙ ap (onto_first b) (only_part body none.1)

-- the first line, and those after it
pub lines-first : (body rest : List ℕ) → HasNoEnd body → lines (body ++ 10 ∷ rest) ≡ strip_carriage_return body ∷ lines rest
lines-first body rest none =
    let more = some_part rest in
    ap lines_of_parts (first_part body rest none ∙ ap (λ parts. body ∷ parts) more.2)
    ∙ ap (λ parts. strip_carriage_return body ∷ lines_of_parts parts) (sym more.2)

-- bytes without a line feed are one line, unless there are none
pub lines-begun : (b : ℕ) (body : List ℕ) → HasNoEnd (b ∷ body) → lines (b ∷ body) ≡ (b ∷ body) ∷ []
lines-begun b body none = ap lines_of_parts (only_part (b ∷ body) none) ∙ cond-false (eqb (length (b ∷ body)) 0) [] ((b ∷ body) ∷ []) (eqb-ne (length (b ∷ body)) 0 (omega arith))

-- a text has no line feed, or its first one ends its first line
pub data Begins (text : List ℕ) : Type 0 where
  begun : HasNoEnd text → Begins text
  ended : (body rest : List ℕ) → HasNoEnd body → text ≡ body ++ 10 ∷ rest → Begins text

pub begins : (text : List ℕ) → Begins text
begins [] = begun tt
begins (b ∷ bs) = go (is_end b) refl (begins bs)
  where
    go : (c : Bool) → is_end b ≡ c → Begins bs → Begins (b ∷ bs)
    go true e later = ended [] bs tt (ap (λ x. x ∷ bs) (eqb-true b 10 e))
    go false e (begun none) = begun (is_not b e, none)
    go false e (ended body rest none is) = ended (b ∷ body) rest (is_not b e, none) (ap (λ l. b ∷ l) is)

-- what a search for a line feed found
module _ (text : List ℕ) where
  pub none-searched : IsFirstByte (is_byte 10) text None → HasNoEnd text
  none-searched none = HasNoEnd-places text (λ k lt is. none k (omega arith) lt (eq-eqb (get_or text k 0) 10 is))

  before_end : (n : ℕ) → IsFirstByte (is_byte 10) text (Some n) → HasNoEnd (take n text)
  before_end n found = HasNoEnd-places (take n text) (λ k lt is.
      let short = length-take-le n text (omega (arith, found.0.high)) in
      let below : k < n = omega arith in
      found.0.before k (omega arith) below (eq-eqb (get_or text k 0) 10 (sym (get_or-take n text k 0 below) ∙ is)))

  at_end : (n : ℕ) → IsFirstByte (is_byte 10) text (Some n) → text ≡ take n text ++ 10 ∷ drop (n + 1) text
  at_end n found =
      let high : n < length text = found.0.high in
      sym (take-append-drop n text) ∙ ap (λ l. take n text ++ l) (rw (add-one, drop-cons text n 0 high, eqb-true (get_or text n 0) 10 found.1) refl)

  pub lines-searched : (n : ℕ) (line : List ℕ) → IsFirstByte (is_byte 10) text (Some n) → line ≡ strip_carriage_return (take n text)
      → lines text ≡ line ∷ lines (take (length text - (n + 1)) (drop (n + 1) text))
  lines-searched n line found is =
      ap lines (at_end n found) ∙ lines-first (take n text) (drop (n + 1) text) (before_end n found)
      ∙ ap (λ l. l ∷ lines (drop (n + 1) text)) (sym is)
      ∙ ap (λ l. line ∷ lines l) (sym (take_rest text (n + 1)))

-- a text with bytes has a line
pub no_lines : (text : List ℕ) → lines text ≡ [] → text ≡ []
no_lines [] e = refl
no_lines (b ∷ bs) e = none (begins (b ∷ bs))
  where
    none : Begins (b ∷ bs) → b ∷ bs ≡ []
    none (begun h) = let one = lines-begun b bs h in absurd cc
    none (ended body rest h is) = let first = ap lines is ∙ lines-first body rest h in absurd cc

-- whether lines are attributes, and then one empty line
abbrev are_closed : List (List ℕ) → Bool
are_closed ls = eqb (length ls) (length (take_while is_filled ls) + 1)

pub attributes-line : (line : List ℕ) (ls : List (List ℕ)) → is_filled line ≡ true → take_while is_filled (line ∷ ls) ≡ line ∷ take_while is_filled ls
attributes-line line ls filled = take_while-cons is_filled line ls ∙ cond-true (is_filled line) (line ∷ take_while is_filled ls) [] filled

-- a text without a line feed is not closed
pub begun_open : (text : List ℕ) → HasNoEnd text → is_closed text ≡ false
begun_open [] none = refl
begun_open (b ∷ body) none =
    ap are_closed (lines-begun b body none)
    ∙ ap (λ kept. eqb 1 (length kept + 1)) (attributes-line (b ∷ body) [] (ap not (eqb-ne (length (b ∷ body)) 0 (omega arith))))

closed-line : (line : List ℕ) (ls : List (List ℕ)) → is_filled line ≡ true → are_closed (line ∷ ls) ≡ are_closed ls
closed-line line ls filled =
    ap (λ kept. eqb (length (line ∷ ls)) (length kept + 1)) (attributes-line line ls filled) ∙ eqb-more (length ls) (length (take_while is_filled ls))

module _ (text rest line : List ℕ) (e : lines text ≡ line ∷ lines rest) where
  -- the first line is empty
  module _ (empty : eqb (length line) 0 ≡ true) where
    pub closed_empty : is_closed text ≡ eqb (length rest) 0
    closed_empty = ap are_closed (e ∙ ap (λ l. l ∷ lines rest) (none line empty)) ∙ last rest (lines rest) refl
      where
        none : (l : List ℕ) → eqb (length l) 0 ≡ true → l ≡ []
        none [] i = refl
        none (b ∷ bs) i = let zero : length (b ∷ bs) ≡ 0 = eqb-true (length (b ∷ bs)) 0 i in absurd (omega arith)

        last : (more : List ℕ) (ls : List (List ℕ)) → lines more ≡ ls → are_closed ([] ∷ ls) ≡ eqb (length more) 0
        last [] ls is = ap (λ l. are_closed ([] ∷ l)) (sym is)
        last (b ∷ bs) [] is = let nothing = no_lines (b ∷ bs) is in absurd cc
        last (b ∷ bs) (l ∷ ls) is = eqb-ne (suc (suc (length ls))) 1 (omega arith) ∙ sym (eqb-ne (suc (length bs)) 0 (omega arith))

    no_attributes : attribute_lines text ≡ []
    no_attributes = ap (take_while is_filled) e ∙ take_while-cons is_filled line (lines rest)
        ∙ cond-false (is_filled line) (line ∷ take_while is_filled (lines rest)) [] (ap not empty)

    pub form_empty : has_form text ≡ eqb (length rest) 0
    form_empty = rw (closed_empty, no_attributes) (and-true (eqb (length rest) 0))

  -- the first line is an attribute
  module _ (some : eqb (length line) 0 ≡ false) where
    pub closed_line : is_closed text ≡ is_closed rest
    closed_line = ap are_closed e ∙ closed-line line (lines rest) (ap not some)

    pub attributes_line : attribute_lines text ≡ line ∷ attribute_lines rest
    attributes_line = ap (take_while is_filled) e ∙ attributes-line line (lines rest) (ap not some)

    pub form_line : has_equals line ≡ true → has_form text ≡ has_form rest
    form_line has = rw (closed_line, attributes_line, has) refl

    pub form_wrong : has_equals line ≡ false → has_form text ≡ false
    form_wrong lacks = rw (closed_line, attributes_line, lacks) (and-false (is_closed rest))

    module _ (name : List ℕ) where
      found : attribute text name ≡ option_map value_in (cond (is_named name line) (Some line) (find (is_named name) (attribute_lines rest)))
      found = ap (λ ls. option_map value_in (find (is_named name) ls)) attributes_line

      pub attribute_here : is_named name line ≡ true → attribute text name ≡ Some (value_in line)
      attribute_here named = found ∙ ap (option_map value_in) (cond-true (is_named name line) (Some line) (find (is_named name) (attribute_lines rest)) named)

      pub attribute_later : is_named name line ≡ false → attribute text name ≡ attribute rest name
      attribute_later other = found ∙ ap (option_map value_in) (cond-false (is_named name line) (Some line) (find (is_named name) (attribute_lines rest)) other)
