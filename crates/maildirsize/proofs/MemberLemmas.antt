-- The members of a definition, one after the other.
use Rattle.std.proofs.Common.{◌≡◌, ℕ, ◌+◌, ◌-◌, ◌<◌, ◌≤◌, ◌==◌, min, List, [], ◌∷◌, ◌++◌, Bool, true, false, cond, ◌&&◌, length, take, reverse, Option, Some, None, is_some, IfSome, refl, ap, ◌∙◌, sym, ⊎_elim, arith, nat_lt, length-append}
use Rattle.std.specs.List.{take_while, slice_split, list_all, find, filter_map, cons_option, prefix_len, sum_by}
use Rattle.std.specs.Option.{option_and_then}
use Rattle.std.specs.Char.{is_ascii_digit, is_ascii_alphabetic}
use Rattle.std.specs.Str.Parse.{digits_value}
use Rattle.std.proofs.Math.Numerals.{one-add}
use Rattle.std.proofs.lemmas.Bool.{cases_Bool, cond-true, cond-false, and_from, and_left, and_right, and_parts, lt-ltb, le-ltb, false≢true}
use Rattle.std.proofs.lemmas.Bool.Decides.{nat_tests}
use Rattle.std.proofs.lemmas.List.{append_assoc, reverse-append, take_at}
use Rattle.std.proofs.lemmas.List.Folds.{list_all-append}
use Rattle.std.proofs.lemmas.List.Elements.{filter_map-append}
use Rattle.std.proofs.lemmas.List.Sums.{sum_by_push}
use Rattle.quota_units.specs.Limiting.{LimitNumbers, IsLimit}
use Rattle.maildirsize.specs.declared.definition.Member.{Member}
use Rattle.maildirsize.specs.Prefixes.{skip_while, begins_with}
use Rattle.maildirsize.specs.Lines.{is_line_feed, is_in_line, first_line}
use Rattle.maildirsize.specs.Definition.{is_comma, limit_of, member_of, member_in, is_member, limit_named, limits_named, limits_in, wrong_text_in, is_in_member, member_texts_at}
use Rattle.maildirsize.proofs.PrefixLemmas.{take_yes, take_no, skip_yes, skip_no, skip_none, skip_wider, begins_with-skip_while, prefix_none}
use Rattle.maildirsize.proofs.SplitLemmas.{first_part, parts_behind}
use Rattle.maildirsize.proofs.WordLemmas.{length-take_while}

-- a prefix of p within a wider prefix of q
module _ (p q : ℕ → Bool) (wider : (x : ℕ) → p x ≡ true → q x ≡ true) where
  pub prefix_within : (xs : List ℕ) → take_while p (take_while q xs) ≡ take_while p xs
  prefix_within [] = refl
  prefix_within (x ∷ xs) = ⊎_elim
      (λ (h : p x ≡ true). ap (take_while p) (take_yes q x xs (wider x h)) ∙ take_yes p x (take_while q xs) h
      ∙ ap (λ ys. x ∷ ys) (prefix_within xs) ∙ sym (take_yes p x xs h))
      (λ (h : p x ≡ false). ⊎_elim
      (λ (k : q x ≡ true). ap (take_while p) (take_yes q x xs k) ∙ take_no p x (take_while q xs) h ∙ sym (take_no p x xs h))
      (λ (k : q x ≡ false). ap (take_while p) (take_no q x xs k) ∙ sym (take_no p x xs h))
      (cases_Bool (q x)))
      (cases_Bool (p x))

  pub skip_within : (xs : List ℕ) → skip_while p (take_while q xs) ≡ take_while q (skip_while p xs)
  skip_within [] = refl
  skip_within (x ∷ xs) = ⊎_elim
      (λ (h : p x ≡ true). ap (skip_while p) (take_yes q x xs (wider x h)) ∙ skip_yes p x (take_while q xs) h ∙ skip_within xs
      ∙ ap (take_while q) (sym (skip_yes p x xs h)))
      (λ (h : p x ≡ false). ⊎_elim
      (λ (k : q x ≡ true). ap (skip_while p) (take_yes q x xs k) ∙ skip_no p x (take_while q xs) h
      ∙ sym (ap (take_while q) (skip_no p x xs h) ∙ take_yes q x xs k))
      (λ (k : q x ≡ false). ap (skip_while p) (take_no q x xs k) ∙ sym (ap (take_while q) (skip_no p x xs h) ∙ take_no q x xs k))
      (cases_Bool (q x)))
      (cases_Bool (p x))

digits_in_members : (c : ℕ) → is_ascii_digit c ≡ true → is_in_member c ≡ true
digits_in_members c h = grind (arith, nat_tests)

letters_in_members : (c : ℕ) → is_ascii_alphabetic c ≡ true → is_in_member c ≡ true
letters_in_members c h = grind (arith, nat_tests)

-- the member at the start, by its digits and what stands behind them
member_prefix : (bs : List ℕ) → member_in (take_while is_in_member bs) ≡ member_of (take_while is_ascii_digit bs)
    (take_while is_in_member (skip_while is_ascii_digit bs))
member_prefix bs =
    ap (λ ds. member_of ds (skip_while is_ascii_digit (take_while is_in_member bs)))
    (prefix_within is_ascii_digit is_in_member digits_in_members bs)
    ∙ ap (member_of (take_while is_ascii_digit bs)) (skip_within is_ascii_digit is_in_member digits_in_members bs)

member_letter : (ds : List ℕ) (x : ℕ) → (nat_lt 0 (length ds) && is_ascii_alphabetic x) ≡ false → member_of ds (x ∷ []) ≡ None
member_letter ds x h = cond-false (nat_lt 0 (length ds) && is_ascii_alphabetic x)
    (Some (record { letter = x; limit = limit_of (digits_value 10 ds) })) None h

pub no_letter : (bs : List ℕ) → skip_while is_ascii_digit bs ≡ [] → member_in (take_while is_in_member bs) ≡ None
no_letter bs h = member_prefix bs ∙ ap (λ r. member_of (take_while is_ascii_digit bs) (take_while is_in_member r)) h

wrong_start : (ds : List ℕ) (x : ℕ) (ys : List ℕ) → (nat_lt 0 (length ds) && is_ascii_alphabetic x) ≡ false
    → member_of ds (x ∷ ys) ≡ None
wrong_start ds x [] h = member_letter ds x h
wrong_start ds x (y ∷ ys) h = refl

wrong_prefix : (ds : List ℕ) (x : ℕ) (next : List ℕ) → (nat_lt 0 (length ds) && is_ascii_alphabetic x) ≡ false
    → member_of ds (take_while is_in_member (x ∷ next)) ≡ None
wrong_prefix ds x next h = ⊎_elim
    (λ (k : is_in_member x ≡ true). ap (member_of ds) (take_yes is_in_member x next k)
    ∙ wrong_start ds x (take_while is_in_member next) h)
    (λ (k : is_in_member x ≡ false). ap (member_of ds) (take_no is_in_member x next k))
    (cases_Bool (is_in_member x))

two_letters : (ds : List ℕ) (x : ℕ) (next : List ℕ) → begins_with is_in_member next ≡ true
    → member_of ds (x ∷ take_while is_in_member next) ≡ None
two_letters ds x [] h = absurd (false≢true h)
two_letters ds x (y ∷ next) h = ap (λ ys. member_of ds (x ∷ ys)) (take_yes is_in_member y next h)

long_prefix : (ds : List ℕ) (x : ℕ) (next : List ℕ) → begins_with is_in_member next ≡ true
    → member_of ds (take_while is_in_member (x ∷ next)) ≡ None
long_prefix ds x next h = ⊎_elim
    (λ (k : is_in_member x ≡ true). ap (member_of ds) (take_yes is_in_member x next k) ∙ two_letters ds x next h)
    (λ (k : is_in_member x ≡ false). ap (member_of ds) (take_no is_in_member x next k))
    (cases_Bool (is_in_member x))

-- a member whose digits have this letter and these bytes behind them
module _ (bs : List ℕ) (x : ℕ) (next : List ℕ) (found : skip_while is_ascii_digit bs ≡ x ∷ next) where
  here : member_in (take_while is_in_member bs) ≡ member_of (take_while is_ascii_digit bs) (take_while is_in_member (x ∷ next))
  here = member_prefix bs ∙ ap (λ r. member_of (take_while is_ascii_digit bs) (take_while is_in_member r)) found

  pub no_digits : length (take_while is_ascii_digit bs) ≡ 0 → member_in (take_while is_in_member bs) ≡ None
  no_digits h =
      let few : length (take_while is_ascii_digit bs) ≤ 0 = omega arith in
      here ∙ wrong_prefix (take_while is_ascii_digit bs) x next
      (and_left (nat_lt 0 (length (take_while is_ascii_digit bs))) (is_ascii_alphabetic x)
      (le-ltb 0 (length (take_while is_ascii_digit bs)) few))

  pub wrong_letter : is_ascii_alphabetic x ≡ false → member_in (take_while is_in_member bs) ≡ None
  wrong_letter h = here ∙ wrong_prefix (take_while is_ascii_digit bs) x next
      (and_right (nat_lt 0 (length (take_while is_ascii_digit bs))) (is_ascii_alphabetic x) h)

  pub more_letters : begins_with is_in_member next ≡ true → member_in (take_while is_in_member bs) ≡ None
  more_letters h = here ∙ long_prefix (take_while is_ascii_digit bs) x next h

  module _ (some : 0 < length (take_while is_ascii_digit bs)) (letter : is_ascii_alphabetic x ≡ true)
      (ends : begins_with is_in_member next ≡ false) where
    pub member_read : member_in (take_while is_in_member bs) ≡ Some
        (record { letter = x; limit = limit_of (digits_value 10 (take_while is_ascii_digit bs)) })
    member_read =
        let ds = take_while is_ascii_digit bs in
        here ∙ ap (member_of ds) (take_yes is_in_member x next (letters_in_members x letter)
        ∙ ap (λ ys. x ∷ ys) (prefix_none is_in_member next ends))
        ∙ cond-true (nat_lt 0 (length ds) && is_ascii_alphabetic x)
        (Some (record { letter = x; limit = limit_of (digits_value 10 ds) })) None
        (and_from (nat_lt 0 (length ds)) (is_ascii_alphabetic x) (lt-ltb 0 (length ds) some) letter)

    pub member_behind : next ≡ skip_while is_in_member bs
    member_behind = sym (skip_wider is_ascii_digit is_in_member digits_in_members bs ∙ ap (skip_while is_in_member) found
        ∙ skip_yes is_in_member x next (letters_in_members x letter) ∙ skip_none is_in_member next ends)

-- the cut of the digits' number changes no limit
pub limit_cut : (v : ℕ) → limit_of (min v 1000000000000000000) ≡ limit_of v
limit_cut v = grind (arith, nat_tests)

-- the last member of a letter holds
limit_found : (b : Bool) (m : Member) (o : Option Member)
    → option_and_then (λ (n : Member). n.limit) (cond b (Some m) o) ≡ cond b m.limit (option_and_then (λ (n : Member). n.limit) o)
limit_found true m o = refl
limit_found false m o = refl

limit_push : (letter : ℕ) (ms : List Member) (m : Member)
    → limit_named letter (ms ++ m ∷ []) ≡ cond (m.letter == letter) m.limit (limit_named letter ms)
limit_push letter ms m =
    ap (λ xs. option_and_then (λ (n : Member). n.limit) (find (λ (n : Member). n.letter == letter) xs)) (reverse-append ms (m ∷ []))
    ∙ limit_found (m.letter == letter) m (find (λ (n : Member). n.letter == letter) (reverse ms))

-- the members up to a place are right, and set these limits
pub record ReadTo (bytes rest : List ℕ) (octets count : Option ℕ) : Type 0 where
  pub done : List (List ℕ)
  pub texts : member_texts_at bytes ≡ done ++ member_texts_at rest
  pub right : list_all is_member done ≡ true
  pub octets_are : octets ≡ limit_named 83 (filter_map member_in done)
  pub count_is : count ≡ limit_named 67 (filter_map member_in done)
  pub place : length bytes ≡ sum_by (λ text. length text + 1) done + length rest
  pub line : skip_while is_in_line bytes ≡ skip_while is_in_line rest

comma_apart : (x : ℕ) → is_line_feed x ≡ true → is_comma x ≡ false
comma_apart x h = grind (arith, nat_tests)

member_in_line : (x : ℕ) → is_in_member x ≡ true → is_in_line x ≡ true
member_in_line x h = grind (arith, nat_tests)

-- the texts are the first, and those behind it
texts_first : (rest : List ℕ) → member_texts_at rest ≡ take_while is_in_member rest ∷ parts_behind is_comma
    (skip_while is_in_member rest)
texts_first rest = first_part is_comma comma_apart rest

is_member_from : (text : List ℕ) (m : Member) → member_in text ≡ Some m → is_member text ≡ true
is_member_from text m h = ap is_some h

members_push : (done : List (List ℕ)) (text : List ℕ) (m : Member) → member_in text ≡ Some m
    → filter_map member_in (done ++ text ∷ []) ≡ filter_map member_in done ++ m ∷ []
members_push done text m h = filter_map-append member_in done (text ∷ [])
    ∙ ap (λ o. filter_map member_in done ++ cons_option o []) h

right_push : (done : List (List ℕ)) (text : List ℕ) (m : Member) → list_all is_member done ≡ true → member_in text ≡ Some m
    → list_all is_member (done ++ text ∷ []) ≡ true
right_push done text m r h =
    list_all-append is_member done (text ∷ [])
    ∙ and_from (list_all is_member done) (list_all is_member (text ∷ [])) r
    (and_from (is_member text) true (is_member_from text m h) refl)

limits_push : (letter : ℕ) (done : List (List ℕ)) (text : List ℕ) (m : Member) (o : Option ℕ) → member_in text ≡ Some m
    → o ≡ limit_named letter (filter_map member_in done)
    → cond (m.letter == letter) m.limit o ≡ limit_named letter (filter_map member_in (done ++ text ∷ []))
limits_push letter done text m o h e =
    ap (cond (m.letter == letter) m.limit) e
    ∙ sym (ap (limit_named letter) (members_push done text m h) ∙ limit_push letter (filter_map member_in done) m)

module _ (bytes rest : List ℕ) (octets count : Option ℕ) (read : ReadTo bytes rest octets count) where
  -- one member more, up to a comma
  pub read_more : (m : Member) (more : List ℕ) → member_in (take_while is_in_member rest) ≡ Some m
      → skip_while is_in_member rest ≡ 44 ∷ more
      → ReadTo bytes more (cond (m.letter == 83) m.limit octets) (cond (m.letter == 67) m.limit count)
  read_more m more h e =
      let text = take_while is_in_member rest in
      let lengths = length-take_while is_in_member rest in
      let behind_length = ap length e in
      let pushed = sum_by_push (λ (t : List ℕ). length t + 1) read.done text in
      record {
        done = read.done ++ text ∷ [];
        texts = read.texts ∙ ap (λ ts. read.done ++ ts) (texts_first rest ∙ ap (λ r. text ∷ parts_behind is_comma r) e)
            ∙ sym (append_assoc read.done (text ∷ []) (member_texts_at more));
        right = right_push read.done text m read.right h;
        octets_are = limits_push 83 read.done text m octets h read.octets_are;
        count_is = limits_push 67 read.done text m count h read.count_is;
        place = omega (arith, read.place, pushed, lengths, behind_length);
        line = read.line ∙ skip_wider is_in_member is_in_line member_in_line rest ∙ ap (skip_while is_in_line) e
            ∙ skip_yes is_in_line 44 more refl;
      }

  no_comma : (next : List ℕ) → begins_with is_comma next ≡ false → parts_behind is_comma next ≡ []
  no_comma [] h = refl
  no_comma (x ∷ next) h = cond-false (is_comma x) (slice_split is_comma (first_line next)) [] h

  line_end : (next : List ℕ) → begins_with is_in_member next ≡ false → begins_with is_comma next ≡ false
      → begins_with is_in_line next ≡ false
  line_end [] h k = refl
  line_end (x ∷ next) h k = grind (arith, nat_tests)

  -- the last member, up to the line's end
  module _ (m : Member) (next : List ℕ) (h : member_in (take_while is_in_member rest) ≡ Some m)
      (e : next ≡ skip_while is_in_member rest) (ends : begins_with is_comma next ≡ false) where
    pub read_last : limits_in (member_texts_at bytes) ≡ Some
        (record { octets = cond (m.letter == 83) m.limit octets; count = cond (m.letter == 67) m.limit count })
    read_last =
        let text = take_while is_in_member rest in
        let all = read.done ++ text ∷ [] in
        let texts = read.texts ∙ ap (λ ts. read.done ++ ts)
        (texts_first rest ∙ ap (λ ps. text ∷ ps) (ap (parts_behind is_comma) (sym e) ∙ no_comma next ends)) in
        ap limits_in texts
        ∙ cond-true (list_all is_member all) (Some (limits_named (filter_map member_in all))) None
        (right_push read.done text m read.right h)
        ∙ ap Some (sym (ap (λ (o : Option ℕ). two o (cond (m.letter == 67) m.limit count))
        (limits_push 83 read.done text m octets h read.octets_are)
        ∙ ap (λ (o : Option ℕ). two (limit_named 83 (filter_map member_in all)) o)
        (limits_push 67 read.done text m count h read.count_is)))
      where
        two : Option ℕ → Option ℕ → LimitNumbers
        two o c = record { octets = o; count = c }

    pub line_behind : next ≡ skip_while is_in_line bytes
    line_behind = sym (read.line ∙ skip_wider is_in_member is_in_line member_in_line rest ∙ ap (skip_while is_in_line) (sym e)
        ∙ skip_none is_in_line next (line_end next
        (ap (begins_with is_in_member) e ∙ begins_with-skip_while is_in_member rest) ends))

abbrev pub member_with : ℕ → Option ℕ → Member
member_with letter limit = record { letter = letter; limit = limit }

-- texts that are right, and then one that is not
prefix_right : (done : List (List ℕ)) (text : List ℕ) (others : List (List ℕ)) → list_all is_member done ≡ true
    → is_member text ≡ false
    → prefix_len is_member (done ++ text ∷ others) ≡ length done
prefix_right [] text others r h = cond-false (is_member text) (1 + prefix_len is_member others) 0 h
prefix_right (t ∷ done) text others r h =
    let p = and_parts (is_member t) (list_all is_member done) r in
    cond-true (is_member t) (1 + prefix_len is_member (done ++ text ∷ others)) 0 p.0
    ∙ ap (λ n. 1 + n) (prefix_right done text others p.1 h) ∙ one-add (length done)

wrong_at : (done : List (List ℕ)) (text : List ℕ) (others : List (List ℕ)) → list_all is_member done ≡ true → is_member text ≡ false
    → wrong_text_in (done ++ text ∷ others) ≡ Some (sum_by (λ (t : List ℕ). length t + 1) done)
wrong_at done text others r h =
    let all = done ++ text ∷ others in
    let lengths = length-append done (text ∷ others) in
    let within : length done < length all = omega (arith, lengths) in
    ap (λ n. cond (nat_lt n (length all)) (Some (sum_by (λ (t : List ℕ). length t + 1) (take n all))) None)
    (prefix_right done text others r h)
    ∙ cond-true (nat_lt (length done) (length all)) (Some (sum_by (λ (t : List ℕ). length t + 1) (take (length done) all))) None
    (lt-ltb (length done) (length all) within)
    ∙ ap (λ ts. Some (sum_by (λ (t : List ℕ). length t + 1) ts)) (take_at done (text ∷ others) (length done) refl)

pub read_wrong : (bytes rest : List ℕ) (octets count : Option ℕ) → ReadTo bytes rest octets count
    → member_in (take_while is_in_member rest) ≡ None
    → wrong_text_in (member_texts_at bytes) ≡ Some (length bytes - length rest)
read_wrong bytes rest octets count read h =
    let text = take_while is_in_member rest in
    let others = parts_behind is_comma (skip_while is_in_member rest) in
    let place : sum_by (λ (t : List ℕ). length t + 1) read.done ≡ length bytes - length rest = omega (arith, read.place) in
    ap wrong_text_in (read.texts ∙ ap (λ ts. read.done ++ ts) (texts_first rest))
    ∙ wrong_at read.done text others read.right (ap is_some h) ∙ ap Some place

pub limit_either : (b : Bool) (m o n : Option ℕ) → n ≡ cond b m o → IfSome m IsLimit → IfSome o IsLimit → IfSome n IsLimit
limit_either true m o n e h k = rw e h
limit_either false m o n e h k = rw e k

pub same_limits : (a b c d : Option ℕ) → a ≡ b → c ≡ d
    → ◌≡◌ {A = LimitNumbers} (record { octets = a; count = c }) (record { octets = b; count = d })
same_limits a b c d e f = cc

pub read_as : (bytes rest : List ℕ) (a b c d : Option ℕ) → a ≡ b → c ≡ d → ReadTo bytes rest b d → ReadTo bytes rest a c
read_as bytes rest a b c d e f read = rw (e, f) read
