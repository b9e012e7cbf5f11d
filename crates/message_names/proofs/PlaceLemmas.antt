-- The first place of a unique part that names a size.
use Rattle.std.proofs.Common.{◌≡◌, ℕ, ◌<◌, ◌≤◌, ◌+◌, ◌==◌, List, [], ◌∷◌, ◌++◌, Bool, true, false, cond, not, ◌&&◌, length, drop, codes, Option, None, Some, refl, ap, ◌∙◌, sym, arith, nat_lt, take-append-drop}
use Rattle.std.specs.List.{position_or_len, before_first, list_all}
use Rattle.std.specs.Option.{option_or, option_and_then}
use Rattle.std.specs.Char.{is_ascii_digit}
use Rattle.std.specs.Str.Parse.{digits_value}
use Rattle.std.proofs.Math.Numerals.{one-add}
use Rattle.std.proofs.lemmas.Bool.{cond-true, and_from, and_parts, lt-ltb, ltb-true, eqb-true}
use Rattle.std.proofs.lemmas.Bool.Decides.{nat_tests}
use Rattle.std.proofs.lemmas.List.{drop_at}
use Rattle.message_names.specs.Parts.{is_comma}
use Rattle.message_names.specs.Sizes.{cut_size, size_in_digits, size_at, size_named, ends_digits, SizePlace, NamesSize, NamesNoSize, IsSizeNamed}
use Rattle.message_names.proofs.CutLemmas.{before_yes, before_no}

digit_no_comma : (c : ℕ) → is_ascii_digit c ≡ true → is_comma c ≡ false
digit_no_comma c h = grind (arith, nat_tests)

before_ended : (after : List ℕ) → ends_digits after ≡ true → before_first is_comma after ≡ []
before_ended [] h = refl
before_ended (b ∷ bytes) h = before_yes is_comma b bytes h

-- digits up to a comma or to the end
pub before_digits : (digits after : List ℕ) → list_all is_ascii_digit digits ≡ true → ends_digits after ≡ true
    → before_first is_comma (digits ++ after) ≡ digits
before_digits [] after h e = before_ended after e
before_digits (d ∷ ds) after h e =
    let p = and_parts (is_ascii_digit d) (list_all is_ascii_digit ds) h in
    before_no is_comma d (ds ++ after) (digit_no_comma d p.0) ∙ ap (λ ys. d ∷ ys) (before_digits ds after p.1 e)

digits_read : (digits : List ℕ) → 0 < length digits → list_all is_ascii_digit digits ≡ true
    → size_in_digits digits ≡ Some (cut_size (digits_value 10 digits))
digits_read digits some all =
    cond-true (nat_lt 0 (length digits) && list_all is_ascii_digit digits) (Some (cut_size (digits_value 10 digits))) None
    (and_from (nat_lt 0 (length digits)) (list_all is_ascii_digit digits) (lt-ltb 0 (length digits) some) all)

-- a place names the number of its digits, cut
pub place_read : (digits after : List ℕ) → 0 < length digits → list_all is_ascii_digit digits ≡ true → ends_digits after ≡ true
    → size_at (codes ",S=" ++ (digits ++ after)) ≡ Some (cut_size (digits_value 10 digits))
place_read digits after some all ended = ap size_in_digits (before_digits digits after all ended) ∙ digits_read digits some all

-- these bytes begin with a place that names this size
record Here (bytes : List ℕ) (size : ℕ) : Type 0 where
  digits : List ℕ
  after : List ℕ
  place : SizePlace bytes [] digits after
  value : size ≡ cut_size (digits_value 10 digits)

ended_either : (b : Bool) (n x : ℕ) (xs : List ℕ) → is_comma x ≡ b → ends_digits (drop n xs) ≡ true
    → ends_digits (drop (cond (not b) (1 + n) 0) (x ∷ xs)) ≡ true
ended_either true n x xs h k = h
ended_either false n x xs h k = rw one-add k

ended_rest : (rest : List ℕ) → ends_digits (drop (position_or_len is_comma rest) rest) ≡ true
ended_rest [] = refl
ended_rest (x ∷ xs) = ended_either (is_comma x) (position_or_len is_comma xs) x xs refl (ended_rest xs)

digits_found : (t : Bool) (digits : List ℕ) (n : ℕ) → cond t (Some (cut_size (digits_value 10 digits))) None ≡ Some n
    → (t ≡ true) × (n ≡ cut_size (digits_value 10 digits))
digits_found true digits n e = (refl, cc)
digits_found false digits n e = absurd cc

mark_found : (t : Bool) (rest : List ℕ) (n : ℕ)
    → option_and_then (λ r. size_in_digits (before_first is_comma r)) (cond t (Some rest) None) ≡ Some n
    → (t ≡ true) × (size_in_digits (before_first is_comma rest) ≡ Some n)
mark_found true rest n e = (refl, e)
mark_found false rest n e = absurd cc

begun : (a b c : ℕ) (xs ys : List ℕ) → a ≡ 44 → b ≡ 83 → c ≡ 61 → xs ≡ ys → ◌≡◌ {A = List ℕ} (a ∷ b ∷ c ∷ xs) (44 ∷ 83 ∷ 61 ∷ ys)
begun a b c xs ys p q r e = cc

-- and where bytes name a size, they begin with a place
here : (bytes : List ℕ) (n : ℕ) → size_at bytes ≡ Some n → Here bytes n
here [] n e = absurd cc
here (a ∷ []) n e = absurd cc
here (a ∷ b ∷ []) n e = absurd cc
here (a ∷ b ∷ c ∷ rest) n e =
    let digits = before_first is_comma rest in
    let mark = mark_found (is_comma a && (b == 83 && c == 61)) rest n e in
    let first = and_parts (is_comma a) (b == 83 && c == 61) mark.0 in
    let second = and_parts (b == 83) (c == 61) first.1 in
    let found = digits_found (nat_lt 0 (length digits) && list_all is_ascii_digit digits) digits n mark.1 in
    let tests = and_parts (nat_lt 0 (length digits)) (list_all is_ascii_digit digits) found.0 in
    record {
      digits = digits;
      after = drop (position_or_len is_comma rest) rest;
      place = record {
        whole = begun a b c rest _ (eqb-true a 44 first.0) (eqb-true b 83 second.0) (eqb-true c 61 second.1)
            (sym (take-append-drop (position_or_len is_comma rest) rest));
        some = ltb-true 0 (length digits) tests.0;
        digits_only = tests.1;
        ended = ended_rest rest;
      };
      value = found.1;
    }

-- a place at the very start names the size of these bytes
prefix : (bytes d e : List ℕ) → SizePlace bytes [] d e → size_at bytes ≡ Some (cut_size (digits_value 10 d))
prefix bytes d e p = ap size_at p.whole ∙ place_read d e p.some p.digits_only p.ended

shifted : (x : ℕ) (bytes b d e : List ℕ) → SizePlace bytes b d e → SizePlace (x ∷ bytes) (x ∷ b) d e
shifted x bytes b d e p = record { whole = ap (λ ys. x ∷ ys) p.whole; some = p.some; digits_only = p.digits_only; ended = p.ended }

tails : (x y : ℕ) (xs ys : List ℕ) → ◌≡◌ {A = List ℕ} (x ∷ xs) (y ∷ ys) → xs ≡ ys
tails x y xs ys e = cc

behind_first : (x y : ℕ) (bytes b d e : List ℕ) → SizePlace (x ∷ bytes) (y ∷ b) d e → SizePlace bytes b d e
behind_first x y bytes b d e p = record { whole = tails x y bytes _ p.whole; some = p.some; digits_only = p.digits_only; ended = p.ended }

no_place : (b d e : List ℕ) → SizePlace [] b d e → ⊥
no_place [] d e p = let whole = p.whole in absurd cc
no_place (x ∷ b) d e p = let whole = p.whole in absurd cc

-- no place at the start: a place has bytes before it, and stands behind the first byte
none_here : (x : ℕ) (xs : List ℕ) → size_at (x ∷ xs) ≡ None → (d e : List ℕ) → SizePlace (x ∷ xs) [] d e → ⊥
none_here x xs h d e p = let found = prefix (x ∷ xs) d e p in absurd cc

first_behind : (x : ℕ) (xs : List ℕ) (n : ℕ) → size_at (x ∷ xs) ≡ None → NamesSize xs n → NamesSize (x ∷ xs) n
first_behind x xs n h s = record {
  before = x ∷ s.before;
  digits = s.digits;
  after = s.after;
  place = shifted x xs s.before s.digits s.after s.place;
  first = later;
  value = s.value;
}
  where
    later : (b d e : List ℕ) → SizePlace (x ∷ xs) b d e → length (x ∷ s.before) ≤ length b
    later [] d e p = absurd (none_here x xs h d e p)
    later (y ∷ b) d e p = let le = s.first b d e (behind_first x y xs b d e p) in omega arith

none_behind : (x : ℕ) (xs : List ℕ) → size_at (x ∷ xs) ≡ None → NamesNoSize xs → NamesNoSize (x ∷ xs)
none_behind x xs h none [] d e p = none_here x xs h d e p
none_behind x xs h none (y ∷ b) d e p = none b d e (behind_first x y xs b d e p)

at_prefix : (x : ℕ) (xs : List ℕ) (n : ℕ) → Here (x ∷ xs) n → NamesSize (x ∷ xs) n
at_prefix x xs n h = record {
  before = [];
  digits = h.digits;
  after = h.after;
  place = h.place;
  first = λ b d e p. omega arith;
  value = h.value;
}

one_more : (x : ℕ) (xs : List ℕ) (o r : Option ℕ) → size_at (x ∷ xs) ≡ o → IsSizeNamed xs r → IsSizeNamed (x ∷ xs) (option_or o r)
one_more x xs (Some n) r e h = at_prefix x xs n (here (x ∷ xs) n e)
one_more x xs None (Some n) e h = first_behind x xs n e h
one_more x xs None None e h = none_behind x xs e h

-- the size that is named is that of the first place
pub named_first : (unique : List ℕ) → IsSizeNamed unique (size_named unique)
named_first [] = no_place
named_first (x ∷ xs) = one_more x xs (size_at (x ∷ xs)) (size_named xs) refl (named_first xs)

-- two places with as many bytes before them have the same digits
same_digits : (unique b d e c f g : List ℕ) → SizePlace unique b d e → SizePlace unique c f g → length b ≡ length c → d ≡ f
same_digits unique b d e c f g p q l =
    let rests : codes ",S=" ++ (d ++ e) ≡ codes ",S=" ++ (f ++ g) =
    sym (drop_at b (codes ",S=" ++ (d ++ e)) (length c) l) ∙ ap (drop (length c)) (sym p.whole ∙ q.whole)
    ∙ drop_at c (codes ",S=" ++ (f ++ g)) (length c) refl in
    sym (before_digits d e p.digits_only p.ended) ∙ ap (λ ys. before_first is_comma (drop 3 ys)) rests
    ∙ before_digits f g q.digits_only q.ended

same_size : (unique : List ℕ) (m n : ℕ) → NamesSize unique m → NamesSize unique n → m ≡ n
same_size unique m n s t =
    let le = s.first t.before t.digits t.after t.place in
    let ge = t.first s.before s.digits s.after s.place in
    let digits = same_digits unique s.before s.digits s.after t.before t.digits t.after s.place t.place (omega arith) in
    s.value ∙ ap (λ ds. cut_size (digits_value 10 ds)) digits ∙ sym t.value

same_named : (unique : List ℕ) (s t : Option ℕ) → IsSizeNamed unique s → IsSizeNamed unique t → s ≡ t
same_named unique None None h k = refl
same_named unique None (Some n) h k = absurd (h k.before k.digits k.after k.place)
same_named unique (Some n) None h k = absurd (k h.before h.digits h.after h.place)
same_named unique (Some m) (Some n) h k = ap Some (same_size unique m n h k)

-- and no other is
pub named_once : (unique : List ℕ) (size : Option ℕ) → IsSizeNamed unique size → size ≡ size_named unique
named_once unique size h = same_named unique size (size_named unique) h (named_first unique)
