-- What is written is read back.
use Rattle.std.proofs.Common.{◌≡◌, ℕ, suc, ◌^◌, ◌<◌, ◌==◌, min, ℤ, pos, negsuc, neg_ℤ, unsigned_abs, List, [], ◌∷◌, ◌++◌, Bool, true, false, cond, not, ◌&&◌, length, map, Option, Some, None, IfSome, is_some, codes, refl, ap, ◌∙◌, sym, arith, nat_lt, length-append}
use Rattle.std.specs.Fmt.{decimal, signed_decimal}
use Rattle.std.specs.List.{slice_split, onto_first, list_all, take_while, flat_map, filter, cons_option, AllByRecursion}
use Rattle.std.specs.Option.{option_map}
use Rattle.std.specs.Char.{is_ascii_digit, is_ascii_alphabetic}
use Rattle.std.specs.Str.Parse.{digits_value}
use Rattle.std.proofs.lemmas.Bool.{and_from, and_parts, cond-true, cond-false, lt-ltb, ne_eqb, not-true}
use Rattle.std.proofs.lemmas.Bool.Decides.{nat_tests}
use Rattle.std.proofs.lemmas.Fmt.{decimal_is_IsNumeral, length-decimal-le}
use Rattle.std.proofs.lemmas.List.{append_assoc, append-nil}
use Rattle.std.proofs.lemmas.List.Folds.{list_all-append}
use Rattle.quota_units.specs.Limiting.{LimitNumbers, IsLimit, AreLimits}
use Rattle.maildirsize.specs.declared.definition.Member.{Member}
use Rattle.maildirsize.specs.Prefixes.{skip_while}
use Rattle.maildirsize.specs.Lines.{is_line_feed, is_in_line, parts_of, all_but_last, last_of}
use Rattle.maildirsize.specs.Definition.{is_comma, limit_of, member_in, member_of, members_in, limits_named, limits_in, definition_in}
use Rattle.maildirsize.specs.Sums.{Pair}
use Rattle.maildirsize.specs.SumLine.{is_space, is_in_word, magnitude_in, integer_in, words_in, pair_of, pair_of_words, pair_in}
use Rattle.maildirsize.specs.Written.{written_limits, written_definition, written_line, written_ledger, IsSmall}
use Rattle.maildirsize.specs.Reading.{Reads}
use Rattle.maildirsize.specs.Laws.{WrittenReadsBack}
use Rattle.maildirsize.proofs.PrefixLemmas.{take_yes, take_no, skip_yes, skip_no}
use Rattle.maildirsize.proofs.SplitLemmas.{split_yes, split_no}
use Rattle.quota_units.proofs.DigitLemmas.{digit_range, digits_all}
use Rattle.maildirsize.proofs.WordLemmas.{magnitude_some}
use Rattle.maildirsize.proofs.SumsLemmas.{all_but_last_append, last_of_append}
use Rattle.maildirsize.proofs.ReadingLemmas.{one_reading_lem}

-- lists whose elements all pass
all_cons : (p : ℕ → Bool) (x : ℕ) (xs : List ℕ) → p x ≡ true → list_all p xs ≡ true → list_all p (x ∷ xs) ≡ true
all_cons p x xs h k = and_from (p x) (list_all p xs) h k

all_append : (p : ℕ → Bool) (xs ys : List ℕ) → list_all p xs ≡ true → list_all p ys ≡ true → list_all p (xs ++ ys) ≡ true
all_append p xs ys h k = list_all-append p xs ys ∙ and_from (list_all p xs) (list_all p ys) h k

all_wider : (p q : ℕ → Bool) → ((x : ℕ) → p x ≡ true → q x ≡ true) → (xs : List ℕ) → list_all p xs ≡ true → list_all q xs ≡ true
all_wider p q wider [] h = refl
all_wider p q wider (x ∷ xs) h = let t = and_parts (p x) (list_all p xs) h in all_cons q x xs (wider x t.0)
    (all_wider p q wider xs t.1)

-- a prefix that all passes, and what follows it
prefix_all : (p : ℕ → Bool) (xs : List ℕ) (y : ℕ) (ys : List ℕ) → list_all p xs ≡ true → p y ≡ false
    → (take_while p (xs ++ y ∷ ys) ≡ xs) × (skip_while p (xs ++ y ∷ ys) ≡ y ∷ ys)
prefix_all p [] y ys h k = (take_no p y ys k, skip_no p y ys k)
prefix_all p (x ∷ xs) y ys h k =
    let t = and_parts (p x) (list_all p xs) h in
    let more = prefix_all p xs y ys t.1 k in
    (take_yes p x (xs ++ y ∷ ys) t.0 ∙ ap (λ zs. x ∷ zs) more.0, skip_yes p x (xs ++ y ∷ ys) t.0 ∙ more.1)

-- a part without the separator
split_part : (sep : ℕ → Bool) (xs : List ℕ) (y : ℕ) (ys : List ℕ) → list_all (λ x. not (sep x)) xs ≡ true → sep y ≡ true
    → slice_split sep (xs ++ y ∷ ys) ≡ xs ∷ slice_split sep ys
split_part sep [] y ys h k = split_yes sep y ys k
split_part sep (x ∷ xs) y ys h k =
    let t = and_parts (not (sep x)) (list_all (λ x. not (sep x)) xs) h in
    split_no sep x (xs ++ y ∷ ys) (not-true (sep x) t.0) ∙ ap (onto_first x) (split_part sep xs y ys t.1 k)

split_last : (sep : ℕ → Bool) (xs : List ℕ) → list_all (λ x. not (sep x)) xs ≡ true → slice_split sep xs ≡ xs ∷ []
split_last sep [] h = refl
split_last sep (x ∷ xs) h =
    let t = and_parts (not (sep x)) (list_all (λ x. not (sep x)) xs) h in
    split_no sep x xs (not-true (sep x) t.0) ∙ ap (onto_first x) (split_last sep xs t.1)

-- the digits of a written number
module _ (n : ℕ) (small : n < 2 ^ 64) where
  decimal_digits : list_all is_ascii_digit (decimal n) ≡ true
  decimal_digits = digits_all (decimal n) (decimal_is_IsNumeral n small).0.1

  decimal_some : 0 < length (decimal n)
  decimal_some = (decimal_is_IsNumeral n small).0.0

  decimal_value : digits_value 10 (decimal n) ≡ n
  decimal_value = (decimal_is_IsNumeral n small).1

magnitude_back : (n : ℕ) → n < 1000000000000000000 → magnitude_in (decimal n) ≡ Some n
magnitude_back n small =
    let fits : n < 2 ^ 64 = omega arith in
    let few = length-decimal-le 18 n (omega arith) (omega arith) fits in
    magnitude_some (decimal n) (decimal_some n fits) few (decimal_digits n fits) ∙ ap Some (decimal_value n fits)

integer_of_digits : (ds : List ℕ) → list_all is_ascii_digit ds ≡ true → integer_in ds ≡ option_map pos (magnitude_in ds)
integer_of_digits [] h = refl
integer_of_digits (x ∷ xs) h =
    let t = and_parts (is_ascii_digit x) (list_all is_ascii_digit xs) h in
    let r = digit_range x t.0 in
    let other : (x ≡ 45 → ⊥) = λ e. omega (arith, r, e) in
    cond-false (x == 45) (option_map (λ n. neg_ℤ (pos n)) (magnitude_in xs)) (option_map pos (magnitude_in (x ∷ xs)))
    (ne_eqb x 45 other)

integer_back : (z : ℤ) → unsigned_abs z < 1000000000000000000 → integer_in (signed_decimal z) ≡ Some z
integer_back (pos n) small =
    let fits : n < 2 ^ 64 = omega arith in
    integer_of_digits (decimal n) (decimal_digits n fits) ∙ ap (option_map pos) (magnitude_back n small)
integer_back (negsuc n) small = ap (option_map (λ n. neg_ℤ (pos n))) (magnitude_back (suc n) small)

digit_in_word : (x : ℕ) → is_ascii_digit x ≡ true → is_in_word x ≡ true
digit_in_word x h = grind (arith, nat_tests)

word_no_space : (x : ℕ) → is_in_word x ≡ true → not (is_space x) ≡ true
word_no_space x h = grind (arith, nat_tests)

word_in_line : (x : ℕ) → is_in_word x ≡ true → is_in_line x ≡ true
word_in_line x h = grind (arith, nat_tests)

signed_word : (z : ℤ) → unsigned_abs z < 1000000000000000000
    → (list_all is_in_word (signed_decimal z) ≡ true) × (0 < length (signed_decimal z))
signed_word (pos n) small =
    let fits : n < 2 ^ 64 = omega arith in
    (all_wider is_ascii_digit is_in_word digit_in_word (decimal n) (decimal_digits n fits), decimal_some n fits)
signed_word (negsuc n) small =
    let fits : suc n < 2 ^ 64 = omega arith in (
      all_cons is_in_word 45 (decimal (suc n)) refl
          (all_wider is_ascii_digit is_in_word digit_in_word (decimal (suc n)) (decimal_digits (suc n) fits)),
      omega arith,
    )

-- a written sum line without its line feed
abbrev body : Pair → List ℕ
body pair = signed_decimal pair.octets ++ 32 ∷ signed_decimal pair.count

not_empty_two : (v w : List ℕ) → 0 < length v → 0 < length w
    → filter (λ (x : List ℕ). nat_lt 0 (length x)) (v ∷ w ∷ []) ≡ v ∷ w ∷ []
not_empty_two v w h k =
    cond-true (nat_lt 0 (length v)) (v ∷ filter (λ (x : List ℕ). nat_lt 0 (length x)) (w ∷ []))
    (filter (λ (x : List ℕ). nat_lt 0 (length x)) (w ∷ [])) (lt-ltb 0 (length v) h)
    ∙ ap (λ ws. v ∷ ws) (cond-true (nat_lt 0 (length w)) (w ∷ []) [] (lt-ltb 0 (length w) k))

module _ (pair : Pair) (small : IsSmall pair) where
  octets_word : (list_all is_in_word (signed_decimal pair.octets) ≡ true) × (0 < length (signed_decimal pair.octets))
  octets_word = signed_word pair.octets small.octets

  count_word : (list_all is_in_word (signed_decimal pair.count) ≡ true) × (0 < length (signed_decimal pair.count))
  count_word = signed_word pair.count small.count

  body_words : words_in (body pair) ≡ signed_decimal pair.octets ∷ signed_decimal pair.count ∷ []
  body_words =
      ap (filter (λ (x : List ℕ). nat_lt 0 (length x)))
      (split_part is_space (signed_decimal pair.octets) 32 (signed_decimal pair.count)
      (all_wider is_in_word (λ x. not (is_space x)) word_no_space (signed_decimal pair.octets) octets_word.0) refl
      ∙ ap (λ ws. signed_decimal pair.octets ∷ ws)
      (split_last is_space (signed_decimal pair.count)
      (all_wider is_in_word (λ x. not (is_space x)) word_no_space (signed_decimal pair.count) count_word.0)))
      ∙ not_empty_two (signed_decimal pair.octets) (signed_decimal pair.count) octets_word.1 count_word.1

  pair_back : pair_in (body pair) ≡ Some pair
  pair_back =
      ap pair_of_words body_words
      ∙ ap (λ o. pair_of o (integer_in (signed_decimal pair.count))) (integer_back pair.octets small.octets)
      ∙ ap (pair_of (Some pair.octets)) (integer_back pair.count small.count)

  body_in_line : list_all is_in_line (body pair) ≡ true
  body_in_line = all_append is_in_line (signed_decimal pair.octets) (32 ∷ signed_decimal pair.count)
      (all_wider is_in_word is_in_line word_in_line (signed_decimal pair.octets) octets_word.0)
      (all_cons is_in_line 32 (signed_decimal pair.count) refl
      (all_wider is_in_word is_in_line word_in_line (signed_decimal pair.count) count_word.0))

  line_is : (rest : List ℕ) → written_line pair ++ rest ≡ body pair ++ 10 ∷ rest
  line_is rest = simp append_assoc

-- the sum lines of a written ledger
lines_back : (pairs : List Pair) → AllByRecursion IsSmall pairs → parts_of (flat_map written_line pairs) ≡ map body pairs ++ [] ∷ []
lines_back [] h = refl
lines_back (pair ∷ pairs) h =
    ap parts_of (line_is pair h.0 (flat_map written_line pairs))
    ∙ split_part is_line_feed (body pair) 10 (flat_map written_line pairs) (body_in_line pair h.0) refl
    ∙ ap (λ ps. body pair ∷ ps) (lines_back pairs h.1)

pairs_back : (pairs : List Pair) → AllByRecursion IsSmall pairs → map pair_in (map body pairs) ≡ map Some pairs
pairs_back [] h = refl
pairs_back (pair ∷ pairs) h = ap (λ o. o ∷ map pair_in (map body pairs)) (pair_back pair h.0)
    ∙ ap (λ os. Some pair ∷ os) (pairs_back pairs h.1)

-- a written member
digit_no_comma : (x : ℕ) → is_ascii_digit x ≡ true → not (is_comma x) ≡ true
digit_no_comma x h = grind (arith, nat_tests)

digit_in_line : (x : ℕ) → is_ascii_digit x ≡ true → is_in_line x ≡ true
digit_in_line x h = grind (arith, nat_tests)

limit_back : (n : ℕ) → IsLimit n → limit_of n ≡ Some n
limit_back n h =
    let other : (n ≡ 0 → ⊥) = λ e. omega (arith, e, h.some) in
    let cut : min n 9007199254740991 ≡ n = omega (arith, h.bounded) in
    cond-false (n == 0) None (Some (min n 9007199254740991)) (ne_eqb n 0 other) ∙ ap Some cut

abbrev member : ℕ → Option ℕ → Member
member letter limit = record { letter = letter; limit = limit }

module _ (n : ℕ) (limit : IsLimit n) where
  fits_word : n < 2 ^ 64
  fits_word = omega (arith, limit.bounded)

  member_back : (letter : ℕ) → is_ascii_digit letter ≡ false → is_ascii_alphabetic letter ≡ true
      → member_in (decimal n ++ letter ∷ []) ≡ Some (member letter (Some n))
  member_back letter other alphabetic =
      let f = prefix_all is_ascii_digit (decimal n) letter [] (decimal_digits n fits_word) other in
      let some = decimal_some n fits_word in
      ap (λ ds. member_of ds (skip_while is_ascii_digit (decimal n ++ letter ∷ []))) f.0 ∙ ap (member_of (decimal n)) f.1
      ∙ cond-true (nat_lt 0 (length (decimal n)) && is_ascii_alphabetic letter)
      (Some (member letter (limit_of (digits_value 10 (decimal n))))) None
      (and_from (nat_lt 0 (length (decimal n))) (is_ascii_alphabetic letter) (lt-ltb 0 (length (decimal n)) some) alphabetic)
      ∙ ap (λ v. Some (member letter (limit_of v))) (decimal_value n fits_word)
      ∙ ap (λ l. Some (member letter l)) (limit_back n limit)

  no_comma : (letter : ℕ) → not (is_comma letter) ≡ true → list_all (λ x. not (is_comma x)) (decimal n ++ letter ∷ []) ≡ true
  no_comma letter h = all_append (λ x. not (is_comma x)) (decimal n) (letter ∷ [])
      (all_wider is_ascii_digit (λ x. not (is_comma x)) digit_no_comma (decimal n) (decimal_digits n fits_word))
      (all_cons (λ x. not (is_comma x)) letter [] h refl)

  number_in_line : (rest : List ℕ) → list_all is_in_line rest ≡ true → list_all is_in_line (decimal n ++ rest) ≡ true
  number_in_line rest h = all_append is_in_line (decimal n) rest
      (all_wider is_ascii_digit is_in_line digit_in_line (decimal n) (decimal_digits n fits_word)) h

members_some : (line : List ℕ) → 0 < length line → members_in line ≡ slice_split is_comma line
members_some [] h = absurd (omega arith)
members_some (b ∷ line) h = refl

one_member : (text : List ℕ) (m : Member) → member_in text ≡ Some m → limits_in (text ∷ []) ≡ Some (limits_named (m ∷ []))
one_member text m h = ap (λ o. cond (is_some o && true) (Some (limits_named (cons_option o []))) None) h

two_members : (v w : List ℕ) (m n : Member) → member_in v ≡ Some m → member_in w ≡ Some n
    → limits_in (v ∷ w ∷ []) ≡ Some (limits_named (m ∷ n ∷ []))
two_members v w m n h k =
    ap (λ o. cond (is_some o && (is_some (member_in w) && true))
    (Some (limits_named (cons_option o (cons_option (member_in w) [])))) None) h
    ∙ ap (λ o. cond (is_some (Some m) && (is_some o && true)) (Some (limits_named (m ∷ cons_option o []))) None) k

definition_back : (o c : Option ℕ) → IfSome o IsLimit → IfSome c IsLimit
    → definition_in (written_limits o c) ≡ Some (record { octets = o; count = c })
definition_back None None h k = refl
definition_back (Some s) None h k =
    let text = decimal s ++ 83 ∷ [] in
    let some : 0 < length text = omega (arith, length-append (decimal s) (83 ∷ [])) in
    ap limits_in (members_some text some ∙ split_last is_comma text (no_comma s h 83 refl))
    ∙ one_member text (member 83 (Some s)) (member_back s h 83 refl refl)
definition_back None (Some n) h k =
    let text = decimal n ++ 67 ∷ [] in
    let some : 0 < length text = omega (arith, length-append (decimal n) (67 ∷ [])) in
    ap limits_in (members_some text some ∙ split_last is_comma text (no_comma n k 67 refl))
    ∙ one_member text (member 67 (Some n)) (member_back n k 67 refl refl)
definition_back (Some s) (Some n) h k =
    let first = decimal s ++ 83 ∷ [] in
    let second = decimal n ++ 67 ∷ [] in
    let line = decimal s ++ (codes "S," ++ (decimal n ++ codes "C")) in
    let some : 0 < length line = omega (arith, length-append (decimal s) (codes "S," ++ (decimal n ++ codes "C"))) in
    let same : line ≡ first ++ 44 ∷ second = sym (append_assoc (decimal s) (83 ∷ []) (44 ∷ second)) in
    ap limits_in (members_some line some ∙ ap (slice_split is_comma) same
    ∙ split_part is_comma first 44 second (no_comma s h 83 refl) refl
    ∙ ap (λ ts. first ∷ ts) (split_last is_comma second (no_comma n k 67 refl)))
    ∙ two_members first second (member 83 (Some s)) (member 67 (Some n)) (member_back s h 83 refl refl)
    (member_back n k 67 refl refl)

definition_in_line : (o c : Option ℕ) → IfSome o IsLimit → IfSome c IsLimit → list_all is_in_line (written_limits o c) ≡ true
definition_in_line None None h k = refl
definition_in_line (Some s) None h k = number_in_line s h (codes "S") refl
definition_in_line None (Some n) h k = number_in_line n k (codes "C") refl
definition_in_line (Some s) (Some n) h k =
    number_in_line s h (codes "S," ++ (decimal n ++ codes "C"))
    (all_append is_in_line (codes "S,") (decimal n ++ codes "C") refl (number_in_line n k (codes "C") refl))

module _ (limits : LimitNumbers) (pairs : List Pair) (right : AreLimits limits) (small : AllByRecursion IsSmall pairs) where
  parts_back : parts_of (written_ledger limits pairs) ≡ (written_definition limits ∷ map body pairs) ++ [] ∷ []
  parts_back =
      split_part is_line_feed (written_definition limits) 10 (flat_map written_line pairs)
      (definition_in_line limits.octets limits.count right.octets right.count) refl
      ∙ ap (λ ps. written_definition limits ∷ ps) (lines_back pairs small)

  reads_back : length (written_ledger limits pairs) < 5120 → Reads (written_ledger limits pairs) limits pairs
  reads_back short = record {
    definition = written_definition limits;
    sums = map body pairs;
    short = short;
    lines = ap all_but_last parts_back ∙ all_but_last_append (written_definition limits ∷ map body pairs) [] []
        ∙ append-nil (written_definition limits ∷ map body pairs);
    whole = ap last_of parts_back ∙ last_of_append (written_definition limits ∷ map body pairs) [] [];
    defined = definition_back limits.octets limits.count right.octets right.count;
    stated = pairs_back pairs small;
  }

pub written_reads_back_lem : WrittenReadsBack
written_reads_back_lem limits pairs right small short =
    let read = reads_back limits pairs right small short in
    (read, λ m qs other. one_reading_lem (written_ledger limits pairs) m limits qs pairs other read)
