-- The words of a line, and the numbers that they are.
use Rattle.std.proofs.Common.{◌≡◌, ℕ, ◌+◌, ◌^◌, ◌<◌, ◌≤◌, min, List, [], ◌∷◌, ◌++◌, Bool, true, false, cond, ◌&&◌, length, Option, Some, None, refl, ap, ◌∙◌, sym, ⊎_elim, arith, lit<, length-append, nat_lt, nat_le}
use Rattle.std.proofs.Math.Nat.{pow-le-pow_right}
use Rattle.std.specs.List.{take_while, list_all}
use Rattle.std.specs.Char.{is_ascii_digit}
use Rattle.std.specs.Str.Parse.{digits_value}
use Rattle.std.proofs.lemmas.Bool.{cases_Bool, lt-ltb, le-ltb, le-leb, lt-leb, and_from, and_left, and_right, cond-true, cond-false}
use Rattle.std.proofs.lemmas.Bool.Decides.{nat_tests}
use Rattle.std.proofs.lemmas.Int.Digits.{digits_value-lt}
use Rattle.std.proofs.lemmas.List.Folds.{list_all-append}
use Rattle.std.proofs.lemmas.List.{append-nil}
use Rattle.maildirsize.specs.Prefixes.{skip_while, begins_with}
use Rattle.maildirsize.specs.SumLine.{is_in_word, magnitude_in}
use Rattle.quota_units.proofs.DigitLemmas.{all_digits}
use Rattle.maildirsize.proofs.PrefixLemmas.{prefix_wider, skip_wider, prefix_none, skip_none, list_all-take_while, prefix_mixed, begins_with-skip_while, take_while-append-skip_while}

-- 18 digits write a number below 10 ^ 18
pub digits_bound : (ds : List ℕ) → list_all is_ascii_digit ds ≡ true → length ds ≤ 18 → digits_value 10 ds < 1000000000000000000
digits_bound ds all few =
    let below = digits_value-lt 10 ds (all_digits ds all) in
    let powers : 10 ^ length ds ≤ 10 ^ 18 = pow-le-pow_right (lit< tt) few in
    omega (arith, below, powers)

-- whether bytes are 1 to 18 digits
abbrev is_magnitude : List ℕ → Bool
is_magnitude ds = nat_le (length ds) 18 && (nat_lt 0 (length ds) && (nat_le (length ds) 19 && list_all is_ascii_digit ds))

two_tests : (a b : Bool) (o : Option ℕ) → cond a (cond b o None) None ≡ cond (a && b) o None
two_tests true b o = refl
two_tests false b o = refl

magnitude_is : (ds : List ℕ) → magnitude_in ds ≡ cond (is_magnitude ds) (Some (digits_value 10 ds)) None
magnitude_is ds = two_tests (nat_le (length ds) 18) (nat_lt 0 (length ds) && (nat_le (length ds) 19 && list_all is_ascii_digit ds))
    (Some (digits_value 10 ds))

pub magnitude_some : (ds : List ℕ) → 0 < length ds → length ds ≤ 18 → list_all is_ascii_digit ds ≡ true
    → magnitude_in ds ≡ Some (digits_value 10 ds)
magnitude_some ds some few all =
    let wide : length ds ≤ 19 = omega arith in
    magnitude_is ds ∙ cond-true (is_magnitude ds) (Some (digits_value 10 ds)) None
    (and_from (nat_le (length ds) 18) (nat_lt 0 (length ds) && (nat_le (length ds) 19 && list_all is_ascii_digit ds))
    (le-leb (length ds) 18 few)
    (and_from (nat_lt 0 (length ds)) (nat_le (length ds) 19 && list_all is_ascii_digit ds) (lt-ltb 0 (length ds) some)
    (and_from (nat_le (length ds) 19) (list_all is_ascii_digit ds) (le-leb (length ds) 19 wide) all)))

second : (a b c d : Bool) → b ≡ false → (a && (b && (c && d))) ≡ false
second a b c d h = and_right a (b && (c && d)) (and_left b (c && d) h)

fourth : (a b c d : Bool) → d ≡ false → (a && (b && (c && d))) ≡ false
fourth a b c d h = and_right a (b && (c && d)) (and_right b (c && d) (and_right c d h))

refused : (ds : List ℕ) → is_magnitude ds ≡ false → magnitude_in ds ≡ None
refused ds h = magnitude_is ds ∙ cond-false (is_magnitude ds) (Some (digits_value 10 ds)) None h

pub magnitude_empty : (ds : List ℕ) → length ds ≡ 0 → magnitude_in ds ≡ None
magnitude_empty ds none =
    let few : length ds ≤ 0 = omega arith in
    refused ds (second (nat_le (length ds) 18) (nat_lt 0 (length ds)) (nat_le (length ds) 19) (list_all is_ascii_digit ds)
    (le-ltb 0 (length ds) few))

pub magnitude_long : (ds : List ℕ) → 18 < length ds → magnitude_in ds ≡ None
magnitude_long ds long = refused ds
    (and_left (nat_le (length ds) 18) (nat_lt 0 (length ds) && (nat_le (length ds) 19 && list_all is_ascii_digit ds))
    (lt-leb (length ds) 18 long))

pub magnitude_mixed : (ds : List ℕ) → list_all is_ascii_digit ds ≡ false → magnitude_in ds ≡ None
magnitude_mixed ds mixed = refused ds
    (fourth (nat_le (length ds) 18) (nat_lt 0 (length ds)) (nat_le (length ds) 19) (list_all is_ascii_digit ds) mixed)

digits_in_words : (c : ℕ) → is_ascii_digit c ≡ true → is_in_word c ≡ true
digits_in_words c h = grind (arith, nat_tests)

-- a word whose digits are none, too many, or not all of it is no number
pub magnitude_cut_short : (bs : List ℕ) → begins_with is_in_word (skip_while is_ascii_digit bs) ≡ true
    → magnitude_in (take_while is_in_word bs) ≡ None
magnitude_cut_short bs h =
    let digits = take_while is_ascii_digit bs in
    let rest = skip_while is_ascii_digit bs in
    let more = take_while is_in_word rest in
    ap magnitude_in (prefix_wider is_ascii_digit is_in_word digits_in_words bs) ∙ magnitude_mixed (digits ++ more)
    (list_all-append is_ascii_digit digits more
    ∙ and_right (list_all is_ascii_digit digits) (list_all is_ascii_digit more)
    (prefix_mixed is_ascii_digit is_in_word rest (begins_with-skip_while is_ascii_digit bs) h))

word_of_digits : (bs : List ℕ) → begins_with is_in_word (skip_while is_ascii_digit bs) ≡ false
    → take_while is_in_word bs ≡ take_while is_ascii_digit bs
word_of_digits bs ends =
    let digits = take_while is_ascii_digit bs in
    prefix_wider is_ascii_digit is_in_word digits_in_words bs
    ∙ ap (λ ys. digits ++ ys) (prefix_none is_in_word (skip_while is_ascii_digit bs) ends) ∙ append-nil digits

pub magnitude_refused : (bs : List ℕ) → magnitude_in (take_while is_ascii_digit bs) ≡ None
    → magnitude_in (take_while is_in_word bs) ≡ None
magnitude_refused bs none = ⊎_elim
    (λ (h : begins_with is_in_word (skip_while is_ascii_digit bs) ≡ true). magnitude_cut_short bs h)
    (λ (h : begins_with is_in_word (skip_while is_ascii_digit bs) ≡ false). ap magnitude_in (word_of_digits bs h) ∙ none)
    (cases_Bool (begins_with is_in_word (skip_while is_ascii_digit bs)))

-- a word of 1 to 18 digits is the number that they write, which no cut changes
pub magnitude_taken : (bs : List ℕ) → 0 < length (take_while is_ascii_digit bs) → length (take_while is_ascii_digit bs) ≤ 18
    → begins_with is_in_word (skip_while is_ascii_digit bs) ≡ false
    → (magnitude_in (take_while is_in_word bs) ≡ Some (min (digits_value 10 (take_while is_ascii_digit bs)) 1000000000000000000))
    × (skip_while is_ascii_digit bs ≡ skip_while is_in_word bs) ×
    (min (digits_value 10 (take_while is_ascii_digit bs)) 1000000000000000000 < 1000000000000000000)
magnitude_taken bs some few ends =
    let digits = take_while is_ascii_digit bs in
    let rest = skip_while is_ascii_digit bs in
    let all = list_all-take_while is_ascii_digit bs in
    let bound = digits_bound digits all few in
    let word = word_of_digits bs ends in
    let cut : digits_value 10 digits ≡ min (digits_value 10 digits) 1000000000000000000 = omega (arith, bound) in (
      ap magnitude_in word ∙ magnitude_some digits some few all ∙ ap Some cut,
      sym (skip_wider is_ascii_digit is_in_word digits_in_words bs ∙ skip_none is_in_word rest ends),
      omega (arith, bound),
    )

-- the prefix and what stands behind it make up the list
pub length-take_while : (p : ℕ → Bool) (bs : List ℕ) → length (take_while p bs) + length (skip_while p bs) ≡ length bs
length-take_while p bs = sym (length-append (take_while p bs) (skip_while p bs)) ∙ ap length (take_while-append-skip_while p bs)
