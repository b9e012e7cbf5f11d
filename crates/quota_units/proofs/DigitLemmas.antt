-- One digit more.
use Rattle.std.proofs.Common.{◌≡◌, ℕ, min, ◌+◌, ◌-◌, ◌*◌, ◌^◌, ◌<◌, ◌≤◌, List, [], ◌∷◌, length, take, get_or, Bool, true, ◌&&◌, arith, refl, sym, ◌∙◌, ap, subst, length-take, lit<, ltb, leb, lt-ltb, le-leb, false, Some, None, if◌then◌else◌, inl, inr}
use Rattle.std.specs.Fmt.{decimal}
use Rattle.std.proofs.lemmas.Fmt.{decimal-digits_value, digits_decimal, digits_value-decimal, decimal_nonempty, length-decimal-le, first_decimal, decimal_digit}
use Rattle.std.proofs.lemmas.Str.Parse.{IsNumeralModel, numerals_by_value, tells_digits, digit_from_value}
use Rattle.quota_units.specs.Digits.{number_of}
use Rattle.std.specs.List.{list_all}
use Rattle.std.specs.Char.{is_ascii_digit, digit_value}
use Rattle.std.specs.Str.Parse.{digits_value, AllDigits}
use Rattle.std.proofs.lemmas.Bool.{and_parts}
use Rattle.std.proofs.lemmas.Bool.Decides.{nat_tests, leb_tells}
use Rattle.std.proofs.lemmas.Int.Digits.{digits_value-lt, digits_value_more}
use Rattle.std.proofs.lemmas.List.Folds.{list_all_more}
use Rattle.std.proofs.lemmas.Str.{digit_value_digit}
use Rattle.std.proofs.Math.Nat.{pow-le-pow_right}

pub digit_range : (c : ℕ) → is_ascii_digit c ≡ true → (48 ≤ c) × (c ≤ 57)
digit_range c h = grind (arith, nat_tests)

small : (c : ℕ) → is_ascii_digit c ≡ true → digit_value c < 10
small c h = let r = digit_range c h in let v = digit_value_digit c r in omega arith

-- a number that is cut, with one digit more
pub cut_step : (v d c : ℕ) → d ≤ 9 → min (min v c * 10 + d) c ≡ min (v * 10 + d) c
cut_step v d c h = omega arith

pub all_digits : (ds : List ℕ) → list_all is_ascii_digit ds ≡ true → AllDigits 10 ds
all_digits [] h = tt
all_digits (c ∷ cs) h = let p = and_parts (is_ascii_digit c) (list_all is_ascii_digit cs) h in (small c p.0, all_digits cs p.1)

pub step : (bs : List ℕ) (i : ℕ) → i < length bs → length bs ≤ 19 → list_all is_ascii_digit (take i bs) ≡ true → is_ascii_digit (get_or bs i 0) ≡ true
    → (digits_value 10 (take i bs) < 1000000000000000000)
    × (digits_value 10 (take (i + 1) bs) ≡ digits_value 10 (take i bs) * 10 + (get_or bs i 0 - 48))
    × (list_all is_ascii_digit (take (i + 1) bs) ≡ true) × (48 ≤ get_or bs i 0) × (get_or bs i 0 ≤ 57)
step bs i lt short all digit =
    let r = digit_range (get_or bs i 0) digit in
    let v = digit_value_digit (get_or bs i 0) r in
    let below = digits_value-lt 10 (take i bs) (all_digits (take i bs) all) in
    let len = length-take i bs in
    let few : length (take i bs) ≤ 18 = omega (arith, len) in
    let powers : 10 ^ length (take i bs) ≤ 10 ^ 18 = pow-le-pow_right (lit< tt) few in
    let more = digits_value_more 10 bs i lt in
    let value : digit_value (get_or bs i 0) ≡ get_or bs i 0 - 48 = omega arith in
    let both = list_all_more is_ascii_digit bs i 0 lt in
    (omega (arith, below, powers), more ∙ ap (λ n. digits_value 10 (take i bs) * 10 + n) value, both ∙ (ap (λ b. b && is_ascii_digit (get_or bs i 0)) all ∙ digit), r.0, r.1)

own : IsNumeralModel (AllDigits 10) (digits_value 10)
own = numerals_by_value (AllDigits 10) tells_digits

pub digit_of : (c : ℕ) → digit_value c < 10 → is_ascii_digit c ≡ true
digit_of c lt = let r = digit_from_value c lt in let low : 48 ≤ c = r.0 in let high : c ≤ 57 = r.1 in grind (arith, nat_tests)

pub digits_all : (ds : List ℕ) → AllDigits 10 ds → list_all is_ascii_digit ds ≡ true
digits_all [] h = refl
digits_all (c ∷ cs) h = ap (λ b. b && list_all is_ascii_digit cs) (digit_of c h.0) ∙ digits_all cs h.1

-- the tests of a number
number_parts : (c : Bool) (bs : List ℕ) (n : ℕ) → (if c then Some (digits_value 10 bs) else None) ≡ Some n → (c ≡ true) × (digits_value 10 bs ≡ n)
number_parts true bs n e = (refl, cc)
number_parts false bs n e = absurd cc

-- digits with no leading zero are the one spelling of their number
pub numeral_is : (bs : List ℕ) (n : ℕ) → (1 < length bs → get_or bs 0 0 ≡ 48 → ⊥) → number_of bs ≡ Some n → bs ≡ decimal n
numeral_is bs n plain e =
    let parts = number_parts (ltb 0 (length bs) && (leb (length bs) 19 && list_all is_ascii_digit bs)) bs n e in
    let first = and_parts (ltb 0 (length bs)) (leb (length bs) 19 && list_all is_ascii_digit bs) parts.0 in
    let second = and_parts (leb (length bs) 19) (list_all is_ascii_digit bs) first.1 in
    let some : 0 < length bs = grind (arith, nat_tests) in
    let few : length bs ≤ 19 = grind (arith, nat_tests) in
    let digits = all_digits bs second.1 in
    let below = digits_value-lt 10 bs digits in
    let powers : 10 ^ length bs ≤ 10 ^ 19 = pow-le-pow_right (lit< tt) few in
    let small : digits_value 10 bs < 2 ^ 64 = omega (arith, below, powers) in
    let one : get_or bs 0 0 ≡ 48 → length bs ≡ 1 = λ zero. one_digit bs some (λ lt. plain lt zero) in
    sym (ap decimal (sym parts.1) ∙ decimal-digits_value own bs digits some one small)
  where
    one_digit : (ds : List ℕ) → 0 < length ds → (1 < length ds → ⊥) → length ds ≡ 1
    one_digit [] lt f = absurd (omega (arith, lt))
    one_digit (x ∷ []) lt f = refl
    one_digit (x ∷ y ∷ ds) lt f = absurd (f (omega arith))

-- and the one spelling of a number is read
pub numeral_read : (bs : List ℕ) (n : ℕ) → n < 10000000000000000000 → bs ≡ decimal n → (number_of bs ≡ Some n) × (1 < length bs → get_or bs 0 0 ≡ 48 → ⊥)
numeral_read bs n lt e = (subst (λ l. number_of l ≡ Some n) (sym e) read, plain)
  where
    small : n < 2 ^ 64
    small = omega (arith, lt)

    read : number_of (decimal n) ≡ Some n
    read =
        let digits = digits_all (decimal n) (digits_decimal own n small) in
        let some = lt-ltb 0 (length (decimal n)) (decimal_nonempty n small) in
        let few = le-leb (length (decimal n)) 19 (length-decimal-le 19 n (lit< tt) lt small) in
        let test : (ltb 0 (length (decimal n)) && (leb (length (decimal n)) 19 && list_all is_ascii_digit (decimal n))) ≡ true =
        ap (λ b. b && (leb (length (decimal n)) 19 && list_all is_ascii_digit (decimal n))) some ∙ (ap (λ b. b && list_all is_ascii_digit (decimal n)) few ∙ digits) in
        ap (λ (b : Bool). if b then Some (digits_value 10 (decimal n)) else None) test ∙ ap Some (digits_value-decimal own n small)

    plain : 1 < length bs → get_or bs 0 0 ≡ 48 → ⊥
    plain more zero = elim (leb_tells n 0) [
      | inl h ↦
          let none : n ≡ 0 = omega (arith, h.1) in
          let one : bs ≡ 48 ∷ [] = e ∙ ap decimal none ∙ decimal_digit 0 (lit< tt) in
          let sized : length bs ≡ 1 = ap length one in
          absurd (omega (arith, sized, more))
      | inr h ↦
          let first = first_decimal n (omega (arith, h.1)) small in
          let same : get_or (decimal n) 0 0 ≡ 48 = ap (λ l. get_or l 0 0) (sym e) ∙ zero in
          absurd (omega (arith, first, same))
    ]
