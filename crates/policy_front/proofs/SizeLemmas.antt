-- One more digit of a size.
use Rattle.std.proofs.Common.{◌≡◌, ℕ, ◌+◌, ◌-◌, ◌*◌, ◌<◌, ◌≤◌, min, List, length, take, get_or, true, arith, ap, ◌∙◌, sym}
use Rattle.std.specs.List.{list_all}
use Rattle.std.specs.Char.{is_ascii_digit, digit_value}
use Rattle.std.specs.Str.Parse.{digits_value}
use Rattle.std.proofs.lemmas.Bool.{and_from}
use Rattle.std.proofs.lemmas.Int.Digits.{digits_value_more}
use Rattle.std.proofs.lemmas.List.Folds.{list_all_more}
use Rattle.std.proofs.lemmas.Str.{digit_value_digit}
use Rattle.quota_units.proofs.DigitLemmas.{digit_range, cut_step}

pub digit_step : (bs : List ℕ) (i : ℕ) → i < length bs → list_all is_ascii_digit (take i bs) ≡ true → is_ascii_digit (get_or bs i 0) ≡ true
    → (min (min (digits_value 10 (take i bs)) 1099511627775 * 10 + (get_or bs i 0 - 48)) 1099511627775
    ≡ min (digits_value 10 (take (i + 1) bs)) 1099511627775)
    × (list_all is_ascii_digit (take (i + 1) bs) ≡ true) × (48 ≤ get_or bs i 0) × (get_or bs i 0 ≤ 57)
digit_step bs i lt all digit =
    let r = digit_range (get_or bs i 0) digit in
    let v = digit_value_digit (get_or bs i 0) r in
    let value : digit_value (get_or bs i 0) ≡ get_or bs i 0 - 48 = omega arith in
    let more = digits_value_more 10 bs i lt ∙ ap (λ n. digits_value 10 (take i bs) * 10 + n) value in
    let small : get_or bs i 0 - 48 ≤ 9 = omega arith in (
      cut_step (digits_value 10 (take i bs)) (get_or bs i 0 - 48) 1099511627775 small
          ∙ ap (λ n. min n 1099511627775) (sym more),
      list_all_more is_ascii_digit bs i 0 lt ∙ and_from (list_all is_ascii_digit (take i bs)) (is_ascii_digit (get_or bs i 0)) all digit,
      r.0,
      r.1,
    )
