-- One more leading digit, in a number that is cut.
use Rattle.std.proofs.Common.{◌≡◌, ℕ, ◌+◌, ◌-◌, ◌*◌, ◌<◌, ◌≤◌, min, List, length, take, drop, get_or, true, arith, ap, ◌∙◌, sym}
use Rattle.std.specs.List.{prefix_len}
use Rattle.std.specs.Char.{is_ascii_digit, digit_value}
use Rattle.std.specs.Str.Parse.{digits_value}
use Rattle.std.proofs.lemmas.Int.Digits.{digits_value_more}
use Rattle.std.proofs.lemmas.List.Sums.{prefix_len-drop_yes}
use Rattle.std.proofs.lemmas.Str.{digit_value_digit}
use Rattle.quota_units.proofs.DigitLemmas.{digit_range, cut_step}

pub digit_step : (bs : List ℕ) (i : ℕ) → i < length bs → is_ascii_digit (get_or bs i 0) ≡ true
    → (min (min (digits_value 10 (take i bs)) 1000000000000000000 * 10 + (get_or bs i 0 - 48)) 1000000000000000000 ≡ min
    (digits_value 10 (take (i + 1) bs)) 1000000000000000000)
    × (prefix_len is_ascii_digit (drop i bs) ≡ 1 + prefix_len is_ascii_digit (drop (i + 1) bs))
    × (48 ≤ get_or bs i 0) × (get_or bs i 0 ≤ 57)
digit_step bs i lt digit =
    let r = digit_range (get_or bs i 0) digit in
    let v = digit_value_digit (get_or bs i 0) r in
    let value : digit_value (get_or bs i 0) ≡ get_or bs i 0 - 48 = omega arith in
    let more = digits_value_more 10 bs i lt ∙ ap (λ n. digits_value 10 (take i bs) * 10 + n) value in
    let small : get_or bs i 0 - 48 ≤ 9 = omega arith in (
      cut_step (digits_value 10 (take i bs)) (get_or bs i 0 - 48) 1000000000000000000 small
          ∙ ap (λ n. min n 1000000000000000000) (sym more),
      prefix_len-drop_yes is_ascii_digit bs i 0 lt digit,
      r.0,
      r.1,
    )
