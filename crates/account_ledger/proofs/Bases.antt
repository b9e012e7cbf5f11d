-- A delivered message's base is a base of a file name.
use Rattle.std.proofs.Common.{◌≡◌, ℕ, ◌<◌, ◌^◌, true, not, ◌&&◌, ◌==◌, List, [], ◌∷◌, ◌++◌, length, codes, refl, sym, ap, ◌∙◌, arith}
use Rattle.std.specs.Fmt.{decimal}
use Rattle.std.specs.List.{list_all}
use Rattle.std.specs.Char.{is_ascii_digit}
use Rattle.std.proofs.lemmas.Fmt.{decimal_nonempty, decimal_is_IsNumeral}
use Rattle.std.proofs.lemmas.Bool.{and_parts}
use Rattle.std.proofs.lemmas.Bool.Decides.{nat_tests}
use Rattle.std.proofs.lemmas.List.Folds.{list_all-append}
use Rattle.quota_units.proofs.DigitLemmas.{digits_all}
use Rattle.message_names.specs.Written.{is_base, is_base_byte}
use Rattle.account_core.specs.Delivering.{delivered_base}
use Rattle.account_core.proofs.DeliveredLemmas.{base_is}

digit_is_base : (c : ℕ) → is_ascii_digit c ≡ true → (is_base_byte c ≡ true) × (not (c == 46) ≡ true)
digit_is_base c h = grind (arith, nat_tests)

all_base : (ds : List ℕ) → list_all is_ascii_digit ds ≡ true → list_all is_base_byte ds ≡ true
all_base [] h = refl
all_base (c ∷ cs) h =
    let p = and_parts (is_ascii_digit c) (list_all is_ascii_digit cs) h in
    ap (λ b. b && list_all is_base_byte cs) (digit_is_base c p.0).0 ∙ all_base cs p.1

digits : (n : ℕ) → n < 2 ^ 64 → list_all is_ascii_digit (decimal n) ≡ true
digits n below = digits_all (decimal n) (decimal_is_IsNumeral n below).0.1

base_from : (ds rest : List ℕ) → 0 < length ds → list_all is_ascii_digit ds ≡ true → list_all is_base_byte rest ≡ true → is_base (ds ++ rest) ≡ true
base_from [] rest some all right = absurd (omega arith)
base_from (c ∷ cs) rest some all right =
    let p = and_parts (is_ascii_digit c) (list_all is_ascii_digit cs) all in
    let d = digit_is_base c p.0 in
    ap (λ b. b && list_all is_base_byte (c ∷ cs ++ rest)) d.1
    ∙ ap (λ b. b && list_all is_base_byte (cs ++ rest)) d.0
    ∙ list_all-append is_base_byte cs rest ∙ ap (λ b. b && list_all is_base_byte rest) (all_base cs p.1) ∙ right

pub delivered_is_base : (epoch number : ℕ) → epoch < 2 ^ 64 → number < 2 ^ 64 → is_base (delivered_base epoch number) ≡ true
delivered_is_base epoch number e n =
    ap is_base (sym (base_is epoch number)) ∙ base_from (decimal epoch) (codes "." ++ (decimal number ++ codes ".quotad")) (decimal_nonempty epoch e) (digits epoch e)
    (list_all-append is_base_byte (decimal number) (codes ".quotad") ∙ ap (λ b. b && list_all is_base_byte (codes ".quotad")) (all_base (decimal number) (digits number n)))
