-- Printed names are read.
use Rattle.std.proofs.Common.{◌≡◌, ℕ, ◌^◌, ◌<◌, ◌≤◌, Bool, true, false, ◌&&◌, ltb, List, [], ◌∷◌, ◌++◌, length, refl, ap, ◌∙◌, subst, sym, inl, inr, arith, if◌then◌else◌, append_assoc}
use Rattle.std.specs.List.{list_all}
use Rattle.std.specs.Fmt.{decimal}
use Rattle.std.proofs.lemmas.Bool.Decides.{nat_tests}
use Rattle.std.proofs.lemmas.Fmt.{decimal_is_IsNumeral, length-decimal-le}
use Rattle.quota_units.specs.Bytes.{is_printable}
use Rattle.quota_units.proofs.DigitLemmas.{digits_all}
use Rattle.imap_grammar.specs.Bytes.{is_astring_byte, is_quotable}
use Rattle.imap_grammar.specs.Printing.{is_plain, is_printable_text, quoted, literal, printed}
use Rattle.imap_grammar.specs.Grammar.{IsMarker, IsLiteral, IsAstring}
use Rattle.std.proofs.lemmas.Bool.{and_parts}

printable_quotable : (b : ℕ) → is_printable b ≡ true → is_quotable b ≡ true
printable_quotable b e = grind (arith, nat_tests)

all_quotable : (name : List ℕ) → list_all is_printable name ≡ true → list_all is_quotable name ≡ true
all_quotable [] e = refl
all_quotable (b ∷ name) e =
    let parts = and_parts (is_printable b) (list_all is_printable name) e in
    ap (λ c. c && list_all is_quotable name) (printable_quotable b parts.0) ∙ all_quotable name parts.1

marker_spelled : (count : ℕ) → count ≤ 9999999999 → IsMarker (123 ∷ (decimal count ++ 125 ∷ 13 ∷ 10 ∷ [])) count
marker_spelled count le =
    let small : count < 2 ^ 64 = omega (arith, le) in
    let is = decimal_is_IsNumeral count small in (
      decimal count,
      13 ∷ 10 ∷ [],
      record {
        some = is.0.0;
        few = length-decimal-le 10 count (omega arith) (omega (arith, le)) small;
        digits = digits_all (decimal count) is.0.1;
        value = sym is.1;
        bounded = le;
      },
      inr refl,
      refl,
    )

literal_spelled : (name : List ℕ) → length name ≤ 9999999999 → IsLiteral (literal name) name
literal_spelled name le = (
  123 ∷ (decimal (length name) ++ 125 ∷ 13 ∷ 10 ∷ []),
  marker_spelled (length name) le,
  ap (λ l. 123 ∷ l) (sym (append_assoc (decimal (length name)) (125 ∷ 13 ∷ 10 ∷ []) name)),
)

quoted_spelled : (name : List ℕ) → is_printable_text name ≡ true → IsAstring (quoted name) name
quoted_spelled name e = inr (inl (record { each = all_quotable name e; spelled = refl }))

plain_spelled : (name : List ℕ) → is_plain name ≡ true → IsAstring name name
plain_spelled name e =
    let parts = and_parts (ltb 0 (length name)) (list_all is_astring_byte name) e in
    let some : 0 < length name = grind (arith, nat_tests) in
    inl (record { some = some; each = parts.1 }, refl)

-- a name that is not plain is spelled by its quoted form or by its literal
other_spelled : (name : List ℕ) (c : Bool) → (c ≡ true → IsAstring (quoted name) name) → (c ≡ false → IsAstring (literal name) name) → IsAstring (if c then quoted name else literal name) name
other_spelled name true q l = q refl
other_spelled name false q l = l refl

spelled : (name : List ℕ) (c : Bool) → (c ≡ true → IsAstring name name) → IsAstring (if is_printable_text name then quoted name else literal name) name
    → IsAstring (if c then name else if is_printable_text name then quoted name else literal name) name
spelled name true p other = p refl
spelled name false p other = other

pub printed_reads_back : (name : List ℕ) → is_printable_text name ≡ true → IsAstring (printed name) name
printed_reads_back name e =
    spelled name (is_plain name) (plain_spelled name) (subst (λ (c : Bool). IsAstring (if c then quoted name else literal name) name) (sym e) (quoted_spelled name e))

pub any_printed_reads_back : (name : List ℕ) → length name ≤ 9999999999 → IsAstring (printed name) name
any_printed_reads_back name le =
    spelled name (is_plain name) (plain_spelled name) (other_spelled name (is_printable_text name) (quoted_spelled name) (λ e. inr (inr (literal_spelled name le))))
