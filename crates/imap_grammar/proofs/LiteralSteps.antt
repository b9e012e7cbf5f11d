-- Numbers, literals and names, when more bytes come after the text.
use Rattle.std.proofs.Common.{◌≡◌, ℕ, zero, suc, ◌+◌, ◌-◌, ◌*◌, ◌<◌, ◌≤◌, Bool, true, false, eqb, ltb, List, [], ◌∷◌, ◌++◌, length, take, drop, refl, sym, ap, ◌∙◌, subst, arith, length-append, take-append-drop, if◌then◌else◌}
use Rattle.std.proofs.lemmas.Bool.{ltb-true, le-ltb, cond-false}
use Rattle.std.proofs.lemmas.List.{take-append-le, drop-append-le, drop_all}
use Rattle.std.proofs.lemmas.Bool.Decides.{nat_tests}
use Rattle.std.proofs.Math.Seq.{drop-append-add}
use Rattle.imap_grammar.specs.Bytes.{is_astring_byte, is_escaped, is_quotable}
use Rattle.imap_grammar.specs.Reading.{Reading, Reader, got, wrong, short, marked, and_then, ◌>>=◌, gives, byte, with_first, many, line_end}
use Rattle.imap_grammar.specs.Numbers.{takes_digit, number_ends, digits, number_within, number, max_number, max_count}
use Rattle.imap_grammar.specs.Literals.{marker, octets, literal}
use Rattle.imap_grammar.specs.Astrings.{plain, inside, unquoted, astring}
use Rattle.imap_grammar.proofs.Growing.{Within, Pending, GoesOn, Steady, got_on, wrong_on, short_on, if_on, after, within_if, within_first, within_steady, within_after, within_then, within_many, first_on, many_on, steady_byte}
use Rattle.imap_grammar.proofs.Lined.{IsLined, Lined, lined_then, lined_gives, lined_end}

-- numbers
within_number : (come value : ℕ) (text : List ℕ) → Within text (number_ends come value text)
within_number zero value text = ([], refl)
within_number (suc come) value text = ([], refl)

number_on : (come value : ℕ) (text more : List ℕ) → GoesOn text more (number_ends come value text) (number_ends come value (text ++ more))
number_on zero value text more = wrong_on text more [] text refl
number_on (suc come) value text more = got_on text more [] text value refl

module _ (most largest : ℕ) where
  within_digits : (come value : ℕ) (text : List ℕ) → Within text (digits most largest come value text)
  within_digits come value [] = tt
  within_digits come value (b ∷ bs) =
      within_if (b ∷ bs) (takes_digit most largest come value b) (digits most largest (come + 1) (value * 10 + (b - 48)) bs) (number_ends come value (b ∷ bs))
      (within_after (b ∷ []) bs (digits most largest (come + 1) (value * 10 + (b - 48)) bs) (within_digits (come + 1) (value * 10 + (b - 48)) bs)) (within_number come value (b ∷ bs))

  digits_on : (come value : ℕ) (text more : List ℕ) → GoesOn text more (digits most largest come value text) (digits most largest come value (text ++ more))
  digits_on come value [] more = short_on [] more (digits most largest come value more) (within_digits come value more)
  digits_on come value (b ∷ bs) more =
      if_on (b ∷ bs) more (takes_digit most largest come value b) (digits most largest (come + 1) (value * 10 + (b - 48)) bs) (number_ends come value (b ∷ bs))
      (digits most largest (come + 1) (value * 10 + (b - 48)) (bs ++ more)) (number_ends come value (b ∷ (bs ++ more)))
      (λ e. after (b ∷ []) bs more (digits most largest (come + 1) (value * 10 + (b - 48)) bs) (digits most largest (come + 1) (value * 10 + (b - 48)) (bs ++ more))
      (digits_on (come + 1) (value * 10 + (b - 48)) bs more))
      (λ e. number_on come value (b ∷ bs) more)

  pub steady_digits : Steady (number_within most largest)
  steady_digits = record { idle = tt; goes_on = digits_on 0 0 }

-- readers without a literal end with no marker
abbrev pub IsUnmarked : {A : Type 0} → Reading A → Type 0
IsUnmarked (got value rest) = Unit {0}
IsUnmarked (wrong rest) = Unit {0}
IsUnmarked short = Unit {0}
IsUnmarked (marked count) = ⊥

unmarked_if : {A : Type 0} (c : Bool) (x y : Reading A) → IsUnmarked x → IsUnmarked y → IsUnmarked (if c then x else y)
unmarked_if true x y one other = one
unmarked_if false x y one other = other

unmarked_then : {A B : Type 0} (now : Reading A) (next : A → Reader B) → IsUnmarked now → ((v : A) (rest : List ℕ) → IsUnmarked (next v rest)) → IsUnmarked (and_then now next)
unmarked_then (got v rest) next u others = others v rest
unmarked_then (wrong rest) next u others = tt
unmarked_then short next u others = tt
unmarked_then (marked count) next u others = u

unmarked_byte : (wanted : ℕ) (text : List ℕ) → IsUnmarked (byte wanted text)
unmarked_byte wanted [] = tt
unmarked_byte wanted (b ∷ bs) = unmarked_if (eqb b wanted) (got tt bs) (wrong (b ∷ bs)) tt tt

pub unmarked_end : (text : List ℕ) → IsUnmarked (line_end text)
unmarked_end [] = tt
unmarked_end (b ∷ bs) =
    unmarked_if (eqb b 10) (got tt bs) (if eqb b 13 then byte 10 bs else wrong (b ∷ bs)) tt (unmarked_if (eqb b 13) (byte 10 bs) (wrong (b ∷ bs)) (unmarked_byte 10 bs) tt)

unmarked_number : (come value : ℕ) (text : List ℕ) → IsUnmarked (number_ends come value text)
unmarked_number zero value text = tt
unmarked_number (suc come) value text = tt

unmarked_digits : (most largest come value : ℕ) (text : List ℕ) → IsUnmarked (digits most largest come value text)
unmarked_digits most largest come value [] = tt
unmarked_digits most largest come value (b ∷ bs) =
    unmarked_if (takes_digit most largest come value b) (digits most largest (come + 1) (value * 10 + (b - 48)) bs) (number_ends come value (b ∷ bs))
    (unmarked_digits most largest (come + 1) (value * 10 + (b - 48)) bs) (unmarked_number come value (b ∷ bs))

-- markers
pub lined_marker : Lined marker
lined_marker =
    lined_then (number_within 10 max_count) (λ octets. byte 125 >>= (λ closing. line_end >>= (λ end. gives octets))) (steady_digits 10 max_count)
    (λ octets. lined_then (byte 125) (λ closing. line_end >>= (λ end. gives octets)) (steady_byte 125) (λ closing. lined_gives line_end (λ end. octets) lined_end))

unmarked_marker : (text : List ℕ) → IsUnmarked (marker text)
unmarked_marker text =
    unmarked_then (number_within 10 max_count text) (λ octets. byte 125 >>= (λ closing. line_end >>= (λ end. gives octets))) (unmarked_digits 10 max_count 0 0 text)
    (λ octets rest. unmarked_then (byte 125 rest) (λ closing. line_end >>= (λ end. gives octets)) (unmarked_byte 125 rest)
    (λ closing more. unmarked_then (line_end more) (λ end. gives octets) (unmarked_end more) (λ end last. tt)))

-- octets
within_octets : (count : ℕ) (text : List ℕ) → Within text (octets count text)
within_octets count [] = tt
within_octets count (b ∷ bs) =
    within_if (b ∷ bs) (ltb (length (b ∷ bs)) count) short (got (take count (b ∷ bs)) (drop count (b ∷ bs))) tt (take count (b ∷ bs), sym (take-append-drop count (b ∷ bs)))

pending_octets : (count : ℕ) (text : List ℕ) → 0 < length text → length text ≤ count → Pending (octets count text)
pending_octets count [] lt le = absurd (omega (arith, lt))
pending_octets count (b ∷ bs) lt le = go (ltb (length (b ∷ bs)) count)
  where
    go : (c : Bool) → Pending (if c then short else got (take count (b ∷ bs)) (drop count (b ∷ bs)))
    go true = tt
    go false = drop_all count (b ∷ bs) le

-- the octets that are left after the first ones
drop_past : (count : ℕ) (text more : List ℕ) → length text ≤ count → drop count (text ++ more) ≡ drop (count - length text) more
drop_past count text more le =
    let is : count ≡ length text + (count - length text) = omega (arith, le) in
    ap (λ n. drop n (text ++ more)) is ∙ drop-append-add text more (count - length text)

octets_on : (count b : ℕ) (bs more : List ℕ) → GoesOn (b ∷ bs) more (octets count (b ∷ bs)) (octets count (b ∷ (bs ++ more)))
octets_on count b bs more = go (ltb (length (b ∷ bs)) count) refl
  where
    sized : length (b ∷ (bs ++ more)) ≡ length (b ∷ bs) + length more
    sized = length-append (b ∷ bs) more

    later : (c : Bool) → length (b ∷ bs) ≤ count → Within more (if c then short else got (take count (b ∷ (bs ++ more))) (drop count (b ∷ (bs ++ more))))
    later true le = tt
    later false le = (
      take (count - length (b ∷ bs)) more,
      sym (take-append-drop (count - length (b ∷ bs)) more) ∙ ap (λ l. take (count - length (b ∷ bs)) more ++ l) (sym (drop_past count (b ∷ bs) more le)),
    )

    go : (c : Bool) → ltb (length (b ∷ bs)) count ≡ c
        → GoesOn (b ∷ bs) more (if c then short else got (take count (b ∷ bs)) (drop count (b ∷ bs))) (octets count (b ∷ (bs ++ more)))
    go true e = short_on (b ∷ bs) more (octets count (b ∷ (bs ++ more))) (later (ltb (length (b ∷ (bs ++ more))) count) (omega (arith, ltb-true _ _ e)))
    go false e =
        let le : count ≤ length (b ∷ bs) = grind (arith, nat_tests) in
        let enough : ltb (length (b ∷ (bs ++ more))) count ≡ false = le-ltb _ _ (omega (arith, le, sized)) in
        let now : octets count (b ∷ (bs ++ more)) ≡ got (take count (b ∷ bs)) (drop count (b ∷ bs) ++ more) =
        cond-false (ltb (length (b ∷ (bs ++ more))) count) short (got (take count (b ∷ (bs ++ more))) (drop count (b ∷ (bs ++ more)))) enough
        ∙ ap (λ l. got l (drop count (b ∷ (bs ++ more)))) (take-append-le count (b ∷ bs) more le) ∙ ap (got (take count (b ∷ bs))) (drop-append-le count (b ∷ bs) more le) in
        subst (λ r. GoesOn (b ∷ bs) more (got (take count (b ∷ bs)) (drop count (b ∷ bs))) r) (sym now)
        (got_on (b ∷ bs) more (take count (b ∷ bs)) (drop count (b ∷ bs)) (take count (b ∷ bs)) (sym (take-append-drop count (b ∷ bs))))

-- literals
module _ (text more : List ℕ) where
  after_marker : (count : ℕ) (rest : List ℕ) → (used : List ℕ) × (text ≡ used ++ rest) → (body : List ℕ) × (text ≡ body ++ 10 ∷ rest)
      → GoesOn text more (octets count rest) (octets count (rest ++ more))
  after_marker count [] w l = record {
    within = tt;
    grows = within_octets count more;
    marks = l;
    inside = λ lt le. pending_octets count more lt le;
  }
  after_marker count (b ∷ bs) w l =
      subst (λ t. GoesOn t more (octets count (b ∷ bs)) (octets count (b ∷ (bs ++ more)))) (sym w.1)
      (after w.0 (b ∷ bs) more (octets count (b ∷ bs)) (octets count (b ∷ (bs ++ more))) (octets_on count b bs more))

  literal_on : (now later : Reading ℕ) → IsUnmarked now → IsLined text now → GoesOn text more now later → GoesOn text more (and_then now octets) (and_then later octets)
  literal_on (got count rest) later u l g = subst (λ r. GoesOn text more (octets count rest) (and_then r octets)) (sym g.grows) (after_marker count rest g.within l)
  literal_on (wrong rest) later u l g = subst (λ r. GoesOn text more (wrong rest) (and_then r octets)) (sym g.grows) (wrong_on text more g.within.0 rest g.within.1)
  literal_on short later u l g = short_on text more (and_then later octets) (within_then more later octets g.grows within_octets)
  literal_on (marked count) later u l g = absurd u

pub steady_literal : Steady literal
steady_literal = record {
  idle = tt;
  goes_on = λ text more. literal_on text more (marker text) (marker (text ++ more)) (unmarked_marker text) (lined_marker.ends_on text []).lined (lined_marker.steady.goes_on text more);
}

-- names
within_plain : (text : List ℕ) → Within text (plain text)
within_plain [] = tt
within_plain (b ∷ bs) = within_if (b ∷ bs) (is_astring_byte b) (many is_astring_byte (b ∷ bs)) (wrong (b ∷ bs)) (within_many is_astring_byte (b ∷ bs)) ([], refl)

plain_on : (text more : List ℕ) → GoesOn text more (plain text) (plain (text ++ more))
plain_on [] more = short_on [] more (plain more) (within_plain more)
plain_on (b ∷ bs) more =
    if_on (b ∷ bs) more (is_astring_byte b) (many is_astring_byte (b ∷ bs)) (wrong (b ∷ bs)) (many is_astring_byte (b ∷ (bs ++ more))) (wrong (b ∷ (bs ++ more)))
    (λ e. many_on is_astring_byte (b ∷ bs) more) (λ e. wrong_on (b ∷ bs) more [] (b ∷ bs) refl)

pub steady_plain : Steady plain
steady_plain = record { idle = tt; goes_on = plain_on }

within_inside : (after_backslash : Bool) (text : List ℕ) → Within text (inside after_backslash text)
within_inside true [] = tt
within_inside false [] = tt
within_inside true (b ∷ bs) = within_if (b ∷ bs) (is_escaped b) (with_first b (inside false bs)) (wrong (b ∷ bs)) (within_first b bs (inside false bs) (within_inside false bs)) ([], refl)
within_inside false (b ∷ bs) =
    within_if (b ∷ bs) (eqb b 34) (got [] bs) (if eqb b 92 then inside true bs else if is_quotable b then with_first b (inside false bs) else wrong (b ∷ bs)) (b ∷ [], refl)
    (within_if (b ∷ bs) (eqb b 92) (inside true bs) (if is_quotable b then with_first b (inside false bs) else wrong (b ∷ bs)) (within_after (b ∷ []) bs (inside true bs) (within_inside true bs))
    (within_if (b ∷ bs) (is_quotable b) (with_first b (inside false bs)) (wrong (b ∷ bs)) (within_first b bs (inside false bs) (within_inside false bs)) ([], refl)))

inside_on : (after_backslash : Bool) (text more : List ℕ) → GoesOn text more (inside after_backslash text) (inside after_backslash (text ++ more))
inside_on true [] more = short_on [] more (inside true more) (within_inside true more)
inside_on false [] more = short_on [] more (inside false more) (within_inside false more)
inside_on true (b ∷ bs) more =
    if_on (b ∷ bs) more (is_escaped b) (with_first b (inside false bs)) (wrong (b ∷ bs)) (with_first b (inside false (bs ++ more))) (wrong (b ∷ (bs ++ more)))
    (λ e. first_on b bs more (inside false bs) (inside false (bs ++ more)) (inside_on false bs more)) (λ e. wrong_on (b ∷ bs) more [] (b ∷ bs) refl)
inside_on false (b ∷ bs) more =
    if_on (b ∷ bs) more (eqb b 34) (got [] bs) (if eqb b 92 then inside true bs else if is_quotable b then with_first b (inside false bs) else wrong (b ∷ bs))
    (got [] (bs ++ more)) (if eqb b 92 then inside true (bs ++ more) else if is_quotable b then with_first b (inside false (bs ++ more)) else wrong (b ∷ (bs ++ more)))
    (λ e. got_on (b ∷ bs) more (b ∷ []) bs [] refl)
    (λ e. if_on (b ∷ bs) more (eqb b 92) (inside true bs) (if is_quotable b then with_first b (inside false bs) else wrong (b ∷ bs))
    (inside true (bs ++ more)) (if is_quotable b then with_first b (inside false (bs ++ more)) else wrong (b ∷ (bs ++ more)))
    (λ f. after (b ∷ []) bs more (inside true bs) (inside true (bs ++ more)) (inside_on true bs more))
    (λ f. if_on (b ∷ bs) more (is_quotable b) (with_first b (inside false bs)) (wrong (b ∷ bs)) (with_first b (inside false (bs ++ more))) (wrong (b ∷ (bs ++ more)))
    (λ g. first_on b bs more (inside false bs) (inside false (bs ++ more)) (inside_on false bs more)) (λ g. wrong_on (b ∷ bs) more [] (b ∷ bs) refl)))

pub steady_inside : Steady (inside false)
steady_inside = record { idle = tt; goes_on = inside_on false }

within_unquoted : (text : List ℕ) → Within text (unquoted text)
within_unquoted [] = tt
within_unquoted (b ∷ bs) =
    within_if (b ∷ bs) (eqb b 123) (literal bs) (plain (b ∷ bs)) (within_after (b ∷ []) bs (literal bs) (within_steady literal steady_literal bs)) (within_plain (b ∷ bs))

unquoted_on : (text more : List ℕ) → GoesOn text more (unquoted text) (unquoted (text ++ more))
unquoted_on [] more = short_on [] more (unquoted more) (within_unquoted more)
unquoted_on (b ∷ bs) more =
    if_on (b ∷ bs) more (eqb b 123) (literal bs) (plain (b ∷ bs)) (literal (bs ++ more)) (plain (b ∷ (bs ++ more)))
    (λ e. after (b ∷ []) bs more (literal bs) (literal (bs ++ more)) (steady_literal.goes_on bs more)) (λ e. plain_on (b ∷ bs) more)

within_astring : (text : List ℕ) → Within text (astring text)
within_astring [] = tt
within_astring (b ∷ bs) =
    within_if (b ∷ bs) (eqb b 34) (inside false bs) (unquoted (b ∷ bs)) (within_after (b ∷ []) bs (inside false bs) (within_inside false bs)) (within_unquoted (b ∷ bs))

astring_on : (text more : List ℕ) → GoesOn text more (astring text) (astring (text ++ more))
astring_on [] more = short_on [] more (astring more) (within_astring more)
astring_on (b ∷ bs) more =
    if_on (b ∷ bs) more (eqb b 34) (inside false bs) (unquoted (b ∷ bs)) (inside false (bs ++ more)) (unquoted (b ∷ (bs ++ more)))
    (λ e. after (b ∷ []) bs more (inside false bs) (inside false (bs ++ more)) (inside_on false bs more)) (λ e. unquoted_on (b ∷ bs) more)

pub steady_astring : Steady astring
steady_astring = record { idle = tt; goes_on = astring_on }

pub steady_number : Steady number
steady_number = steady_digits 19 max_number
