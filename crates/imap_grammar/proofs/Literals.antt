-- Literals and names: what is read is spelled so, and each spelling is read.
use Rattle.std.proofs.Common.{◌≡◌, ℕ, ◌-◌, ◌<◌, ◌≤◌, true, false, ltb, List, [], ◌∷◌, ◌++◌, length, take, drop, replicate, refl, sym, ap, ◌∙◌, subst, inl, inr, arith, append_assoc, length-append, eqb}
use Rattle.std.proofs.lemmas.Bool.{and_parts, cond-false}
use Rattle.std.proofs.lemmas.Bool.Decides.{nat_tests}
use Rattle.std.proofs.lemmas.List.{take_at, drop_at, take-append-drop, length-take-le, length-replicate}
use Rattle.std.specs.List.{list_all, flat_map}
use Rattle.imap_grammar.specs.Printing.{escaped}
use Rattle.imap_grammar.specs.Bytes.{is_astring_byte}
use Rattle.imap_grammar.specs.Grammar.{IsNumberWithin, IsLineEnd, IsLiteral, IsAstring}
use Rattle.imap_grammar.specs.Reading.{got, short, and_then, ◌>>=◌, gives, byte, line_end}
use Rattle.imap_grammar.specs.Numbers.{count}
use Rattle.imap_grammar.specs.Literals.{marker, octets, literal}
use Rattle.imap_grammar.specs.Astrings.{plain, inside, unquoted, astring}
use Rattle.imap_grammar.proofs.ReaderLaws.{Agrees, HasByte, Reads, IsReader, reads_then}
use Rattle.imap_grammar.proofs.Steps.{reads_if, reads_weaker, reads_same, reads_byte_then, reads_ended, choice, reads_choice}
use Rattle.imap_grammar.proofs.Spelled.{end_spelled}
use Rattle.imap_grammar.proofs.Numbers.{reads_number, number_spelled}
use Rattle.imap_grammar.proofs.Astrings.{Plain, reads_plain, Closed, reads_closed, plain_spelled, inside_spelled}

-- the marker of a literal, after its opening brace
abbrev pub MarkerRest : List ℕ → ℕ → Type 0
MarkerRest bytes n = (ds end : List ℕ) × IsNumberWithin 10 9999999999 ds n × IsLineEnd end × (bytes ≡ ds ++ 125 ∷ end)

pub reads_marker : IsReader MarkerRest marker
reads_marker = reads_then (IsNumberWithin 10 9999999999) MarkerRest count (λ n. byte 125 >>= (λ u. line_end >>= (λ e. gives n)))
    (reads_number 10 9999999999 (omega arith))
    (λ ds n is. reads_byte_then (λ b. MarkerRest (ds ++ b)) 125 (line_end >>= (λ e. gives n))
    (reads_ended (λ b. MarkerRest (ds ++ 125 ∷ b)) n (λ end is_end. (ds, end, is, is_end, refl))))

-- so many octets
abbrev Octets : ℕ → List ℕ → List ℕ → Type 0
Octets n bytes v = (v ≡ bytes) × (length bytes ≡ n)

pub octets_spelled : (own next : List ℕ) (b : ℕ) (l : List ℕ) → own ++ next ≡ b ∷ l → octets (length own) (own ++ next) ≡ got own next
octets_spelled own next b l e =
    let size = length-append own next in
    let sized : length (own ++ next) ≡ length (b ∷ l) = ap length e in
    ap (octets (length own)) e
    ∙ cond-false (ltb (length (b ∷ l)) (length own)) short (got (take (length own) (b ∷ l)) (drop (length own) (b ∷ l)))
    (not_less (length (b ∷ l)) (length own) (omega (arith, size, sized)))
    ∙ ap (λ t. got (take (length own) t) (drop (length own) t)) (sym e)
    ∙ ap (λ t. got t (drop (length own) (own ++ next))) (take_at own next (length own) refl) ∙ ap (got own) (drop_at own next (length own) refl)
  where
    not_less : (m n : ℕ) → n ≤ m → ltb m n ≡ false
    not_less m n le = grind (arith, nat_tests)

reads_octets : (n : ℕ) → IsReader (Octets n) (octets n)
reads_octets n = record { some = (replicate n 0, replicate n 0, (refl, length-replicate {A = ℕ} n 0)); each = each }
  where
    next_byte : (bytes text next : List ℕ) → bytes ++ drop n text ≡ text → HasByte text → length bytes ≡ n → Agrees (drop n text) next
        → (b : ℕ) × (l : List ℕ) × (bytes ++ next ≡ b ∷ l)
    next_byte [] [] next e has size agree = absurd has
    next_byte [] (b ∷ bs) next e has size agree = let own = subst (λ r. Agrees r next) e agree in (b, own.0, own.1)
    next_byte (c ∷ cs) text next e has size agree = (c, cs ++ next, refl)

    all_read : (text : List ℕ) → HasByte text → ltb (length text) n ≡ false → Reads (Octets n) (octets n) text (got (take n text) (drop n text))
    all_read text has e =
        let le : n ≤ length text = grind (arith, nat_tests) in
        let size : length (take n text) ≡ n = length-take-le n text le in (
          take n text,
          sym (take-append-drop n text),
          (refl, size),
          λ next agree. let first = next_byte (take n text) text next (take-append-drop n text) has size agree in
              ap (λ m. octets m (take n text ++ next)) (sym size) ∙ octets_spelled (take n text) next first.0 first.1 first.2,
        )

    each : (text : List ℕ) → Reads (Octets n) (octets n) text (octets n text)
    each [] = (replicate n 0, replicate n 0, (refl, length-replicate {A = ℕ} n 0))
    each (b ∷ bs) = reads_if (Octets n) (octets n) (ltb (length (b ∷ bs)) n) (b ∷ bs) short (got (take n (b ∷ bs)) (drop n (b ∷ bs)))
        (λ e. let lt : length (b ∷ bs) < n = grind (arith, nat_tests) in let pad = replicate (n - length (b ∷ bs)) 0 in
        let size = length-append (b ∷ bs) pad in let padded : length pad ≡ n - length (b ∷ bs) = length-replicate {A = ℕ} (n - length (b ∷ bs)) 0 in
        (pad, (b ∷ bs) ++ pad, (refl, omega (arith, lt, size, padded))))
        (λ e. all_read (b ∷ bs) tt e)

-- a literal, after its opening brace
abbrev LiteralRest : List ℕ → List ℕ → Type 0
LiteralRest bytes value = (mark : List ℕ) × MarkerRest mark (length value) × (bytes ≡ mark ++ value)

reads_literal : IsReader LiteralRest literal
reads_literal = reads_then MarkerRest LiteralRest marker octets reads_marker
    (λ mark n is. reads_weaker (Octets n) (λ b. LiteralRest (mark ++ b)) (octets n)
    (λ b v own. (mark, subst (MarkerRest mark) (sym (ap length own.0 ∙ own.1)) is, ap (λ l. mark ++ l) (sym own.0))) (reads_octets n))

-- a name
pub reads_astring : IsReader IsAstring astring
reads_astring = reads_same IsAstring (choice 34 (inside false) (choice 123 literal plain)) astring same
    (reads_choice IsAstring 34 (inside false) (choice 123 literal plain)
    (reads_weaker Closed (λ b. IsAstring (34 ∷ b)) (inside false)
    (λ b v own. inr (inl (record { each = own.0; spelled = ap (λ l. 34 ∷ l) own.1 }))) reads_closed)
    (reads_choice IsAstring 123 literal plain
    (reads_weaker LiteralRest (λ b. IsAstring (123 ∷ b)) literal braced reads_literal)
    (reads_weaker Plain IsAstring plain (λ b v own. inl (own.1, own.0)) reads_plain)))
  where
    braced : (b v : List ℕ) → LiteralRest b v → IsAstring (123 ∷ b) v
    braced b v (mark, (ds, end, is, is_end, e), i) = inr (inr (123 ∷ mark, (ds, end, is, is_end, ap (λ l. 123 ∷ l) e), ap (λ l. 123 ∷ l) i))

    same : (text : List ℕ) → choice 34 (inside false) (choice 123 literal plain) text ≡ astring text
    same [] = refl
    same (b ∷ bs) = refl

-- each spelling is read
pub marker_spelled : (ds end next : List ℕ) (n : ℕ) → IsNumberWithin 10 9999999999 ds n → IsLineEnd end → marker ((ds ++ 125 ∷ end) ++ next) ≡ got n next
marker_spelled ds end next n is is_end =
    ap marker (append_assoc ds (125 ∷ end) next)
    ∙ ap (λ r. and_then r (λ m text. and_then (byte 125 text) (λ u text2. and_then (line_end text2) (λ u2. gives m))))
    (number_spelled 10 9999999999 ds n 125 (end ++ next) is refl)
    ∙ end_spelled n end next is_end

literal_spelled : (bytes value : List ℕ) (b : ℕ) (rest : List ℕ) → IsLiteral bytes value → astring (bytes ++ b ∷ rest) ≡ got value (b ∷ rest)
literal_spelled bytes value b rest (mark, (ds, end, is, is_end, e), i) =
    let text : bytes ++ b ∷ rest ≡ 123 ∷ ((ds ++ 125 ∷ end) ++ (value ++ b ∷ rest)) = ap (λ l. l ++ b ∷ rest) (i ∙ ap (λ l. l ++ value) e)
    ∙ append_assoc (123 ∷ (ds ++ 125 ∷ end)) value (b ∷ rest) in
    ap astring text ∙ ap (λ r. and_then r octets) (marker_spelled ds end (value ++ b ∷ rest) (length value) is is_end) ∙ filled value
  where
    filled : (v : List ℕ) → octets (length v) (v ++ b ∷ rest) ≡ got v (b ∷ rest)
    filled [] = octets_spelled [] (b ∷ rest) b rest refl
    filled (x ∷ v) = octets_spelled (x ∷ v) (b ∷ rest) x (v ++ b ∷ rest) refl

no_quote : (x : ℕ) → is_astring_byte x ≡ true → (eqb x 34 ≡ false) × (eqb x 123 ≡ false)
no_quote x e = grind (arith, nat_tests)

pub astring_spelled : (bytes value : List ℕ) (b : ℕ) (rest : List ℕ) → IsAstring bytes value → is_astring_byte b ≡ false
    → astring (bytes ++ b ∷ rest) ≡ got value (b ∷ rest)
astring_spelled [] value b rest (inl (is, same)) stops = let lt = is.some in absurd (omega (arith, lt))
astring_spelled (x ∷ bytes) value b rest (inl (is, same)) stops =
    let parts = and_parts (is_astring_byte x) (list_all is_astring_byte bytes) is.each in
    let apart = no_quote x parts.0 in
    cond-false (eqb x 34) (inside false (bytes ++ b ∷ rest)) (unquoted (x ∷ (bytes ++ b ∷ rest))) apart.0
    ∙ cond-false (eqb x 123) (literal (bytes ++ b ∷ rest)) (plain (x ∷ (bytes ++ b ∷ rest))) apart.1
    ∙ plain_spelled (x ∷ bytes) b rest is stops ∙ ap (λ l. got l (b ∷ rest)) (sym same)
astring_spelled bytes value b rest (inr (inl is)) stops =
    ap (λ l. astring (l ++ b ∷ rest)) is.spelled ∙ ap (inside false) (append_assoc (flat_map escaped value) (34 ∷ []) (b ∷ rest))
    ∙ inside_spelled value (b ∷ rest) is.each
astring_spelled bytes value b rest (inr (inr is)) stops = literal_spelled bytes value b rest is
