-- The text of a request as its lines come.
use Rattle.std.proofs.Common.{◌≡◌, ◌≢◌, ℕ, ◌+◌, ◌-◌, ◌<◌, ◌≤◌, Bool, true, false, ◌||◌, eqb, eqb-true, if◌then◌else◌, slice_index, List, [], ◌∷◌, ◌++◌, length, take, drop, Option, refl, ap, sym, subst, ◌∙◌, inl, inr, arith, append_assoc, append-nil, length-append, bytes_eq}
use Rattle.std.proofs.lemmas.Bool.{false_from_ne_true}
use Rattle.std.proofs.lemmas.Slice.Eq.{bytes_eq-Decides}
use Rattle.std.proofs.lemmas.List.{append_cancel_left, length-take-le, take_rest}
use Rattle.std.specs.Str.Lines.{strip_carriage_return}
use Rattle.wire_io.specs.Lines.{HasNoEnd, IsLine}
use Rattle.wire_io.specs.Feeding.{gained}
use Rattle.wire_io.specs.declared.ends.LineEnd.{LineEnd}
use Rattle.wire_io.specs.declared.ends.LineEnd.TheVariants.{Whole, TooLong}
use Rattle.wire_io.proofs.Prefixes.{prefixes, prefix_of_push}
use Rattle.front_core.specs.Taking.{Moves}
use Rattle.policy_front.specs.Attributes.{is_closed}
use Rattle.policy_front.specs.Texts.{max_text}
use Rattle.policy_front.specs.Taking.{is_empty_line, IsNotClosedBefore, IsText, IsEndless, EndsText}
use Rattle.policy_front.proofs.LineLemmas.{lines-first, begun_open, closed_empty, closed_line}

-- whole lines, none of them empty: the text is open, and so is each text that goes on from it until an empty line comes
pub record AwaitsLine (text : List ℕ) : Type 0 where
  pub goes_on : (rest : List ℕ) → is_closed (text ++ rest) ≡ is_closed rest
  pub first : IsNotClosedBefore text
  pub within : length text ≤ max_text

pub nothing_awaits : AwaitsLine []
nothing_awaits = record { goes_on = λ rest. refl; first = λ prefix b more e. absurd (nil_not prefix b more e); within = omega arith }
  where
    nil_not : (prefix : List ℕ) (b : ℕ) (more : List ℕ) → [] ≡ prefix ++ b ∷ more → ⊥
    nil_not [] b more i = cc
    nil_not (x ∷ prefix) b more i = cc

-- a part of bytes without a line feed has none
no_end_before : (a b : List ℕ) → HasNoEnd (a ++ b) → HasNoEnd a
no_end_before [] b none = tt
no_end_before (x ∷ a) b none = (none.0, no_end_before a b none.1)

module _ (text : List ℕ) (awaits : AwaitsLine text) where
  pub still_open : is_closed text ≡ false
  still_open = ap is_closed (sym (append-nil text)) ∙ awaits.goes_on []

  -- bytes without a line feed came
  pub begun_is_open : (piece : List ℕ) → HasNoEnd piece → is_closed (text ++ piece) ≡ false
  begun_is_open piece none = awaits.goes_on piece ∙ begun_open piece none

  pub not_closed_before : (piece : List ℕ) → HasNoEnd piece → IsNotClosedBefore (text ++ piece)
  not_closed_before piece none prefix b more e = elim (prefixes text prefix piece (b ∷ more) e) [
    | inl h ↦ ap is_closed h.1 ∙ begun_is_open h.0 (no_end_before h.0 (b ∷ more)
        (subst HasNoEnd (append_cancel_left text piece (h.0 ++ b ∷ more) (e ∙ ap (λ l. l ++ b ∷ more) h.1 ∙ append_assoc text h.0 (b ∷ more))) none))
    | inr h ↦ awaits.first prefix h.0 h.1 h.2
  ]

  -- a line came, with its end
  module _ (body : List ℕ) (none : HasNoEnd body) where
    pub not_closed_before_end : IsNotClosedBefore (text ++ (body ++ 10 ∷ []))
    not_closed_before_end prefix b more e =
        elim (prefix_of_push (text ++ body) 10 prefix b more (append_assoc text body (10 ∷ []) ∙ e)) [
          | inl same ↦ ap is_closed (sym same) ∙ begun_is_open body none
          | inr h ↦ not_closed_before body none prefix h.0 h.1 h.2
        ]

    pub empty_line_closes : eqb (length (strip_carriage_return body)) 0 ≡ true → is_closed (text ++ (body ++ 10 ∷ [])) ≡ true
    empty_line_closes empty =
        awaits.goes_on (body ++ 10 ∷ []) ∙ closed_empty (body ++ 10 ∷ []) [] (strip_carriage_return body) (lines-first body [] none) empty

    pub line_awaits : eqb (length (strip_carriage_return body)) 0 ≡ false → length (text ++ (body ++ 10 ∷ [])) ≤ max_text → AwaitsLine (text ++ (body ++ 10 ∷ []))
    line_awaits filled within = record {
      goes_on = λ rest. ap is_closed (append_assoc text (body ++ 10 ∷ []) rest) ∙ awaits.goes_on ((body ++ 10 ∷ []) ++ rest)
          ∙ ap is_closed (append_assoc body (10 ∷ []) rest)
          ∙ closed_line (body ++ 10 ∷ rest) rest (strip_carriage_return body) (lines-first body rest none) filled;
      first = not_closed_before_end;
      within = within;
    }

-- no list of another length
other_bytes : (a b : List ℕ) → length a ≢ length b → bytes_eq a b ≡ false
other_bytes a b ne = false_from_ne_true (bytes_eq a b) (λ same. ne (ap length ((bytes_eq-Decides a b).0 same)))

-- a line is LF alone or CR LF exactly if there is nothing before its end but one CR
empty_byte : (b : ℕ) (c : Bool) → eqb b 13 ≡ c → eqb (length (if eqb b 13 then [] else b ∷ [])) 0 ≡ is_empty_line (b ∷ 10 ∷ [])
empty_byte b true e = ap (λ c. eqb (length (if c then [] else b ∷ [])) 0) e ∙ ap (λ x. is_empty_line (x ∷ 10 ∷ [])) (sym (eqb-true b 13 e))
empty_byte b false e =
    let alone : bytes_eq (b ∷ 10 ∷ []) (10 ∷ []) ≡ false = other_bytes (b ∷ 10 ∷ []) (10 ∷ []) (omega arith) in
    let other : bytes_eq (b ∷ 10 ∷ []) (13 ∷ 10 ∷ []) ≡ false = false_from_ne_true _ (λ same.
    let is = (bytes_eq-Decides (b ∷ 10 ∷ []) (13 ∷ 10 ∷ [])).0 same in
    let first : b ≡ 13 = cc in
    let t : eqb b 13 ≡ true = ap (λ x. eqb x 13) first in absurd cc) in
    ap (λ c. eqb (length (if c then [] else b ∷ [])) 0) e ∙ sym (ap (λ c. c || bytes_eq (b ∷ 10 ∷ []) (13 ∷ 10 ∷ [])) alone ∙ other)

some_kept : (body : List ℕ) → 1 < length body → (c : Bool) → eqb (length (if c then take (length body - 1) body else body)) 0 ≡ false
some_kept body long true =
    let n : length (take (length body - 1) body) ≡ length body - 1 = length-take-le (length body - 1) body (omega arith) in
    let some : length (take (length body - 1) body) ≢ 0 = omega (arith, n) in
    false_from_ne_true _ (λ e. some (eqb-true _ 0 e))
some_kept body long false =
    let some : length body ≢ 0 = omega arith in
    false_from_ne_true _ (λ e. some (eqb-true _ 0 e))

long_line : (body : List ℕ) → 1 < length body → is_empty_line (body ++ 10 ∷ []) ≡ false
long_line body long =
    let sized : length (body ++ 10 ∷ []) ≡ length body + 1 = length-append body (10 ∷ []) in
    ap (λ d. d || bytes_eq (body ++ 10 ∷ []) (13 ∷ 10 ∷ [])) (other_bytes (body ++ 10 ∷ []) (10 ∷ []) (omega (arith, sized)))
    ∙ other_bytes (body ++ 10 ∷ []) (13 ∷ 10 ∷ []) (omega (arith, sized))

pub empty_line : (body : List ℕ) → eqb (length (strip_carriage_return body)) 0 ≡ is_empty_line (body ++ 10 ∷ [])
empty_line [] = refl
empty_line (b ∷ []) = empty_byte b (eqb b 13) refl
empty_line (b ∷ c ∷ more) =
    some_kept (b ∷ c ∷ more) (omega arith) (eqb (slice_index (b ∷ c ∷ more) (length (b ∷ c ∷ more) - 1)) 13) ∙ sym (long_line (b ∷ c ∷ more) (omega arith))

-- the last line of a text, as the code looks at it
pub last_line : (now seen text : List ℕ) (begin : ℕ) → seen ≡ now → begin ≡ length text → take (length seen - begin) (drop begin seen) ≡ gained text now
last_line now seen text begin same begins = take_rest seen begin ∙ ap (λ n. drop n seen) begins ∙ ap (drop (length text)) same

-- `piece` came after the text, which is `now` since
module _ (text piece now : List ℕ) (room : ℕ) (awaits : AwaitsLine text) (grows : now ≡ text ++ piece) (fits : length text + room ≡ max_text) where
  joined : length (text ++ piece) ≡ length text + length piece
  joined = length-append text piece

  pub sized : length now ≡ length text + length piece
  sized = ap length grows ∙ joined

  pub part_first : HasNoEnd piece → IsNotClosedBefore now
  part_first none = subst IsNotClosedBefore (sym grows) (not_closed_before text awaits piece none)

  pub part_open : HasNoEnd piece → is_closed now ≡ false
  part_open none = ap is_closed grows ∙ begun_is_open text awaits piece none

  pub part_long : HasNoEnd piece → length piece ≡ room → IsEndless now
  part_long none full = record { unclosed = part_open none; first = part_first none; full = omega (arith, sized, full, fits) }

  module _ (line : IsLine piece) (le : length piece ≤ room) where
    short : length now ≤ max_text
    short = omega (arith, sized, le, fits)

    abbrev all : List ℕ
    all = text ++ (line.0 ++ 10 ∷ [])

    is_all : now ≡ all
    is_all = grows ∙ ap (λ l. text ++ l) line.2

    pub line_ends : is_empty_line piece ≡ true → IsText now
    line_ends empty = subst IsText (sym is_all) (record {
      closed = empty_line_closes text awaits line.0 line.1 (empty_line line.0 ∙ ap is_empty_line (sym line.2) ∙ empty);
      first = not_closed_before_end text awaits line.0 line.1;
      within = subst (λ l. length l ≤ max_text) is_all short;
    })

    pub line_goes_on : is_empty_line piece ≡ false → AwaitsLine now
    line_goes_on more = subst AwaitsLine (sym is_all) (line_awaits text awaits line.0 line.1
        (empty_line line.0 ∙ ap is_empty_line (sym line.2) ∙ more) (subst (λ l. length l ≤ max_text) is_all short))

    -- the text has less room for the next line
    pub grown : length text < length now
    grown = let byte : length piece ≡ length line.0 + 1 = ap length line.2 ∙ length-append line.0 (10 ∷ []) in omega (arith, sized, byte)

-- how a text ended
pub ended : (end : LineEnd) (text : List ℕ) → end ≡ Whole → EndsText end text → IsText text
ended end text is e = subst (λ x. EndsText x text) is e

pub too_long : (end : LineEnd) (text : List ℕ) → end ≡ TooLong → EndsText end text → IsEndless text
too_long end text is e = subst (λ x. EndsText x text) is e

-- the bytes that came, as the code looks at them
pub moves_seen : {left left' written written' : Option (List ℕ)} {waiting waiting' : List ℕ} {taken taken' first at' : ℕ} {text seen said : List ℕ} → seen ≡ text
    → Moves left left' written written' waiting waiting' taken taken' first at' text said → Moves left left' written written' waiting waiting' taken taken' first at' seen said
moves_seen {left} {left'} {written} {written'} {waiting} {waiting'} {taken} {taken'} {first} {at'} {text} {seen} {said} same m =
    subst (λ t. Moves left left' written written' waiting waiting' taken taken' first at' t said) (sym same) m
