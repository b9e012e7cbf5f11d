use Rattle.std.proofs.Common.{◌≡◌, ◌<◌, length, Some, ap, ◌∙◌, sym, arith}
use Rattle.std.specs.List.{take_while}
use Rattle.std.specs.Char.{is_ascii_digit}
use Rattle.std.specs.Str.Parse.{digits_value}
use Rattle.std.proofs.lemmas.List.{nil_from_length}
use Rattle.maildirsize.specs.Definition.{limit_of}
use Rattle.maildirsize.proofs.WordLemmas.{length-take_while}
use Rattle.maildirsize.proofs.MemberLemmas.{no_letter, no_digits, wrong_letter, more_letters, member_read, member_behind, limit_cut, member_with}
use Rattle.maildirsize.proofs.definition.leading_member.Goals as goal
use Rattle.maildirsize.proofs.definition.leading_member.Goals.{then-rest-bytes-via-then-rest-bytes, then-rest-bytes-via-else-rest-bytes+then-not-is_ascii_alphabetic, then-rest-bytes-via-else-rest-bytes+else-not-is_ascii_alphabetic+then-is_within_member}

pub returns-in_err-letter-clause-member : goal.returns-in_err-letter-clause-member
returns-in_err-letter-clause-member c =
    rw c.from_residual.ensures (no_letter c.args.bytes.now
    (sym c.leading_digits-number.ensures.rest ∙ nil_from_length c.leading_digits-number.result.1.now c.in_err-letter.ensures.cases))

pub returns-then-rest-bytes-clause-member : goal.returns-then-rest-bytes-clause-member
returns-then-rest-bytes-clause-member c =
    let bytes = c.args.bytes.now in
    let letter = c.in_ok-letter.letter.now in
    let next = c.in_ok-letter.next.now in
    let found = sym c.leading_digits-number.ensures.rest ∙ c.in_ok-letter.ensures.cases.0 in
    elim c.then-rest-bytes.branch [
      | then-rest-bytes-via-then-rest-bytes w ↦
          let lengths = length-take_while is_ascii_digit bytes in
          let rest = ap length c.leading_digits-number.ensures.rest in
          no_digits bytes letter next found (omega (arith, lengths, rest, w.if-rest-bytes.true))
      | then-rest-bytes-via-else-rest-bytes+then-not-is_ascii_alphabetic w ↦
          wrong_letter bytes letter next found (sym w.is_ascii_alphabetic.ensures.value ∙ w.if-not-is_ascii_alphabetic.true)
      | then-rest-bytes-via-else-rest-bytes+else-not-is_ascii_alphabetic+then-is_within_member w ↦
          more_letters bytes letter next found (sym w.is_within_member.ensures ∙ w.if-is_within_member.true)
    ]

pub returns-clause-member : goal.returns-clause-member
returns-clause-member c =
    let bytes = c.args.bytes.now in
    let letter = c.in_ok-letter.letter.now in
    let next = c.in_ok-letter.next.now in
    let found = sym c.leading_digits-number.ensures.rest ∙ c.in_ok-letter.ensures.cases.0 in
    let lengths = length-take_while is_ascii_digit bytes in
    let rest = ap length c.leading_digits-number.ensures.rest in
    let shorter : (length c.leading_digits-number.result.1.now ≡ length bytes → ⊥) = c.if-rest-bytes.false in
    let some : 0 < length (take_while is_ascii_digit bytes) = omega (arith, lengths, rest, shorter) in
    let alphabetic = sym c.is_ascii_alphabetic.ensures.value ∙ c.if-not-is_ascii_alphabetic.false in
    let ends = sym c.is_within_member.ensures ∙ c.if-is_within_member.false in
    let limit = c.limit_of-limit.ensures.value ∙ ap limit_of c.leading_digits-number.ensures.number
    ∙ limit_cut (digits_value 10 (take_while is_ascii_digit bytes)) in (
      member_read bytes letter next found some alphabetic ends
          ∙ ap (λ l. Some (member_with letter l)) (sym limit),
      member_behind bytes letter next found some alphabetic ends,
    )
