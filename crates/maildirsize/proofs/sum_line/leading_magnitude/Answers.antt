use Rattle.std.proofs.Common.{length, Some, sym, ap, ◌∙◌, arith}
use Rattle.std.specs.List.{take_while}
use Rattle.std.specs.Char.{is_ascii_digit}
use Rattle.maildirsize.specs.Prefixes.{begins_with}
use Rattle.maildirsize.specs.SumLine.{is_in_word}
use Rattle.maildirsize.proofs.WordLemmas.{magnitude_cut_short, magnitude_refused, magnitude_taken, magnitude_empty, magnitude_long, length-take_while}
use Rattle.maildirsize.proofs.sum_line.leading_magnitude.Goals as goal
use Rattle.maildirsize.proofs.sum_line.leading_magnitude.Goals.{then-length-eq0-via-then-length-eq0, then-length-eq0-via-else-length-eq0+then-length-gt18, then-length-eq0-via-else-length-eq0+else-length-gt18+then-is_within_word}

pub returns-then-length-eq0-clause-number : goal.returns-then-length-eq0-clause-number
returns-then-length-eq0-clause-number c =
    let bytes = c.args.bytes.now in
    let digits = take_while is_ascii_digit bytes in
    let lengths = length-take_while is_ascii_digit bytes in
    let rest = ap length c.leading_digits-number.ensures.rest in
    elim c.then-length-eq0.branch [
      | then-length-eq0-via-then-length-eq0 w ↦ magnitude_refused bytes (magnitude_empty digits (omega arith))
      | then-length-eq0-via-else-length-eq0+then-length-gt18 w ↦ magnitude_refused bytes (magnitude_long digits (omega arith))
      | then-length-eq0-via-else-length-eq0+else-length-gt18+then-is_within_word w ↦
          magnitude_cut_short bytes (ap (begins_with is_in_word) (sym c.leading_digits-number.ensures.rest)
          ∙ sym w.is_within_word.ensures ∙ w.if-is_within_word.true)
    ]

pub returns : goal.returns
returns c =
    let bytes = c.args.bytes.now in
    let digits = take_while is_ascii_digit bytes in
    let lengths = length-take_while is_ascii_digit bytes in
    let rest = ap length c.leading_digits-number.ensures.rest in
    let taken = magnitude_taken bytes (omega arith) (omega arith)
    (ap (begins_with is_in_word) (sym c.leading_digits-number.ensures.rest) ∙ sym c.is_within_word.ensures
    ∙ c.if-is_within_word.false) in
    record {
      number = (
        taken.0 ∙ ap Some (sym c.leading_digits-number.ensures.number),
        c.leading_digits-number.ensures.rest
            ∙ taken.1,
      );
      small = omega (arith, taken.2, c.leading_digits-number.ensures.number);
    }
