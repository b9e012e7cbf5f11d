use Rattle.std.proofs.Common.{◌≡◌, Some, pos, neg_ℤ, ◌-ℤ◌, to_z, of_z, w64, ap, ◌∙◌, arith}
use Rattle.std.proofs.lemmas.Int.{ints}
use Rattle.maildirsize.proofs.SumLineLemmas.{minus_none, minus_some}
use Rattle.maildirsize.proofs.sum_line.leading_integer.Goals as goal

pub returns-in_err-number-in-Some-clause-integer : goal.returns-in_err-number-in-Some-clause-integer
returns-in_err-number-in-Some-clause-integer c =
    rw c.from_residual.ensures (minus_none c.args.bytes.now c.in-Some.digits.now c.in-Some.ensures c.in_err-number-in-Some.ensures.number)

pub returns-in_ok-number-in-Some-clause-integer : goal.returns-in_ok-number-in-Some-clause-integer
returns-in_ok-number-in-Some-clause-integer c =
    let number = c.in_ok-number-in-Some.number in
    let small = c.in_ok-number-in-Some.ensures.small in
    let negated : neg_ℤ (pos number) ≡ to_z w64 (of_z w64 (pos 0 -ℤ to_z w64 number)) = omega (arith, ints, small) in
    let read = minus_some c.args.bytes.now c.in-Some.digits.now number c.in-Some.ensures c.in_ok-number-in-Some.ensures.number.0 in
    (read.0 ∙ ap Some negated, c.in_ok-number-in-Some.ensures.number.1 ∙ read.1)
