use Rattle.std.proofs.Common.{ap, ◌∙◌, sym, SFits, w64, rules}
use Rattle.std.specs.List.{take_while}
use Rattle.std.proofs.lemmas.Int.{to_z-of_z}
use Rattle.maildirsize.specs.SumLine.{is_in_word, integer_in}
use Rattle.maildirsize.proofs.SumLineLemmas.{no_first, second_none, line_none, line_some}
use Rattle.maildirsize.proofs.sum_line.leading_sum_line.Goals as goal

pub returns-in_err-octets-clause-line : goal.returns-in_err-octets-clause-line
returns-in_err-octets-clause-line c =
    rw c.from_residual.ensures (no_first c.args.bytes.now
    (ap (λ at. integer_in (take_while is_in_word at)) (sym c.after_spaces.ensures) ∙ c.in_err-octets.ensures.integer))

pub returns-in_err-count-clause-line : goal.returns-in_err-count-clause-line
returns-in_err-count-clause-line c =
    rw c.from_residual-in_err-count.ensures
    (second_none c.args.bytes.now c.after_spaces.result.now c.in_ok-octets.rest.now c.after_spaces-2.result.now c.in_ok-octets.octets
    c.after_spaces.ensures c.in_ok-octets.ensures.integer.0 c.in_ok-octets.ensures.integer.1 c.after_spaces-2.ensures c.in_err-count.ensures.integer)

pub returns-in_err-rest-clause-line : goal.returns-in_err-rest-clause-line
returns-in_err-rest-clause-line c =
    rw c.from_residual-in_err-rest.ensures
    (line_none c.args.bytes.now c.after_spaces.result.now c.in_ok-octets.rest.now c.after_spaces-2.result.now c.in_ok-octets.octets
    c.after_spaces.ensures c.in_ok-octets.ensures.integer.0 c.in_ok-octets.ensures.integer.1 c.after_spaces-2.ensures
    c.in_ok-count.rest.now c.after_spaces-3.result.now c.in_ok-count.count c.in_ok-count.ensures.integer.0 c.in_ok-count.ensures.integer.1 c.after_spaces-3.ensures
    c.in_err-rest.ensures)

pub returns-clause-line : goal.returns-clause-line
returns-clause-line c =
    let octets : SFits w64 c.in_ok-octets.octets = search rules in
    let count : SFits w64 c.in_ok-count.count = search rules in
    simp to_z-of_z (line_some c.args.bytes.now c.after_spaces.result.now c.in_ok-octets.rest.now c.after_spaces-2.result.now c.in_ok-octets.octets
    c.after_spaces.ensures c.in_ok-octets.ensures.integer.0 c.in_ok-octets.ensures.integer.1 c.after_spaces-2.ensures
    c.in_ok-count.rest.now c.after_spaces-3.result.now c.in_ok-count.count c.in_ok-count.ensures.integer.0 c.in_ok-count.ensures.integer.1 c.after_spaces-3.ensures
    c.in_ok-rest.rest.now c.in_ok-rest.ensures)
