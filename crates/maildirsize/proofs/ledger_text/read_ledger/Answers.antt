use Rattle.std.proofs.Common.{◌≡◌, ◌∷◌, ◌<◌, length, Some, Err, ap, ◌∙◌, sym, arith}
use Rattle.maildirsize.specs.declared.ledger_text.LedgerFault.TheVariants.{Torn}
use Rattle.maildirsize.specs.Prefixes.{skip_while, begins_with}
use Rattle.maildirsize.specs.Lines.{is_line_feed, is_in_line}
use Rattle.maildirsize.proofs.ReadingLemmas.{fault_without_line, fault_of_definition, fault_of_sums, reads_as, read_exactly, ended_begins}
use Rattle.maildirsize.proofs.ledger_text.read_ledger.Goals as goal

pub returns-in-Some-clause-readable : goal.returns-in-Some-clause-readable
returns-in-Some-clause-readable c =
    let short : length c.args.bytes.now < 5120 = omega arith in
    let found : skip_while is_in_line c.args.bytes.now ≡ 10 ∷ c.in-Some.sums.now = sym c.in-Ok.ensures.limits.1
    ∙ c.in-Some.ensures in
    reads_as c.args.bytes.now c.in-Some.sums.now c.limits_from.result c.read_summed.result short
    (c.in-Ok.ensures.limits.0 ∙ ap Some
    (sym c.limits_from.ensures)) found c.read_summed.ensures.fault c.read_summed.ensures.ledger

pub returns-in-Some-clause-fault : goal.returns-in-Some-clause-fault
returns-in-Some-clause-fault c =
    let short : length c.args.bytes.now < 5120 = omega arith in
    let found : skip_while is_in_line c.args.bytes.now ≡ 10 ∷ c.in-Some.sums.now = sym c.in-Ok.ensures.limits.1
    ∙ c.in-Some.ensures in
    c.read_summed.ensures.fault ∙ sym
    (fault_of_sums c.args.bytes.now c.in-Some.sums.now c.limits_from.result short
    (c.in-Ok.ensures.limits.0 ∙ ap Some (sym c.limits_from.ensures)) found)

pub returns-in-Some-clause-only : goal.returns-in-Some-clause-only
returns-in-Some-clause-only c = read_exactly c.args.bytes.now c.read_summed.result (returns-in-Some-clause-fault c)
    (returns-in-Some-clause-readable c)

pub returns-in-None-clause-fault : goal.returns-in-None-clause-fault
returns-in-None-clause-fault c =
    let short : length c.args.bytes.now < 5120 = omega arith in
    let none = ended_begins c.args.bytes.now ∙ ap (begins_with is_line_feed) (sym c.in-Ok.ensures.limits.1) ∙ c.in-None.ensures in
    sym (fault_without_line c.args.bytes.now short none)

pub returns-in-None-clause-only : goal.returns-in-None-clause-only
returns-in-None-clause-only c = read_exactly c.args.bytes.now (Err (Torn 0)) (returns-in-None-clause-fault c) tt

pub returns-in-Err-clause-fault : goal.returns-in-Err-clause-fault
returns-in-Err-clause-fault c =
    let short : length c.args.bytes.now < 5120 = omega arith in
    ap Some c.definition_fault.ensures ∙ sym (fault_of_definition c.args.bytes.now c.in-Err.at short c.in-Err.ensures.limits)

pub returns-in-Err-clause-only : goal.returns-in-Err-clause-only
returns-in-Err-clause-only c = read_exactly c.args.bytes.now (Err c.definition_fault.result) (returns-in-Err-clause-fault c) tt
