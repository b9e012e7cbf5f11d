use Rattle.std.proofs.Common.{◌≡◌, ◌+◌, ◌<◌, length, Some, ap, ◌∙◌, sym, arith}
use Rattle.std.proofs.lemmas.Bool.Decides.{nat_tests}
use Rattle.maildirsize.specs.Sums.{Pair}
use Rattle.maildirsize.proofs.SumsLemmas.{sum_more, summed_as, bound_as, sums_fault, sum_line_shorter, sums_right, sums_summary, added}
use Rattle.maildirsize.proofs.ledger_text.read_summed.Goals as goal

pub returns-in_default-clause-fault : goal.returns-in_default-clause-fault
returns-in_default-clause-fault c =
    let rest = c.loop-rest.rest.now in
    let some : 0 < length rest = grind (arith, nat_tests) in
    ap Some c.sum_line_fault.ensures
    ∙ sym (sums_fault c.args.bytes.now rest c.loop-rest.lines _ _ c.loop-rest.invariant.read c.args.text_length c.in_default.ensures.line some)

pub loop-rest-smaller : goal.loop-rest-smaller
loop-rest-smaller c =
    let pair : Pair = record { octets = c.in-Some.more_octets; count = c.in-Some.more_count } in
    let shorter = sum_line_shorter c.loop-rest.rest.now pair c.in-Some.next.now c.in-Some.ensures.line in
    omega (arith, shorter)

pub loop-rest-preserved : goal.loop-rest-preserved
loop-rest-preserved c =
    let h = c.loop-rest.invariant in
    let pair : Pair = record { octets = c.in-Some.more_octets; count = c.in-Some.more_count } in
    let shorter = sum_line_shorter c.loop-rest.rest.now pair c.in-Some.next.now c.in-Some.ensures.line in
    let few : c.loop-rest.lines < 5120 = omega (arith, h.room, shorter, c.requires.within, c.requires.short) in
    let octets = added _ c.in-Some.more_octets c.from-octets.result c.loop-rest.lines h.octets few c.in-Some.ensures.octets c.from-octets.ensures in
    let count = added _ c.in-Some.more_count c.from-count.result c.loop-rest.lines h.count few c.in-Some.ensures.count c.from-count.ensures in
    record {
      read = summed_as c.args.bytes.now c.in-Some.next.now (c.loop-rest.lines + 1) _ _ _ _ octets.0 count.0
          (sum_more c.args.bytes.now c.loop-rest.rest.now c.loop-rest.lines _ _ h.read pair c.in-Some.next.now c.in-Some.ensures.line);
      room = omega (arith, h.room, shorter);
      octets = bound_as _ _ _ octets.0 octets.1;
      count = bound_as _ _ _ count.0 count.1;
    }

pub returns-clause-fault : goal.returns-clause-fault
returns-clause-fault c =
    let over : length c.loop-rest.rest.now ≡ 0 = grind (arith, nat_tests) in
    sym (sums_right c.args.bytes.now c.loop-rest.rest.now c.loop-rest.lines _ _ c.loop-rest.invariant.read over c.args.text_length)

pub returns-clause-ledger : goal.returns-clause-ledger
returns-clause-ledger c =
    let over : length c.loop-rest.rest.now ≡ 0 = grind (arith, nat_tests) in
    sums_summary c.args.bytes.now c.loop-rest.rest.now c.loop-rest.lines _ _ c.loop-rest.invariant.read over c.args.limits
