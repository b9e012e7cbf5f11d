use Rattle.std.proofs.Common.{◌==◌, length, Some, ap, ◌∙◌, sym, arith}
use Rattle.maildirsize.specs.Definition.{is_in_member}
use Rattle.maildirsize.proofs.WordLemmas.{length-take_while}
use Rattle.maildirsize.proofs.MemberLemmas.{read_more, read_last, line_behind, read_wrong, limit_either, same_limits, read_as}
use Rattle.maildirsize.proofs.definition.leading_members.Goals as goal

pub returns-in_default-clause-limits : goal.returns-in_default-clause-limits
returns-in_default-clause-limits c =
    read_wrong c.args.bytes.now c.loop-member.rest.now c.loop-member.octets c.loop-member.count c.loop-member.invariant.read c.in_default.ensures.member

pub loop-member-preserved : goal.loop-member-preserved
loop-member-preserved c =
    let rest = c.loop-member.rest.now in
    let member = c.in-Some.member in
    let behind_member = sym c.in-Some.ensures.member.1 ∙ c.in-Some-after_byte.ensures in
    let lengths = length-take_while is_in_member rest in
    let shorter = ap length behind_member in
    record {
      read = read_as c.args.bytes.now c.in-Some-after_byte.more.now _ _ _ _ c.limit_after-octets.ensures c.limit_after-count.ensures
          (read_more c.args.bytes.now rest c.loop-member.octets c.loop-member.count c.loop-member.invariant.read member c.in-Some-after_byte.more.now c.in-Some.ensures.member.0 behind_member);
      octets = limit_either (member.letter == 83) member.limit c.loop-member.octets _ c.limit_after-octets.ensures c.in-Some.ensures.limit c.loop-member.invariant.octets;
      count = limit_either (member.letter == 67) member.limit c.loop-member.count _ c.limit_after-count.ensures c.in-Some.ensures.limit c.loop-member.invariant.count;
      place = omega (arith, lengths, shorter, c.loop-member.invariant.place);
    }

pub returns-in-None-clause-limits : goal.returns-in-None-clause-limits
returns-in-None-clause-limits c =
    let last = read_last c.args.bytes.now c.loop-member.rest.now c.loop-member.octets c.loop-member.count c.loop-member.invariant.read c.in-Some.member c.in-Some.next.now c.in-Some.ensures.member.0 c.in-Some.ensures.member.1 c.in-None.ensures in
    let line = line_behind c.args.bytes.now c.loop-member.rest.now c.loop-member.octets c.loop-member.count c.loop-member.invariant.read c.in-Some.member c.in-Some.next.now c.in-Some.ensures.member.0 c.in-Some.ensures.member.1 c.in-None.ensures in
    (last ∙ ap Some (same_limits _ _ _ _ (sym c.limit_after-octets.ensures) (sym c.limit_after-count.ensures)), line)
