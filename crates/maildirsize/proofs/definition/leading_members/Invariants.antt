use Rattle.std.proofs.Common.{◌≤◌, length, IfSome}
use Rattle.quota_units.specs.Limiting.{IsLimit}
use Rattle.maildirsize.proofs.MemberLemmas.{ReadTo}
use Rattle.maildirsize.proofs.definition.leading_members.Given as goal

abbrev pub invariant-loop-member : goal.invariant-loop-member
invariant-loop-member l = record {
  read : ReadTo l.bytes l.rest l.octets l.count;
  octets : IfSome l.octets IsLimit;
  count : IfSome l.count IsLimit;
  place : length l.rest ≤ length l.bytes;
}

abbrev pub decreases-loop-member : goal.decreases-loop-member
decreases-loop-member l = length l.rest
