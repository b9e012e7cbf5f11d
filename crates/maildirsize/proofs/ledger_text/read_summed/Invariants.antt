use Rattle.std.proofs.Common.{◌+◌, ◌*◌, ◌≤◌, length, unsigned_abs}
use Rattle.maildirsize.proofs.SumsLemmas.{SummedTo}
use Rattle.maildirsize.proofs.ledger_text.read_summed.Given as goal

abbrev pub invariant-loop-rest : goal.invariant-loop-rest
invariant-loop-rest l = record {
  read : SummedTo l.bytes l.rest l.lines l.octets l.count;
  room : l.lines + length l.rest ≤ length l.bytes;
  octets : unsigned_abs l.octets ≤ l.lines * 1000000000000000000;
  count : unsigned_abs l.count ≤ l.lines * 1000000000000000000;
}

abbrev pub decreases-loop-rest : goal.decreases-loop-rest
decreases-loop-rest l = length l.rest
