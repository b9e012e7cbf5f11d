use Rattle.std.proofs.Common.{◌≡◌, ◌≤◌, length}
use Rattle.std.specs.Prelude.{vec_capacity}
use Rattle.wire_net.specs.Memory.{arrivals, AreOpened}
use Rattle.wire_net.specs.Keeping.{offers_in}
use Rattle.wire_net.proofs.memory_net.open_doors.Given as goal

abbrev pub invariant-loop-number : goal.invariant-loop-number
invariant-loop-number l = record {
  count : length l.made.items ≡ l.number;
  room : l.doors ≤ vec_capacity l.made;
  opened : AreOpened l.doors (arrivals l.wire (offers_in l.connections)) l.fails l.made.items;
}
