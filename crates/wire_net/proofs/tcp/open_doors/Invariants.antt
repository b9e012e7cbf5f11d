use Rattle.std.proofs.Common.{◌≡◌, ◌≤◌, length}
use Rattle.std.specs.Prelude.{vec_capacity}
use Rattle.std.specs.List.{All}
use Rattle.wire_net.specs.Doors.{IsFresh}
use Rattle.wire_net.specs.Tcp.{misses_of, ended_of, asked_of, untold}
use Rattle.wire_net.proofs.tcp.open_doors.Given as goal

abbrev pub invariant-loop : goal.invariant-loop
invariant-loop g l = record {
  count : length l.made.items ≡ l.counter;
  room : l.doors ≤ vec_capacity l.made;
  fresh : All (IsFresh misses_of ended_of asked_of untold) l.made.items;
}
