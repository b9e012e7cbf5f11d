use Rattle.std.proofs.Common.{length, take, ◌-◌, ◌≡◌, ◌≤◌}
use Rattle.std.specs.Io.KnownBytes.{Appends}
use Rattle.wire_io.proofs.source.send.Given as goal

abbrev pub invariant-loop-sent : goal.invariant-loop-sent
invariant-loop-sent g l = record {
  within : l.sent ≤ length l.bytes;
  written : Appends (g.O.Sink.written l.fn.sink) (g.O.Sink.written l.sink) (take l.sent l.bytes);
  kept : g.O.Sink.faults l.sink ≡ g.O.Sink.faults l.fn.sink;
  untouched : l.sent ≡ 0 → l.sink ≡ l.fn.sink;
}

abbrev pub decreases-loop-sent : goal.decreases-loop-sent
decreases-loop-sent g l = length l.bytes - l.sent
