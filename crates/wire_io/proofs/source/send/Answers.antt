use Rattle.std.proofs.Common.{rules, arith, length-drop}
use Rattle.wire_io.proofs.SendLemmas.{Appends-take}
use Rattle.wire_io.proofs.source.send.Goals as goal

pub loop-sent-preserved : goal.loop-sent-preserved
loop-sent-preserved g c = record {
  within = omega (arith, c.in_ok-sent.ensures.bound, length-drop c.loop-sent.sent c.args.bytes.now);
  written = Appends-take _ _ _ c.args.bytes.now c.loop-sent.sent c.in_ok-sent.field-0 c.loop-sent.invariant.written c.in_ok-sent.ensures.bytes;
  kept = search rules;
  untouched = λ none. absurd (omega (arith, none, c.in_ok-sent.ensures.some));
}
