use Rattle.std.proofs.Common.{arith}
use Rattle.workload.specs.Summaries.{is_delivered, is_refused, is_removal, is_missing}
use Rattle.workload.proofs.Counting.{that-few}
use Rattle.workload.proofs.tally.count_answers.Goals as goal

pub count-requires : goal.count-requires
count-requires c = record {
  delivered = omega (arith, that-few is_delivered c.args.text.now);
  refused = omega (arith, that-few is_refused c.args.text.now);
  removed = omega (arith, that-few is_removal c.args.text.now);
  missing = omega (arith, that-few is_missing c.args.text.now);
}

pub count-requires-2 : goal.count-requires-2
count-requires-2 c = record {
  delivered = omega (arith, that-few is_delivered c.args.text.now);
  refused = omega (arith, that-few is_refused c.args.text.now);
  removed = omega (arith, that-few is_removal c.args.text.now);
  missing = omega (arith, that-few is_missing c.args.text.now);
}
