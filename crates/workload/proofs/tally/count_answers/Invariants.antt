use Rattle.std.proofs.Common.{◌≡◌, ◌+◌, length}
use Rattle.workload.specs.Summaries.{lines_that, is_delivered, is_refused, is_removal, is_missing}
use Rattle.workload.proofs.tally.count_answers.Given as goal

abbrev pub invariant-loop-line : goal.invariant-loop-line
invariant-loop-line l = record {
  delivered : lines_that is_delivered l.rest + l.tally.delivered ≡ lines_that is_delivered l.text;
  refused : lines_that is_refused l.rest + l.tally.refused ≡ lines_that is_refused l.text;
  removed : lines_that is_removal l.rest + l.tally.removed ≡ lines_that is_removal l.text;
  missing : lines_that is_missing l.rest + l.tally.missing ≡ lines_that is_missing l.text;
}

abbrev pub decreases-loop-line : goal.decreases-loop-line
decreases-loop-line l = length l.rest
