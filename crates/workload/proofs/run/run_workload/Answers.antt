use Rattle.std.proofs.Common.{ap, map, ◌∙◌}
use Rattle.plain_desk.specs.Owning.{share_of}
use Rattle.workload.specs.Summaries.{lines_that, is_delivered, is_refused, is_removal, is_missing}
use Rattle.workload.proofs.Summing.{tallied, session_summed}
use Rattle.workload.proofs.run.run_workload.Goals as goal

pub returns : goal.returns
returns c =
    let tally = c.count_answers-tally.result in
    let counts = c.count_answers-tally.ensures in
    let written = c.deref.ensures.value in
    tallied c.args.n tally.delivered tally.refused tally.removed tally.missing c.in_ok-text.text.items c.in_ok-usage.usage
    (counts.delivered ∙ ap (lines_that is_delivered) written) (counts.refused ∙ ap (lines_that is_refused) written)
    (counts.removed ∙ ap (lines_that is_removal) written) (counts.missing ∙ ap (lines_that is_missing) written)
    ∙ session_summed c.args.n c.in_ok-bytes.bytes.items c.in_ok-text.text.items (map share_of c.serve.new.desk) c.in_ok-usage.usage
    c.in_ok-bytes.ensures c.in_ok-text.ensures.text c.in_ok-text.ensures.shares c.in_ok-usage.ensures
