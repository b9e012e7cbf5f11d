use Rattle.plain_desk.proofs.Asked.{none_due_no_failures}
use Rattle.plain_desk.proofs.laws.no_failures_due_no_failures.Goals as goal

pub returns : goal.returns
returns c = none_due_no_failures
