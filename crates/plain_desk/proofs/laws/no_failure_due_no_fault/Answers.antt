use Rattle.plain_desk.proofs.Asked.{none_due_no_fault}
use Rattle.plain_desk.proofs.laws.no_failure_due_no_fault.Goals as goal

pub returns : goal.returns
returns c = none_due_no_fault
