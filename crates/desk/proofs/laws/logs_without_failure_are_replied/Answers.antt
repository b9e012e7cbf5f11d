use Rattle.desk.proofs.Replying.{logs_without_failure_are_replied}
use Rattle.desk.proofs.laws.logs_without_failure_are_replied.Goals as goal

pub returns : goal.returns
returns c = logs_without_failure_are_replied
