use Rattle.desk.proofs.Logging.{calls_are_logs}
use Rattle.desk.proofs.laws.calls_are_logs.Goals as goal

pub returns : goal.returns
returns c = calls_are_logs
