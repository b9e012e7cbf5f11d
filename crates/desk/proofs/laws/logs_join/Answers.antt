use Rattle.desk.proofs.Logging.{logs_join}
use Rattle.desk.proofs.laws.logs_join.Goals as goal

pub returns : goal.returns
returns c = logs_join
