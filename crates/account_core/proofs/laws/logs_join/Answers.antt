use Rattle.account_core.proofs.Logging.{logs_join}
use Rattle.account_core.proofs.laws.logs_join.Goals as goal

pub returns : goal.returns
returns c = logs_join
