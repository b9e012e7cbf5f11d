use Rattle.account_core.proofs.Logging.{logs_are_own}
use Rattle.account_core.proofs.laws.logs_are_the_callers_own.Goals as goal

pub returns : goal.returns
returns c = logs_are_own
