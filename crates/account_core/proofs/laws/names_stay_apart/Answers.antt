use Rattle.account_core.proofs.Naming.{names_stay_apart}
use Rattle.account_core.proofs.laws.names_stay_apart.Goals as goal

pub returns : goal.returns
returns c = names_stay_apart
