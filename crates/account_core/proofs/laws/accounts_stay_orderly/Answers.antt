use Rattle.account_core.proofs.Orderly.{accounts_stay_orderly}
use Rattle.account_core.proofs.laws.accounts_stay_orderly.Goals as goal

pub returns : goal.returns
returns c = accounts_stay_orderly
