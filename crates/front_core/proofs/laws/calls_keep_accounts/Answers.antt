use Rattle.front_core.proofs.Leading.{desk_after}
use Rattle.front_core.proofs.laws.calls_keep_accounts.Goals as goal

pub returns : goal.returns
returns g = desk_after
