use Rattle.account_core.proofs.Admitting.{none_broken}
use Rattle.account_core.proofs.laws.no_accepted_message_breaks_a_limit.Goals as goal

pub returns : goal.returns
returns c = none_broken
