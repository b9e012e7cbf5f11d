use Rattle.account_core.proofs.Admitting.{over_where_no_fit}
use Rattle.account_core.proofs.laws.over_exactly_where_a_message_does_not_fit.Goals as goal

pub returns : goal.returns
returns c = over_where_no_fit
