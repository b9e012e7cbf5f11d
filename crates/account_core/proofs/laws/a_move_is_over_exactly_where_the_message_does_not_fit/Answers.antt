use Rattle.account_core.proofs.Moving.{move_over_where_no_fit}
use Rattle.account_core.proofs.laws.a_move_is_over_exactly_where_the_message_does_not_fit.Goals as goal

pub returns : goal.returns
returns c = move_over_where_no_fit
