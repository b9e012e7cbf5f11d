use Rattle.account_core.proofs.Moving.{none_broken_by_moves}
use Rattle.account_core.proofs.laws.no_moved_message_breaks_a_limit.Goals as goal

pub returns : goal.returns
returns c = none_broken_by_moves
