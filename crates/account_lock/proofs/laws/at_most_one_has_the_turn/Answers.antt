use Rattle.account_lock.proofs.Moments.{one_turn}
use Rattle.account_lock.proofs.laws.at_most_one_has_the_turn.Goals as goal

pub returns : goal.returns
returns g c = one_turn g.V.Booked.origin g.V.Booked.history
