use Rattle.account_lock.proofs.Moments.{home_is_counted}
use Rattle.account_lock.proofs.laws.a_value_at_home_has_the_history.Goals as goal

pub returns : goal.returns
returns g c = home_is_counted g.V.Booked.origin g.V.Booked.history
