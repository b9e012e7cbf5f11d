use Rattle.account_lock.proofs.Moments.{tickets_in_line}
use Rattle.account_lock.proofs.laws.tickets_stand_in_line.Goals as goal

pub returns : goal.returns
returns g c = tickets_in_line g.V.Booked.origin g.V.Booked.history
