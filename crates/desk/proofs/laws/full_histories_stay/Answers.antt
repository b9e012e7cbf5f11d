use Rattle.desk.proofs.Logging.{full_histories_stay}
use Rattle.desk.proofs.laws.full_histories_stay.Goals as goal

pub returns : goal.returns
returns c = full_histories_stay
