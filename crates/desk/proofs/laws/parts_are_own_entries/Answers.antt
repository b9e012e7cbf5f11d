use Rattle.desk.proofs.Logging.{parts_are_own_entries}
use Rattle.desk.proofs.laws.parts_are_own_entries.Goals as goal

pub returns : goal.returns
returns c = parts_are_own_entries
