use Rattle.account_core.proofs.WorkedTouching.{entries_touch_so}
use Rattle.account_core.proofs.laws.worked_entries_touch_objects_so.Goals as goal

pub returns : goal.returns
returns c = entries_touch_so
