use Rattle.account_core.proofs.Forming.{replies_have_form}
use Rattle.account_core.proofs.laws.replies_have_their_form.Goals as goal

pub returns : goal.returns
returns c = replies_have_form
