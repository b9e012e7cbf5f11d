use Rattle.owner_sessions.proofs.Sessions.{inputs_decide_sessions}
use Rattle.owner_sessions.proofs.laws.inputs_decide_sessions.Goals as goal

pub returns : goal.returns
returns c = inputs_decide_sessions
