use Rattle.http_front.proofs.TakeLemmas.{ends_sessions}
use Rattle.http_front.proofs.laws.each_end_is_of_a_session.Goals as goal

pub returns : goal.returns
returns g c = ends_sessions g.F.Service.State g.F.Service.Call g.F.Service.Answer
