use Rattle.wire_io.proofs.Transcribing.{session_decided}
use Rattle.wire_io.proofs.laws.an_input_decides_the_session.Goals as goal

pub returns : goal.returns
returns g c = λ filled greeting start limit. session_decided g.p.0 g.p.1 limit filled greeting start
