use Rattle.wire_io.proofs.Deciding.{end_decided}
use Rattle.wire_io.proofs.laws.an_input_decides_the_end.Goals as goal

pub returns : goal.returns
returns g c = λ filled greeting start limit. end_decided g.p limit filled greeting start
