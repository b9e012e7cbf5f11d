use Rattle.wire_io.proofs.Endings.{has_end}
use Rattle.wire_io.proofs.laws.each_input_has_an_end.Goals as goal

pub returns : goal.returns
returns g c = λ filled one_way start limit. has_end g.p limit filled one_way start
