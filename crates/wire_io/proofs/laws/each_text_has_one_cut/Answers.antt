use Rattle.wire_io.proofs.Cuts.{one_cut}
use Rattle.wire_io.proofs.laws.each_text_has_one_cut.Goals as goal

pub returns : goal.returns
returns g c = one_cut g.p
