use Rattle.wire_io.proofs.Cuts.{one_cut}
use Rattle.http_front.specs.Http.{http}
use Rattle.http_front.proofs.WholeLemmas.{http_filled}
use Rattle.http_front.proofs.laws.each_text_has_one_cut.Goals as goal

pub returns-clause-filled : goal.returns-clause-filled
returns-clause-filled g c = λ work. http_filled work

pub returns-clause-one_cut : goal.returns-clause-one_cut
returns-clause-one_cut g c = λ work state text. one_cut (http work) (http_filled work) state text
