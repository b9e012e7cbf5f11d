use Rattle.http_front.proofs.ReaderLemmas.{heads_are_exact}
use Rattle.http_front.proofs.laws.heads_are_read_exactly.Goals as goal

pub returns : goal.returns
returns c = heads_are_exact
