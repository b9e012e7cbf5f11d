use Rattle.maildirsize.proofs.WrittenLemmas.{written_reads_back_lem}
use Rattle.maildirsize.proofs.laws.written_reads_back.Goals as goal

pub returns : goal.returns
returns c = written_reads_back_lem
