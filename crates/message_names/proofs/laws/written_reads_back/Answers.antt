use Rattle.message_names.proofs.ReadingLemmas.{written_back}
use Rattle.message_names.proofs.laws.written_reads_back.Goals as goal

pub returns : goal.returns
returns c = λ base size flags length right small. written_back base size flags right small length
