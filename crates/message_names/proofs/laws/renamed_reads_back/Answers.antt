use Rattle.message_names.proofs.ReadingLemmas.{renamed_back}
use Rattle.message_names.proofs.laws.renamed_reads_back.Goals as goal

pub returns : goal.returns
returns c = renamed_back
