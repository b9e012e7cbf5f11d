use Rattle.maildirsize.proofs.ReadingLemmas.{one_reading_lem}
use Rattle.maildirsize.proofs.laws.one_reading.Goals as goal

pub returns : goal.returns
returns c = one_reading_lem
