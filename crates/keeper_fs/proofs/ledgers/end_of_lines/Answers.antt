use Rattle.keeper_fs.proofs.LineLemmas.{no_line}
use Rattle.keeper_fs.proofs.ledgers.end_of_lines.Goals as goal

pub returns-in-None-clause-lines : goal.returns-in-None-clause-lines
returns-in-None-clause-lines c = no_line _ c.in-None.ensures
