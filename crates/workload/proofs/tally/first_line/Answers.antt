use Rattle.workload.proofs.Counting.{first_cut, no_cut}
use Rattle.workload.proofs.tally.first_line.Goals as goal

pub returns-in-Some-clause-some : goal.returns-in-Some-clause-some
returns-in-Some-clause-some c = first_cut c.args.text.now c.in-Some.end c.in-Some.ensures

pub returns-in-None-clause-none : goal.returns-in-None-clause-none
returns-in-None-clause-none c = no_cut c.args.text.now c.in-None.ensures
