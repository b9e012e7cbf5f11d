use Rattle.policy_front.proofs.LineLemmas.{lines-searched, begun_open, none-searched}
use Rattle.policy_front.proofs.attributes.first_line.Goals as goal

pub returns-in-Some-clause-lines : goal.returns-in-Some-clause-lines
returns-in-Some-clause-lines c = lines-searched c.args.text.now c.in-Some.end c.without_cr.result.now c.in-Some.ensures c.without_cr.ensures

pub returns-in-None-clause-none : goal.returns-in-None-clause-none
returns-in-None-clause-none c = begun_open c.args.text.now (none-searched c.args.text.now c.in-None.ensures)
