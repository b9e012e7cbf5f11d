use Rattle.tests_of_hosts.proofs.SetLemmas.{made_again, made_origins, newcomer_origins, newcomers_later}
use Rattle.tests_of_hosts.proofs.opening.enlist.Goals as goal

pub returns-in-Ok-clause-first : goal.returns-in-Ok-clause-first
returns-in-Ok-clause-first c = made_again c.args.first.now c.enlist.new.first c.in-Ok.ensures.first.1 c.requires.first

pub returns-in-Ok-clause-later : goal.returns-in-Ok-clause-later
returns-in-Ok-clause-later c = newcomers_later c.args.first.now c.in-Ok.set c.in-Ok.ensures.made.1 c.requires.first

pub returns-in-Ok-clause-begin : goal.returns-in-Ok-clause-begin
returns-in-Ok-clause-begin c = (made_origins c.args.first.now c.enlist.new.first c.in-Ok.ensures.first.1, newcomer_origins c.args.first.now c.in-Ok.set c.in-Ok.ensures.made.1)
