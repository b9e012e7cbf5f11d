use Rattle.std.proofs.Common.{◌∙◌, subst}
use Rattle.account_host.specs.Seating.{IsSetOf}
use Rattle.tests_of_hosts.proofs.SetLemmas.{kept_numbers, seats_fit}
use Rattle.tests_of_hosts.proofs.two_sessions.serve.Goals as goal

pub text_of-text-requires-clause-desk : goal.text_of-text-requires-clause-desk
text_of-text-requires-clause-desk g c = seats_fit c.args.table.now c.args.set c.new-seats.result.set c.new-seats.ensures.set c.requires.desk

pub returns-clause-set : goal.returns-clause-set
returns-clause-set g c = subst (λ host. IsSetOf host c.finish.result) (c.text_of-text.ensures.leads.host ∙ c.new-seats.ensures.host) c.finish.ensures.host

pub returns-clause-numbers : goal.returns-clause-numbers
returns-clause-numbers g c = kept_numbers c.args.set c.new-seats.result.set c.text_of-text.new.seats.set c.finish.result c.new-seats.ensures.set c.text_of-text.ensures.leads.passes c.finish.ensures.set
