use Rattle.account_host.specs.Sets.{views_of}
use Rattle.tests_of_hosts.proofs.SetLemmas.{all_fresh, first_fits, first_made}
use Rattle.tests_of_hosts.proofs.opening.open_host.Goals as goal

pub new-requires-clause-fresh : goal.new-requires-clause-fresh
new-requires-clause-fresh c = all_fresh c.args.table.now.epoch c.args.table.now.accounts c.in-Ok.states.items c.in-Ok.ensures.opened

pub returns-in-Ok-new-clause-first : goal.returns-in-Ok-new-clause-first
returns-in-Ok-new-clause-first c = record {
  first = c.in-Ok-new.ensures.first;
  made = first_made c.in-Ok.states.items (views_of c.in-Ok-new.made.1) c.in-Ok-new.ensures.accounts;
}

pub returns-in-Ok-new-clause-desk : goal.returns-in-Ok-new-clause-desk
returns-in-Ok-new-clause-desk c = first_fits c.args.table.now c.in-Ok.states.items (views_of c.in-Ok-new.made.1) c.in-Ok.ensures.opened c.in-Ok-new.ensures.accounts
