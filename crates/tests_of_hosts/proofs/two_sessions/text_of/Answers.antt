use Rattle.account_host.specs.Leading.{leads_itself}
use Rattle.tests_of_hosts.proofs.two_sessions.text_of.Goals as goal

pub returns-in_err-ok : goal.returns-in_err-ok
returns-in_err-ok g c = record { leads = leads_itself c.args.seats.now }

pub returns-in_err-sink : goal.returns-in_err-sink
returns-in_err-sink g c = record { leads = leads_itself c.args.seats.now }
