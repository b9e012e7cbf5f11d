use Rattle.tests_of_hosts.proofs.SetLemmas.{first_by_numbers, set_fits}
use Rattle.tests_of_hosts.proofs.two_sessions.two_callers_deliver_into_one_account.Goals as goal

pub serve_both-first-requires-clause-desks : goal.serve_both-first-requires-clause-desks
serve_both-first-requires-clause-desks g c = (
  set_fits c.in-Ok.table c.in_ok-host.first c.enlist.new.first c.in_ok-second.ensures.begin.0 c.in_ok-host.ensures.desk,
  set_fits c.in-Ok.table c.in_ok-host.first c.in_ok-second.second c.in_ok-second.ensures.begin.1 c.in_ok-host.ensures.desk,
)

pub close_all-requires-clause-first : goal.close_all-requires-clause-first
close_all-requires-clause-first g c = first_by_numbers c.enlist.new.first c.serve_both-first.result.0 c.serve_both-first.ensures.numbers c.in_ok-second.ensures.first.first
