use Rattle.tests_of_hosts.proofs.SessionLemmas.{session_placed, session_replied}
use Rattle.tests_of_hosts.proofs.headline.session_over_seats.Goals as goal

pub returns-clause-session : goal.returns-clause-session
returns-clause-session g c = session_placed c.parts_are_own_entries.ensures c.args.table.now c.args.front _ _ _ _ _ _ _ c.run_session.ensures.session

pub returns-clause-replied : goal.returns-clause-replied
returns-clause-replied g c = λ none. session_replied c.parts_are_own_entries.ensures c.args.table.now c.args.front _ _ _ _ _ _ _ (c.run_session.ensures.replied none)
