use Rattle.tests_of_desks.proofs.OwnerLemmas.{no_failures}
use Rattle.tests_of_desks.proofs.headline.session_of_the_owner.Goals as goal

pub returns-clause-none_due : goal.returns-clause-none_due
returns-clause-none_due g c = λ none room. no_failures _ _ c.run_session-end.ensures.leads c.show_owned.ensures none room
