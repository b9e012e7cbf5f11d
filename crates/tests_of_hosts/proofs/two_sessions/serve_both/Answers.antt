use Rattle.std.proofs.Common.{◌∙◌}
use Rattle.tests_of_hosts.proofs.SetLemmas.{join_numbers, later_by_numbers}
use Rattle.tests_of_hosts.proofs.two_sessions.serve_both.Goals as goal

pub join-requires-clause-later : goal.join-requires-clause-later
join-requires-clause-later g c = later_by_numbers c.args.second c.serve-second.result.0 c.serve-second.ensures.numbers c.requires.later

pub returns-clause-numbers : goal.returns-clause-numbers
returns-clause-numbers g c = join_numbers c.serve-first.result.0 c.join.new.set c.serve-second.result.0 c.join.ensures.joined ∙ c.serve-first.ensures.numbers
