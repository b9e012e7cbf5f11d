use Rattle.wire_io.proofs.Cuts.{one_cut}
use Rattle.policy_front.specs.Policy.{policy}
use Rattle.policy_front.specs.Filled.{policy_filled}
use Rattle.policy_front.proofs.laws.each_text_has_one_cut.Goals as goal

pub returns-clause-filled : goal.returns-clause-filled
returns-clause-filled c = policy_filled

pub returns-clause-one_cut : goal.returns-clause-one_cut
returns-clause-one_cut c = λ hosts login text. one_cut (policy hosts) (policy_filled hosts) login text
