use Rattle.policy_front.specs.OneWay.{policy_one_way}
use Rattle.policy_front.proofs.Wording.{requests_have_actions}
use Rattle.policy_front.proofs.laws.each_answer_is_an_action.Goals as goal

pub returns-clause-action : goal.returns-clause-action
returns-clause-action c = requests_have_actions

pub returns-clause-one_way : goal.returns-clause-one_way
returns-clause-one_way c = policy_one_way
