use Rattle.std.proofs.Common.{◌==◌}
use Rattle.policy_front.proofs.CutLemmas.{before_some, after_some, before_none, after_none}
use Rattle.policy_front.proofs.attributes.around_first.Goals as goal

pub returns-in-Some-clause-before : goal.returns-in-Some-clause-before
returns-in-Some-clause-before c = before_some (λ b. b == c.args.separator) c.args.bytes.now c.in-Some.at c.in-Some.ensures

pub returns-in-Some-clause-after : goal.returns-in-Some-clause-after
returns-in-Some-clause-after c = after_some (λ b. b == c.args.separator) c.args.bytes.now c.in-Some.at c.in-Some.ensures

pub returns-in-None-clause-before : goal.returns-in-None-clause-before
returns-in-None-clause-before c = before_none (λ b. b == c.args.separator) c.args.bytes.now c.in-None.ensures

pub returns-in-None-clause-after : goal.returns-in-None-clause-after
returns-in-None-clause-after c = after_none (λ b. b == c.args.separator) c.args.bytes.now c.in-None.ensures
