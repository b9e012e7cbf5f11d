use Rattle.std.proofs.Common.{rules}
use Rattle.desk.specs.Logs.{IsLog}
use Rattle.front_core.proofs.Leading.{session_replied}
use Rattle.policy_front.specs.Policy.{policy}
use Rattle.policy_front.specs.Serving.{IsPolicySession}
use Rattle.policy_front.proofs.session.run_policy.Goals as goal

pub returns-clause-replied : goal.returns-clause-replied
returns-clause-replied g c =
    let left = g.S.Source.left in
    let written = g.O.Sink.written in
    let shares = g.D.Desk.shares c.args.desk.now in
    let shares' = g.D.Desk.shares c.run_service.new.world in
    let s : IsPolicySession c.args.table.now (IsLog shares shares')
    (left c.args.source.now) (left c.run_service.new.source) (written c.args.sink.now) (written c.run_service.new.sink) c.run_service.result = search rules in
    λ none. session_replied (policy c.args.table.now) _ _ _ shares shares' _ _ _ _ _ none s
