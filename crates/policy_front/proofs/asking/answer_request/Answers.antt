use Rattle.std.proofs.Common.{Result, ap, codes}
use Rattle.wire_io.specs.declared.ends.After.TheVariants.{Closing}
use Rattle.policy_front.specs.Answers.{action}
use Rattle.policy_front.specs.Policy.{work}
use Rattle.policy_front.specs.Taking.{request_taken}
use Rattle.policy_front.specs.declared.reading.PolicyFault.{PolicyFault}
use Rattle.policy_front.specs.declared.reading.PolicyRequest.{PolicyRequest}
use Rattle.policy_front.proofs.Answering.{says}
use Rattle.policy_front.proofs.asking.answer_request.Goals as goal

pub returns-in_ok-write_action-in-Err-clause-ok : goal.returns-in_ok-write_action-in-Err-clause-ok
returns-in_ok-write_action-in-Err-clause-ok g c =
    let hosts = c.args.table.now in
    let message = c.args.message.now in
    says (g.D.Desk.shares c.args.desk.now) (work hosts (request_taken message c.args.request)) c.write_action.new.out.items (action (codes "bad request")) Closing
    (ap (λ (r : Result PolicyRequest PolicyFault). work hosts (request_taken message r)) c.in-Err.is) c.in_ok-write_action-in-Err.ensures
