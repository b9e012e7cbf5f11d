use Rattle.policy_front.specs.Answers.{action, no_account}
use Rattle.policy_front.specs.Policy.{work}
use Rattle.policy_front.specs.Texts.{asked_of}
use Rattle.policy_front.specs.Taking.{after_asked, request_with}
use Rattle.policy_front.proofs.Answering.{said, nobody_receives}
use Rattle.policy_front.proofs.asking.answer_asked.Goals as goal

pub returns-in-None-named-clause-ok : goal.returns-in-None-named-clause-ok
returns-in-None-named-clause-ok g c =
    let hosts = c.args.table.now in
    let request = c.args.request in
    let message = c.args.message.now in
    let own = c.in-Deliver in
    let write = c.write_action-in-None-named in
    said (g.D.Desk.shares c.args.desk.now) (work hosts (request_with (asked_of request) message)) write.new.out.items (action no_account) (after_asked request) write.result
    (nobody_receives hosts request own.account own.mailbox own.octets own.flags message own.is c.in-None-named.ensures.none) write.ensures
