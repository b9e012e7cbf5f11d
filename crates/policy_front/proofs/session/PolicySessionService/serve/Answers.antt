use Rattle.std.proofs.Common.{rules, ◌≡◌, None, Err, refl, subst}
use Rattle.std.specs.Io.KnownBytes.{Appends}
use Rattle.wire_io.specs.Feeds.{limit_of}
use Rattle.wire_io.specs.Sending.{AppendsPart}
use Rattle.desk.proofs.Logging.{log_nothing}
use Rattle.front_core.specs.Works.{DoesWork, LeavesWork}
use Rattle.front_core.proofs.Serving.{answer_sent, answer_cut, answer_abandoned, taken_more, not_taken}
use Rattle.policy_front.specs.Policy.{policy, work}
use Rattle.policy_front.specs.Filled.{policy_filled}
use Rattle.policy_front.specs.Taking.{request_taken}
use Rattle.policy_front.proofs.session.PolicySessionService.serve.Goals as goal

pub returns-in_err-request-clause-serves : goal.returns-in_err-request-clause-serves
returns-in_err-request-clause-serves g c =
    let hosts = c.args.self.now.table.now in
    let end = c.in_err-request.field-0.0 in
    let is : c.from_residual.result ≡ Err end = search rules in
    not_taken (policy hosts) (policy_filled hosts) (limit_of c.args.feed.now) (request_taken c.take_request.new.message.items) None None (g.D.Desk.shares c.args.desk.now) (g.D.Desk.shares c.args.desk.now)
    (g.D.Desk.leads c.args.desk.now c.args.desk.now) (g.met.D.Desk.leads_itself c.args.desk.now) _ _ _ _ _ _ _ _ _ _ end c.from_residual.result is (log_nothing (g.D.Desk.shares c.args.desk.now))
    (c.in_err-request.ensures.takes hosts None (g.O.Sink.written c.args.sink.now))

pub returns-in-Ok-send-clause-serves : goal.returns-in-Ok-send-clause-serves
returns-in-Ok-send-clause-serves g c =
    let hosts = c.args.self.now.table.now in
    let message = c.take_request.new.message.items in
    let request = c.in_ok-request.request in
    let a = c.in-Ok.ensures in
    let text = c.answer_request.new.out.items in
    let does = subst (λ m. DoesWork (g.D.Desk.shares c.args.desk.now) (g.D.Desk.shares c.answer_request.new.desk) (work hosts (request_taken m request)) text c.in-Ok.after) c.deref.ensures.value a.ok in
    answer_sent (policy hosts) (policy_filled hosts) (limit_of c.args.feed.now) (request_taken message) None None (g.D.Desk.shares c.args.desk.now) (g.D.Desk.shares c.answer_request.new.desk) (g.D.Desk.leads c.args.desk.now c.answer_request.new.desk) a.leads _ _ _ _ _ _ _ _ _ _ request
    (c.in_ok-request.ensures.takes hosts None (g.O.Sink.written c.args.sink.now))
    (g.O.Sink.written c.send.new.sink) text c.in-Ok.after does refl
    (subst (Appends (g.O.Sink.written c.args.sink.now) (g.O.Sink.written c.send.new.sink)) c.deref-in-Ok.ensures.value c.in-Ok-send.ensures.sent)

pub returns-in-Ok-send-clause-progress : goal.returns-in-Ok-send-clause-progress
returns-in-Ok-send-clause-progress g c =
    let hosts = c.args.self.now.table.now in
    let message = c.take_request.new.message.items in
    let request = c.in_ok-request.request in
    taken_more (policy hosts) (policy_filled hosts) (limit_of c.args.feed.now) (request_taken message) None None (g.D.Desk.shares c.args.desk.now) (g.D.Desk.shares c.answer_request.new.desk) (g.D.Desk.leads c.args.desk.now c.answer_request.new.desk) c.in-Ok.ensures.leads _ _ _ _ _ _ _ _ _ _ request
    (c.in_ok-request.ensures.takes hosts None (g.O.Sink.written c.args.sink.now))

pub returns-in-Err-send-clause-serves : goal.returns-in-Err-send-clause-serves
returns-in-Err-send-clause-serves g c =
    let hosts = c.args.self.now.table.now in
    let message = c.take_request.new.message.items in
    let request = c.in_ok-request.request in
    let a = c.in-Ok.ensures in
    let text = c.answer_request.new.out.items in
    let does = subst (λ m. DoesWork (g.D.Desk.shares c.args.desk.now) (g.D.Desk.shares c.answer_request.new.desk) (work hosts (request_taken m request)) text c.in-Ok.after) c.deref.ensures.value a.ok in
    answer_cut (policy hosts) (policy_filled hosts) (limit_of c.args.feed.now) (request_taken message) None None (g.D.Desk.shares c.args.desk.now) (g.D.Desk.shares c.answer_request.new.desk) (g.D.Desk.leads c.args.desk.now c.answer_request.new.desk) a.leads _ _ _ _ _ _ _ _ _ _ request
    (c.in_ok-request.ensures.takes hosts None (g.O.Sink.written c.args.sink.now))
    (g.O.Sink.written c.send.new.sink) text c.in-Ok.after does refl
    (subst (AppendsPart (g.O.Sink.written c.args.sink.now) (g.O.Sink.written c.send.new.sink)) c.deref-in-Ok.ensures.value c.in-Err-send.ensures.cut)

pub returns-in-Err-clause-serves : goal.returns-in-Err-clause-serves
returns-in-Err-clause-serves g c =
    let hosts = c.args.self.now.table.now in
    let message = c.take_request.new.message.items in
    let request = c.in_ok-request.request in
    let a = c.in-Err.ensures in
    let leaves = subst (λ m. LeavesWork (g.D.Desk.shares c.args.desk.now) (g.D.Desk.shares c.answer_request.new.desk) (work hosts (request_taken m request))) c.deref.ensures.value a.err in
    answer_abandoned (policy hosts) (policy_filled hosts) (limit_of c.args.feed.now) (request_taken message) None None (g.D.Desk.shares c.args.desk.now) (g.D.Desk.shares c.answer_request.new.desk) (g.D.Desk.leads c.args.desk.now c.answer_request.new.desk) a.leads _ _ _ _ _ _ _ _ _ _ request
    (c.in_ok-request.ensures.takes hosts None (g.O.Sink.written c.args.sink.now))
    leaves
