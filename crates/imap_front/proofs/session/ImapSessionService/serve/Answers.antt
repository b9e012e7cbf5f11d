use Rattle.std.proofs.Common.{rules, ◌≡◌, Err, subst}
use Rattle.std.specs.Io.KnownBytes.{Appends}
use Rattle.wire_io.specs.Feeds.{limit_of}
use Rattle.wire_io.specs.Sending.{AppendsPart}
use Rattle.desk.proofs.Logging.{log_nothing}
use Rattle.imap_front.specs.Imap.{imap, work, next}
use Rattle.imap_front.specs.Filled.{imap_filled}
use Rattle.imap_front.specs.Taking.{request_taken}
use Rattle.front_core.specs.Works.{DoesWork, LeavesWork}
use Rattle.front_core.proofs.Serving.{answer_sent, answer_cut, answer_abandoned, taken_more, not_taken}
use Rattle.imap_front.proofs.session.ImapSessionService.serve.Goals as goal

pub returns-in-Ok-send-clause-serves : goal.returns-in-Ok-send-clause-serves
returns-in-Ok-send-clause-serves g c =
    let hosts = c.args.self.now.table.now in
    let login = c.args.self.now.login in
    let request = c.in_ok-request.request in
    let shares = g.D.Desk.shares c.args.desk.now in
    let shares' = g.D.Desk.shares c.answer_request.new.desk in
    let a = c.in-Ok.ensures in
    let onward = c.in-Ok.onward in
    let answer = c.answer_request.new.answer.items in
    let does = subst (λ t. DoesWork shares shares' (work hosts login (request_taken t request)) answer onward.after) c.deref.ensures.value a.ok in
    let then = subst (λ t. onward.login ≡ next hosts login (request_taken t request)) c.deref.ensures.value a.login in
    answer_sent (imap hosts) (imap_filled hosts) (limit_of c.args.feed.now) (request_taken c.take_request.new.text.items) login onward.login shares shares' (g.D.Desk.leads c.args.desk.now c.answer_request.new.desk) a.leads _ _ _ _ _ _ _ _ _ _ request (c.in_ok-request.ensures.takes hosts)
    (g.O.Sink.written c.send.new.sink) answer onward.after does then
    (subst (Appends (g.O.Sink.written c.take_request.new.sink) (g.O.Sink.written c.send.new.sink)) c.deref-in-Ok.ensures.value c.in-Ok-send.ensures.sent)

pub returns-in-Err-send-clause-serves : goal.returns-in-Err-send-clause-serves
returns-in-Err-send-clause-serves g c =
    let hosts = c.args.self.now.table.now in
    let login = c.args.self.now.login in
    let request = c.in_ok-request.request in
    let shares = g.D.Desk.shares c.args.desk.now in
    let shares' = g.D.Desk.shares c.answer_request.new.desk in
    let a = c.in-Ok.ensures in
    let onward = c.in-Ok.onward in
    let answer = c.answer_request.new.answer.items in
    let does = subst (λ t. DoesWork shares shares' (work hosts login (request_taken t request)) answer onward.after) c.deref.ensures.value a.ok in
    let then = subst (λ t. onward.login ≡ next hosts login (request_taken t request)) c.deref.ensures.value a.login in
    answer_cut (imap hosts) (imap_filled hosts) (limit_of c.args.feed.now) (request_taken c.take_request.new.text.items) login onward.login shares shares' (g.D.Desk.leads c.args.desk.now c.answer_request.new.desk) a.leads _ _ _ _ _ _ _ _ _ _ request (c.in_ok-request.ensures.takes hosts)
    (g.O.Sink.written c.send.new.sink) answer onward.after does then
    (subst (AppendsPart (g.O.Sink.written c.take_request.new.sink) (g.O.Sink.written c.send.new.sink)) c.deref-in-Ok.ensures.value c.in-Err-send.ensures.cut)

pub returns-in-Err-clause-serves : goal.returns-in-Err-clause-serves
returns-in-Err-clause-serves g c =
    let hosts = c.args.self.now.table.now in
    let login = c.args.self.now.login in
    let request = c.in_ok-request.request in
    let shares = g.D.Desk.shares c.args.desk.now in
    let shares' = g.D.Desk.shares c.answer_request.new.desk in
    let a = c.in-Err.ensures in
    answer_abandoned (imap hosts) (imap_filled hosts) (limit_of c.args.feed.now) (request_taken c.take_request.new.text.items) login _ shares shares' (g.D.Desk.leads c.args.desk.now c.answer_request.new.desk) a.leads _ _ _ _ _ _ _ _ _ _ request (c.in_ok-request.ensures.takes hosts)
    (subst (λ t. LeavesWork shares shares' (work hosts login (request_taken t request))) c.deref.ensures.value a.err)

pub returns-in-Ok-send-clause-progress : goal.returns-in-Ok-send-clause-progress
returns-in-Ok-send-clause-progress g c =
    taken_more (imap c.args.self.now.table.now) (imap_filled c.args.self.now.table.now) (limit_of c.args.feed.now) (request_taken c.take_request.new.text.items) c.args.self.now.login c.in-Ok.onward.login (g.D.Desk.shares c.args.desk.now) (g.D.Desk.shares c.answer_request.new.desk) (g.D.Desk.leads c.args.desk.now c.answer_request.new.desk) c.in-Ok.ensures.leads _ _ _ _ _ _ _ _ _ _ c.in_ok-request.request (c.in_ok-request.ensures.takes c.args.self.now.table.now)

pub returns-in_err-request-clause-serves : goal.returns-in_err-request-clause-serves
returns-in_err-request-clause-serves g c =
    let end = c.in_err-request.field-0.0 in
    let is : c.from_residual.result ≡ Err end = search rules in
    not_taken (imap c.args.self.now.table.now) (imap_filled c.args.self.now.table.now) (limit_of c.args.feed.now) (request_taken c.take_request.new.text.items) c.args.self.now.login _ (g.D.Desk.shares c.args.desk.now) (g.D.Desk.shares c.args.desk.now) (g.D.Desk.leads c.args.desk.now c.args.desk.now) (g.met.D.Desk.leads_itself c.args.desk.now) _ _ _ _ _ _ _ _ _ _ end c.from_residual.result is (log_nothing (g.D.Desk.shares c.args.desk.now))
    (c.in_err-request.ensures.takes c.args.self.now.table.now)
