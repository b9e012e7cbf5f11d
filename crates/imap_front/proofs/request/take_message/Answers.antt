use Rattle.std.proofs.Common.{◌≡◌, ◌<◌, ◌+◌, ◌++◌, is_some, length, take, drop, refl, sym, ap, ◌∙◌, subst, arith, length-append}
use Rattle.wire_io.specs.Feeding.{gained}
use Rattle.wire_io.specs.Feeds.{limit_of, taken_of}
use Rattle.imap_grammar.specs.Requests.{ready}
use Rattle.imap_grammar.specs.Reaching.{Reached}
use Rattle.imap_grammar.proofs.Reaching.{message_reached, message_none}
use Rattle.front_core.proofs.Coming.{moves_in, moves_out, takes_cut, takes_ended, takes_within, end_cause, end_not_written, kept_cause, cut_prompt}
use Rattle.imap_front.specs.Imap.{imap}
use Rattle.imap_front.specs.Filled.{imap_filled}
use Rattle.imap_front.specs.Taking.{request_taken}
use Rattle.imap_front.proofs.Coming.{came}
use Rattle.imap_front.proofs.request.take_message.Goals as goal

pub returns-in-Err-clause-takes : goal.returns-in-Err-clause-takes
returns-in-Err-clause-takes g c =
    let l = is_some c.args.login in
    let text = c.args.text.now.items in
    let part = c.in-Err.ensures.cut in
    λ hosts said r left start waiting taken m.
    let moved = moves_out _ _ _ _ _ _ _ _ _ _ _ text said (take part.0 ready) m part.2 in
    takes_cut (imap hosts) (imap_filled hosts) c.args.login (limit_of c.args.feed.now) (request_taken text) _ _ _ _ _ _ _ _ _ _ text (said ++ take part.0 ready) moved (drop part.0 ready)
    (came hosts c.args.login _ _ (subst (Reached l text) (sym (cut_prompt said ready part.0)) r))

pub returns-in-Ok-clause-takes : goal.returns-in-Ok-clause-takes
returns-in-Ok-clause-takes g c =
    let l = is_some c.args.login in
    let text = c.args.text.now.items in
    let now = c.exact.new.out.items in
    let f = c.in-Ok.ensures in
    let same : gained c.new-message.result.items now ≡ now = ap (λ l. gained l now) c.new-message.ensures.items in
    λ hosts said r left start waiting taken m.
    let sent = moves_out _ _ _ _ _ _ _ _ _ _ _ text said ready m c.in_default.ensures.sent in
    let moved = moves_in _ _ _ _ _ _ _ _ _ _ _ _ _ _ text (said ++ ready) _ (text ++ now) sent f.hands f.counts (ap (λ l. text ++ l) (sym same)) in
    takes_within (imap hosts) c.args.login (request_taken c.take_last_line.new.text.items) _ _ _ _ _ _ _ _ _ _ _ _ _ f.same_limit (c.take_last_line.ensures.takes hosts (g.O.Sink.written c.send.new.sink) (said ++ ready) r left start waiting taken moved)

pub returns-in-Err-exact-clause-takes : goal.returns-in-Err-exact-clause-takes
returns-in-Err-exact-clause-takes g c =
    let l = is_some c.args.login in
    let text = c.args.text.now.items in
    let now = c.exact.new.out.items in
    let piece = gained c.new-message.result.items now in
    let come = text ++ piece in
    let f = c.in-Err-exact.ensures in
    let same : piece ≡ now = ap (λ l. gained l now) c.new-message.ensures.items in
    let joined : length come ≡ length text + length piece = length-append text piece in
    let sized : length come ≡ c.len.result + c.len-in-Err-exact.result = omega (arith, joined, ap length same, c.len.ensures, c.args.text.now.ok, c.len-in-Err-exact.ensures, c.exact.new.out.ok) in
    λ hosts said r left start waiting taken m.
    let sent = moves_out _ _ _ _ _ _ _ _ _ _ _ text said ready m c.in_default.ensures.sent in
    let moved = moves_in _ _ _ _ _ _ _ _ _ _ _ _ _ _ text (said ++ ready) piece come sent f.hands f.counts refl in
    takes_ended (imap hosts) (imap_filled hosts) c.args.login (limit_of c.args.feed.now) (request_taken text) _ _ _ _ _ _ _ _ _ _ come (said ++ ready) moved
    (λ (lt : length piece < c.args.count). came hosts c.args.login _ _ (message_reached l text c.args.count c.requires.marker (said ++ ready) piece r (omega (arith, lt))))
    (λ lt. message_none l text c.args.count c.requires.marker (said ++ ready) piece r (omega (arith, lt)))
    c.in-Err-exact.end _ c.end_of.result c.end_of.ensures sized refl
    (λ e. let h = f.below_limit.0 e in (h.0, h.1, subst (λ n. taken_of c.exact.new.self < n) f.same_limit h.2))
    (λ e. let h = f.at_limit.0 e in (h.0, h.1, h.2 ∙ f.same_limit))
    f.ended f.no_memory.0

pub returns-in-Err-exact-clause-read_cause : goal.returns-in-Err-exact-clause-read_cause
returns-in-Err-exact-clause-read_cause g c =
    end_cause c.in-Err-exact.end _ _ c.end_of.result c.end_of.ensures _ _ c.in-Err-exact.ensures.cause

pub returns-in-Err-exact-clause-write_cause : goal.returns-in-Err-exact-clause-write_cause
returns-in-Err-exact-clause-write_cause g c =
    kept_cause _ _ (end_not_written c.in-Err-exact.end _ _ c.end_of.result c.end_of.ensures) (c.in_default.ensures.cause.kept (λ e. cc))
