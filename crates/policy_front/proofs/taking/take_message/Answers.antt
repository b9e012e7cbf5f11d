use Rattle.std.proofs.Common.{rules, ◌≡◌, ◌<◌, ◌+◌, ◌++◌, [], length, refl, sym, ap, ◌∙◌, subst, arith, Some, Ok, Err, length-append, append-nil}
use Rattle.wire_io.specs.Feeding.{gained}
use Rattle.wire_io.specs.Feeds.{limit_of, taken_of}
use Rattle.front_core.proofs.Coming.{moves_in, takes_whole, takes_ended, end_cause, end_not_written}
use Rattle.policy_front.specs.Policy.{policy}
use Rattle.policy_front.specs.Requests.{request_of, whole}
use Rattle.policy_front.specs.Texts.{delivers, asked_of, reading_of}
use Rattle.policy_front.specs.Taking.{request_taken}
use Rattle.policy_front.specs.Filled.{policy_filled}
use Rattle.policy_front.proofs.Wholes.{came_text, came_message, message_less, message_all, whole_text, whole_alone}
use Rattle.policy_front.proofs.taking.take_message.Goals as goal

pub returns-in-Ok-exact-clause-takes : goal.returns-in-Ok-exact-clause-takes
returns-in-Ok-exact-clause-takes g c =
    let text = c.args.text.now in
    let own = c.in-Deliver in
    let request = c.in-Ok.request in
    let reads : reading_of text ≡ Ok (delivers own.account.now own.mailbox.now own.octets own.flags) = c.in-Ok.ensures.ok ∙ ap (λ q. Ok (asked_of q)) own.is in
    let now = c.exact.new.out.items in
    let w = c.in-Ok-exact.ensures in
    let same : gained c.args.message.now.items now ≡ now = ap (λ l. gained l now) c.requires.empty in
    let all : length now ≡ own.octets = sym (ap length same) ∙ w.all.0 refl in
    λ hosts login written left start waiting taken m.
    let moved = moves_in _ _ _ _ _ _ _ _ _ _ _ _ _ _ text [] _ (text ++ now) m w.hands w.counts (ap (λ l. text ++ l) (sym same)) in
    takes_whole (policy hosts) (policy_filled hosts) login (limit_of c.args.feed.now) (request_taken now) _ _ _ _ _ _ _ _ _ _ (text ++ now) [] moved (Ok request)
    (came_message hosts login text c.requires.text own.account.now own.mailbox.now own.octets own.flags reads now (omega (arith, all)))
    (message_all hosts login text c.requires.text own.account.now own.mailbox.now own.octets own.flags reads now all ∙ ap (λ q. Some (request_taken now (Ok q))) (sym own.is))

pub returns-in-Err-exact-clause-takes : goal.returns-in-Err-exact-clause-takes
returns-in-Err-exact-clause-takes g c =
    let text = c.args.text.now in
    let own = c.in-Deliver in
    let request = c.in-Ok.request in
    let reads : reading_of text ≡ Ok (delivers own.account.now own.mailbox.now own.octets own.flags) = c.in-Ok.ensures.ok ∙ ap (λ q. Ok (asked_of q)) own.is in
    let now = c.exact.new.out.items in
    let piece = gained c.args.message.now.items now in
    let come = text ++ piece in
    let f = c.in-Err-exact.ensures in
    let same : piece ≡ now = ap (λ l. gained l now) c.requires.empty in
    let sized : length come ≡ length text + c.len.result = omega (arith, length-append text piece, ap length same, c.len.ensures, c.exact.new.out.ok) in
    λ hosts login written left start waiting taken m.
    let moved = moves_in _ _ _ _ _ _ _ _ _ _ _ _ _ _ text [] piece come m f.hands f.counts refl in
    takes_ended (policy hosts) (policy_filled hosts) login (limit_of c.args.feed.now) (request_taken now) _ _ _ _ _ _ _ _ _ _ come [] moved
    (λ (lt : length piece < own.octets). came_message hosts login text c.requires.text own.account.now own.mailbox.now own.octets own.flags reads piece (omega (arith, lt)))
    (λ lt. message_less hosts login text c.requires.text own.account.now own.mailbox.now own.octets own.flags reads piece lt)
    c.in-Err-exact.end _ c.end_of.result c.end_of.ensures sized refl
    (λ e. let h = f.below_limit.0 e in (h.0, h.1, subst (λ n. taken_of c.exact.new.self < n) f.same_limit h.2))
    (λ e. let h = f.at_limit.0 e in (h.0, h.1, h.2 ∙ f.same_limit))
    f.ended f.no_memory.0

pub returns-in-Err-exact-clause-read_cause : goal.returns-in-Err-exact-clause-read_cause
returns-in-Err-exact-clause-read_cause g c =
    end_cause c.in-Err-exact.end _ _ c.end_of.result c.end_of.ensures _ _ c.in-Err-exact.ensures.cause

pub returns-in-Err-exact-clause-not_written : goal.returns-in-Err-exact-clause-not_written
returns-in-Err-exact-clause-not_written g c =
    end_not_written c.in-Err-exact.end _ _ c.end_of.result c.end_of.ensures

pub returns-in_default : goal.returns-in_default
returns-in_default g c =
    let text = c.args.text.now in
    let request = c.in-Ok.request in
    let message = c.args.message.now.items in
    record {
      takes = λ hosts login written left start waiting taken m.
          takes_whole (policy hosts) (policy_filled hosts) login (limit_of c.args.feed.now) (request_taken message) _ _ _ _ _ _ _ _ _ _ text [] m (Ok request)
          (came_text hosts login text c.requires.text.first c.requires.text.within)
          (ap whole (sym (append-nil text)) ∙ whole_text text c.requires.text [] ∙ ap (λ q. request_of q []) c.in-Ok.ensures.ok ∙ whole_alone request message c.in_default.not-Deliver);
      small = search rules;
      same_source = refl;
      same_limit = refl;
      within = search rules;
      read_cause = search rules;
      not_written = search rules;
    }

pub returns-in-Err-clause-takes : goal.returns-in-Err-clause-takes
returns-in-Err-clause-takes g c =
    let text = c.args.text.now in
    let message = c.args.message.now.items in
    λ hosts login written left start waiting taken m.
    takes_whole (policy hosts) (policy_filled hosts) login (limit_of c.args.feed.now) (request_taken message) _ _ _ _ _ _ _ _ _ _ text [] m (Err c.in-Err.fault)
    (came_text hosts login text c.requires.text.first c.requires.text.within)
    (ap whole (sym (append-nil text)) ∙ whole_text text c.requires.text [] ∙ ap (λ q. request_of q []) c.in-Err.ensures.err)
