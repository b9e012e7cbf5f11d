use Rattle.std.proofs.Common.{◌≡◌, Some, ◌<◌, ◌+◌, ◌-◌, ◌++◌, [], is_some, length, take, drop, refl, sym, ap, ◌∙◌, subst, arith, Ok, Err, length-append}
use Rattle.wire_io.specs.Feeding.{gained}
use Rattle.wire_io.specs.Feeds.{limit_of, taken_of}
use Rattle.wire_io.specs.Requests.{end_at}
use Rattle.imap_grammar.specs.declared.command.CommandFault.TheVariants.{TooLong}
use Rattle.imap_grammar.specs.Progressing.{max_text, progress_in}
use Rattle.imap_grammar.specs.Requests.{command, ready, whole_at}
use Rattle.imap_grammar.specs.Reaching.{Reached, AwaitsLine}
use Rattle.imap_grammar.proofs.Reaching.{start, octets_reached, octets_none, octets_line}
use Rattle.imap_front.specs.declared.request.Taken.TheVariants.{Command, Fault}
use Rattle.front_core.proofs.Coming.{moves_begun, moves_in, moves_out, takes_whole, takes_abandoned, takes_cut, takes_ended, takes_from, end_cause, end_not_written, kept_cause, cause_from, same_cause, cut_prompt}
use Rattle.imap_front.specs.Imap.{imap}
use Rattle.imap_front.specs.Filled.{imap_filled}
use Rattle.imap_front.specs.Taking.{request_taken}
use Rattle.imap_front.proofs.Coming.{came}
use Rattle.imap_front.proofs.Lining.{part_of, part_less, part_long, more_of, literal_of, message_of, command_of, fault_of, grown}
use Rattle.imap_front.proofs.request.take_request.Goals as goal

pub loop-end-init : goal.loop-end-init
loop-end-init g c =
    let none = c.clear.ensures.items in
    record {
      said = [];
      moves = moves_begun _ _ _ _ _ c.clear.new.self.items none;
      awaits = subst (λ t. AwaitsLine (is_some c.args.login) t []) (sym none) (start (is_some c.args.login));
      same_source = refl;
      same_limit = refl;
      reads = refl;
      writes = refl;
    }

pub overflow_sub-room : goal.overflow_sub-room
overflow_sub-room g c =
    omega (arith, c.len-room.ensures, c.loop-end.text.ok, c.loop-end.invariant.awaits.within)

pub returns-in-Ok-TooLong-clause-takes : goal.returns-in-Ok-TooLong-clause-takes
returns-in-Ok-TooLong-clause-takes g c =
    let i = c.loop-end.invariant in
    let l = is_some c.args.login in
    let text = c.loop-end.text.items in
    let said = i.said in
    let now = c.line.new.out.items in
    let piece = gained text now in
    let room = 16384 - c.len-room.result in
    let fits : length text + room ≡ max_text = omega (arith, c.len-room.ensures, c.loop-end.text.ok, i.awaits.within) in
    let w = c.in-Ok-TooLong.ensures in
    let long = w.too_long.0 (ap Ok c.in-Ok-TooLong.field-0-is) in
    let moved = moves_in _ _ _ _ _ _ _ _ _ _ _ _ _ _ text said piece now i.moves w.hands w.counts w.grows in
    λ hosts. takes_whole (imap hosts) (imap_filled hosts) c.args.login (limit_of c.args.feed.now) (request_taken now) _ _ _ _ _ _ _ _ _ _ now said moved (Fault TooLong) (came hosts c.args.login _ _ (part_of l text said piece now room i.awaits w.grows fits long.0 w.most)) (part_long l text said piece now room i.awaits w.grows fits long)

pub returns-in-Err-clause-takes : goal.returns-in-Err-clause-takes
returns-in-Err-clause-takes g c =
    let i = c.loop-end.invariant in
    let l = is_some c.args.login in
    let text = c.loop-end.text.items in
    let said = i.said in
    let now = c.line.new.out.items in
    let piece = gained text now in
    let room = 16384 - c.len-room.result in
    let fits : length text + room ≡ max_text = omega (arith, c.len-room.ensures, c.loop-end.text.ok, i.awaits.within) in
    let w = c.in-Err.ensures in
    let limit : limit_of c.line.new.self ≡ limit_of c.args.feed.now = w.same_limit ∙ i.same_limit in
    let sized : length now ≡ c.len.result = omega (arith, c.len.ensures, c.line.new.out.ok) in
    let is : c.end_of.result ≡ end_at c.in-Err.end _ c.len.result = c.end_of.ensures ∙ ap (λ n. end_at c.in-Err.end n c.len.result) c.at-at.ensures in
    let moved = moves_in _ _ _ _ _ _ _ _ _ _ _ _ _ _ text said piece now i.moves w.hands w.counts w.grows in
    λ hosts. takes_ended (imap hosts) (imap_filled hosts) c.args.login (limit_of c.args.feed.now) (request_taken now) _ _ _ _ _ _ _ _ _ _ now said moved (λ begun. came hosts c.args.login _ _ (part_of l text said piece now room i.awaits w.grows fits begun.0 w.most)) (part_less l text said piece now room i.awaits w.grows fits) c.in-Err.end c.len.result c.end_of.result is sized refl
    (λ e. let h = w.below_limit.0 e in (h.0, h.1, subst (λ n. taken_of c.line.new.self < n) limit h.2))
    (λ e. let h = w.at_limit.0 e in (h.0, h.1, h.2 ∙ limit))
    w.ended w.no_memory.0

pub returns-in-Ok-Ok-Whole-clause-takes : goal.returns-in-Ok-Ok-Whole-clause-takes
returns-in-Ok-Ok-Whole-clause-takes g c =
    let i = c.loop-end.invariant in
    let l = is_some c.args.login in
    let text = c.loop-end.text.items in
    let said = i.said in
    let now = c.line.new.out.items in
    let piece = gained text now in
    let room = 16384 - c.len-room.result in
    let fits : length text + room ≡ max_text = omega (arith, c.len-room.ensures, c.loop-end.text.ok, i.awaits.within) in
    let w = c.in-Ok-Whole.ensures in
    let whole = w.whole.0 (ap Ok c.in-Ok-Whole.field-0-is) in
    let read = c.in-Ok-Ok-Whole in
    let is : progress_in l now ≡ Ok read.field-0-0 = ap (progress_in l) (sym c.deref.ensures.value) ∙ sym read.ensures.is ∙ read.field-0-is in
    let moved = moves_in _ _ _ _ _ _ _ _ _ _ _ _ _ _ text said piece now i.moves w.hands w.counts w.grows in
    let own = command_of l text said piece now room i.awaits w.grows fits whole w.most read.command read.tag (is ∙ ap Ok read.field-0-0-is) in
    λ hosts. takes_whole (imap hosts) (imap_filled hosts) c.args.login (limit_of c.args.feed.now) (request_taken now) _ _ _ _ _ _ _ _ _ _ now said moved (Command read.tag read.command c.new.result) (came hosts c.args.login _ _ own.0)
    (own.1 ∙ ap (λ m. Some (command (take read.tag now) read.command m)) (sym c.new.ensures.items))

pub loop-end-smaller-in-Ok-Ok-More : goal.loop-end-smaller-in-Ok-Ok-More
loop-end-smaller-in-Ok-Ok-More g c =
    let i = c.loop-end.invariant in
    let l = is_some c.args.login in
    let text = c.loop-end.text.items in
    let said = i.said in
    let now = c.line.new.out.items in
    let piece = gained text now in
    let room = 16384 - c.len-room.result in
    let fits : length text + room ≡ max_text = omega (arith, c.len-room.ensures, c.loop-end.text.ok, i.awaits.within) in
    let w = c.in-Ok-Whole.ensures in
    let whole = w.whole.0 (ap Ok c.in-Ok-Whole.field-0-is) in
    let read = c.in-Ok-Ok-More in
    let is : progress_in l now ≡ Ok read.field-0-0 = ap (progress_in l) (sym c.deref.ensures.value) ∙ sym read.ensures.is ∙ read.field-0-is in
    let next = more_of l text said piece now room i.awaits w.grows fits whole w.most read.field-0-0-0 (is ∙ ap Ok read.field-0-0-is) in
    let more = grown l text said piece now room i.awaits w.grows fits whole w.most in
    omega (arith, more, next.within)

pub loop-end-preserved-in-Ok-Ok-More : goal.loop-end-preserved-in-Ok-Ok-More
loop-end-preserved-in-Ok-Ok-More g c =
    let i = c.loop-end.invariant in
    let l = is_some c.args.login in
    let text = c.loop-end.text.items in
    let said = i.said in
    let now = c.line.new.out.items in
    let piece = gained text now in
    let room = 16384 - c.len-room.result in
    let fits : length text + room ≡ max_text = omega (arith, c.len-room.ensures, c.loop-end.text.ok, i.awaits.within) in
    let w = c.in-Ok-Whole.ensures in
    let whole = w.whole.0 (ap Ok c.in-Ok-Whole.field-0-is) in
    let read = c.in-Ok-Ok-More in
    let is : progress_in l now ≡ Ok read.field-0-0 = ap (progress_in l) (sym c.deref.ensures.value) ∙ sym read.ensures.is ∙ read.field-0-is in
    let moved = moves_in _ _ _ _ _ _ _ _ _ _ _ _ _ _ text said piece now i.moves w.hands w.counts w.grows in
    record {
      said = said;
      moves = moved;
      awaits = more_of l text said piece now room i.awaits w.grows fits whole w.most read.field-0-0-0 (is ∙ ap Ok read.field-0-0-is);
      same_source = w.same_source ∙ i.same_source;
      same_limit = w.same_limit ∙ i.same_limit;
      reads = w.cause.kept (λ e. cc) ∙ i.reads;
      writes = i.writes;
    }

pub returns-in-Err-send-clause-takes : goal.returns-in-Err-send-clause-takes
returns-in-Err-send-clause-takes g c =
    let i = c.loop-end.invariant in
    let l = is_some c.args.login in
    let text = c.loop-end.text.items in
    let said = i.said in
    let now = c.line.new.out.items in
    let piece = gained text now in
    let room = 16384 - c.len-room.result in
    let fits : length text + room ≡ max_text = omega (arith, c.len-room.ensures, c.loop-end.text.ok, i.awaits.within) in
    let w = c.in-Ok-Whole.ensures in
    let whole = w.whole.0 (ap Ok c.in-Ok-Whole.field-0-is) in
    let read = c.in-Ok-Ok-Literal in
    let is : progress_in l now ≡ Ok read.field-0-0 = ap (progress_in l) (sym c.deref.ensures.value) ∙ sym read.ensures.is ∙ read.field-0-is in
    let moved = moves_in _ _ _ _ _ _ _ _ _ _ _ _ _ _ text said piece now i.moves w.hands w.counts w.grows in
    let part = c.in-Err-send.ensures.cut in
    let r = literal_of l text said piece now room i.awaits w.grows fits whole w.most read.count (is ∙ ap Ok read.field-0-0-is) in
    let sent = moves_out _ _ _ _ _ _ _ _ _ _ _ now said (take part.0 ready) moved part.2 in
    λ hosts. takes_cut (imap hosts) (imap_filled hosts) c.args.login (limit_of c.args.feed.now) (request_taken now) _ _ _ _ _ _ _ _ _ _ now (said ++ take part.0 ready) sent (drop part.0 ready) (came hosts c.args.login _ _ (subst (Reached l now) (sym (cut_prompt said ready part.0)) r))

pub returns-in-Err-exact-clause-takes : goal.returns-in-Err-exact-clause-takes
returns-in-Err-exact-clause-takes g c =
    let i = c.loop-end.invariant in
    let l = is_some c.args.login in
    let text = c.loop-end.text.items in
    let said = i.said in
    let now = c.line.new.out.items in
    let piece = gained text now in
    let room = 16384 - c.len-room.result in
    let fits : length text + room ≡ max_text = omega (arith, c.len-room.ensures, c.loop-end.text.ok, i.awaits.within) in
    let w = c.in-Ok-Whole.ensures in
    let whole = w.whole.0 (ap Ok c.in-Ok-Whole.field-0-is) in
    let read = c.in-Ok-Ok-Literal in
    let is : progress_in l now ≡ Ok read.field-0-0 = ap (progress_in l) (sym c.deref.ensures.value) ∙ sym read.ensures.is ∙ read.field-0-is in
    let moved = moves_in _ _ _ _ _ _ _ _ _ _ _ _ _ _ text said piece now i.moves w.hands w.counts w.grows in
    let r = literal_of l text said piece now room i.awaits w.grows fits whole w.most read.count (is ∙ ap Ok read.field-0-0-is) in
    let sent = moves_out _ _ _ _ _ _ _ _ _ _ _ now said ready moved c.in_default.ensures.sent in
    let last = c.exact.new.out.items in
    let octets = gained now last in
    let f = c.in-Err-exact.ensures in
    let own = c.len-in-Err-exact.result in
    let end = c.end_of-in-Err-exact in
    let marked = is ∙ ap Ok read.field-0-0-is in
    let limit : limit_of c.exact.new.self ≡ limit_of c.args.feed.now = f.same_limit ∙ w.same_limit ∙ i.same_limit in
    let sized : length last ≡ own = omega (arith, c.len-in-Err-exact.ensures, c.exact.new.out.ok) in
    let is_end : end.result ≡ end_at c.in-Err-exact.end _ own = end.ensures ∙ ap (λ n. end_at c.in-Err-exact.end n own) c.at-at.ensures in
    let come = moves_in _ _ _ _ _ _ _ _ _ _ _ _ _ _ now (said ++ ready) octets last sent f.hands f.counts f.grows in
    λ hosts. takes_ended (imap hosts) (imap_filled hosts) c.args.login (limit_of c.args.feed.now) (request_taken last) _ _ _ _ _ _ _ _ _ _ last (said ++ ready) come
    (λ (lt : length octets < read.count). came hosts c.args.login _ _ (subst (λ t. Reached l t (said ++ ready)) (sym f.grows) (octets_reached l now read.count marked (said ++ ready) octets r (omega (arith, lt)))))
    (λ lt. ap (whole_at l) f.grows ∙ octets_none l now read.count marked (said ++ ready) octets r lt)
    c.in-Err-exact.end own end.result is_end sized refl
    (λ e. let h = f.below_limit.0 e in (h.0, h.1, subst (λ n. taken_of c.exact.new.self < n) limit h.2))
    (λ e. let h = f.at_limit.0 e in (h.0, h.1, h.2 ∙ limit))
    f.ended f.no_memory.0

pub loop-end-smaller : goal.loop-end-smaller
loop-end-smaller g c =
    let i = c.loop-end.invariant in
    let l = is_some c.args.login in
    let text = c.loop-end.text.items in
    let said = i.said in
    let now = c.line.new.out.items in
    let piece = gained text now in
    let room = 16384 - c.len-room.result in
    let fits : length text + room ≡ max_text = omega (arith, c.len-room.ensures, c.loop-end.text.ok, i.awaits.within) in
    let w = c.in-Ok-Whole.ensures in
    let whole = w.whole.0 (ap Ok c.in-Ok-Whole.field-0-is) in
    let read = c.in-Ok-Ok-Literal in
    let is : progress_in l now ≡ Ok read.field-0-0 = ap (progress_in l) (sym c.deref.ensures.value) ∙ sym read.ensures.is ∙ read.field-0-is in
    let moved = moves_in _ _ _ _ _ _ _ _ _ _ _ _ _ _ text said piece now i.moves w.hands w.counts w.grows in
    let r = literal_of l text said piece now room i.awaits w.grows fits whole w.most read.count (is ∙ ap Ok read.field-0-0-is) in
    let sent = moves_out _ _ _ _ _ _ _ _ _ _ _ now said ready moved c.in_default.ensures.sent in
    let last = c.exact.new.out.items in
    let octets = gained now last in
    let f = c.in_default-exact.ensures in
    let marked = is ∙ ap Ok read.field-0-0-is in
    let full : length octets ≡ read.count = f.all.0 refl in
    let next : AwaitsLine l last (said ++ ready) = subst (λ t. AwaitsLine l t (said ++ ready)) (sym f.grows) (octets_line l now read.count marked (said ++ ready) octets r full) in
    let more = grown l text said piece now room i.awaits w.grows fits whole w.most in
    let joined : length last ≡ length now + length octets = ap length f.grows ∙ length-append now octets in
    omega (arith, more, joined, next.within)

pub loop-end-preserved : goal.loop-end-preserved
loop-end-preserved g c =
    let i = c.loop-end.invariant in
    let l = is_some c.args.login in
    let text = c.loop-end.text.items in
    let said = i.said in
    let now = c.line.new.out.items in
    let piece = gained text now in
    let room = 16384 - c.len-room.result in
    let fits : length text + room ≡ max_text = omega (arith, c.len-room.ensures, c.loop-end.text.ok, i.awaits.within) in
    let w = c.in-Ok-Whole.ensures in
    let whole = w.whole.0 (ap Ok c.in-Ok-Whole.field-0-is) in
    let read = c.in-Ok-Ok-Literal in
    let is : progress_in l now ≡ Ok read.field-0-0 = ap (progress_in l) (sym c.deref.ensures.value) ∙ sym read.ensures.is ∙ read.field-0-is in
    let moved = moves_in _ _ _ _ _ _ _ _ _ _ _ _ _ _ text said piece now i.moves w.hands w.counts w.grows in
    let r = literal_of l text said piece now room i.awaits w.grows fits whole w.most read.count (is ∙ ap Ok read.field-0-0-is) in
    let sent = moves_out _ _ _ _ _ _ _ _ _ _ _ now said ready moved c.in_default.ensures.sent in
    let last = c.exact.new.out.items in
    let octets = gained now last in
    let f = c.in_default-exact.ensures in
    let marked = is ∙ ap Ok read.field-0-0-is in
    let full : length octets ≡ read.count = f.all.0 refl in
    let next : AwaitsLine l last (said ++ ready) = subst (λ t. AwaitsLine l t (said ++ ready)) (sym f.grows) (octets_line l now read.count marked (said ++ ready) octets r full) in
    record {
      said = said ++ ready;
      moves = moves_in _ _ _ _ _ _ _ _ _ _ _ _ _ _ now (said ++ ready) octets last sent f.hands f.counts f.grows;
      awaits = next;
      same_source = f.same_source ∙ w.same_source ∙ i.same_source;
      same_limit = f.same_limit ∙ w.same_limit ∙ i.same_limit;
      reads = f.cause.kept (λ e. cc) ∙ w.cause.kept (λ e. cc) ∙ i.reads;
      writes = c.in_default.ensures.cause.kept (λ e. cc) ∙ i.writes;
    }

pub returns-in-Ok-Ok-Message-clause-takes : goal.returns-in-Ok-Ok-Message-clause-takes
returns-in-Ok-Ok-Message-clause-takes g c =
    let i = c.loop-end.invariant in
    let l = is_some c.args.login in
    let text = c.loop-end.text.items in
    let said = i.said in
    let now = c.line.new.out.items in
    let piece = gained text now in
    let room = 16384 - c.len-room.result in
    let fits : length text + room ≡ max_text = omega (arith, c.len-room.ensures, c.loop-end.text.ok, i.awaits.within) in
    let w = c.in-Ok-Whole.ensures in
    let whole = w.whole.0 (ap Ok c.in-Ok-Whole.field-0-is) in
    let read = c.in-Ok-Ok-Message in
    let is : progress_in l now ≡ Ok read.field-0-0 = ap (progress_in l) (sym c.deref.ensures.value) ∙ sym read.ensures.is ∙ read.field-0-is in
    let moved = moves_in _ _ _ _ _ _ _ _ _ _ _ _ _ _ text said piece now i.moves w.hands w.counts w.grows in
    let r = message_of l text said piece now room i.awaits w.grows fits whole w.most read.count (is ∙ ap Ok read.field-0-0-is) in
    λ hosts. takes_from (imap hosts) c.args.login (request_taken c.take_message.new.text.items) _ _ _ _ _ _ _ _ _ _ c.at-at.result _ _ _ now said c.take_message.result (w.same_limit ∙ i.same_limit) c.at-at.ensures (c.take_message.ensures.takes hosts said r)
    _ _ _ _ moved

pub returns-in-Ok-Err-clause-takes : goal.returns-in-Ok-Err-clause-takes
returns-in-Ok-Err-clause-takes g c =
    let i = c.loop-end.invariant in
    let l = is_some c.args.login in
    let text = c.loop-end.text.items in
    let said = i.said in
    let now = c.line.new.out.items in
    let piece = gained text now in
    let room = 16384 - c.len-room.result in
    let fits : length text + room ≡ max_text = omega (arith, c.len-room.ensures, c.loop-end.text.ok, i.awaits.within) in
    let w = c.in-Ok-Whole.ensures in
    let whole = w.whole.0 (ap Ok c.in-Ok-Whole.field-0-is) in
    let read = c.in-Ok-Err in
    let is : progress_in l now ≡ Err read.fault = ap (progress_in l) (sym c.deref.ensures.value) ∙ sym read.ensures.is ∙ read.field-0-is in
    let moved = moves_in _ _ _ _ _ _ _ _ _ _ _ _ _ _ text said piece now i.moves w.hands w.counts w.grows in
    let own = fault_of l text said piece now room i.awaits w.grows fits whole w.most read.fault is in
    λ hosts. takes_whole (imap hosts) (imap_filled hosts) c.args.login (limit_of c.args.feed.now) (request_taken now) _ _ _ _ _ _ _ _ _ _ now said moved (Fault read.fault) (came hosts c.args.login _ _ own.0) own.1

pub returns-in-Err-progress_of-clause-takes : goal.returns-in-Err-progress_of-clause-takes
returns-in-Err-progress_of-clause-takes g c =
    let i = c.loop-end.invariant in
    let l = is_some c.args.login in
    let text = c.loop-end.text.items in
    let said = i.said in
    let now = c.line.new.out.items in
    let piece = gained text now in
    let room = 16384 - c.len-room.result in
    let fits : length text + room ≡ max_text = omega (arith, c.len-room.ensures, c.loop-end.text.ok, i.awaits.within) in
    let w = c.in-Ok-Whole.ensures in
    let whole = w.whole.0 (ap Ok c.in-Ok-Whole.field-0-is) in
    let moved = moves_in _ _ _ _ _ _ _ _ _ _ _ _ _ _ text said piece now i.moves w.hands w.counts w.grows in
    λ hosts. takes_abandoned (imap hosts) (imap_filled hosts) c.args.login (limit_of c.args.feed.now) (request_taken now) _ _ _ _ _ _ _ _ _ _ now said moved text piece w.grows (came hosts c.args.login _ _ i.awaits.reached)

pub returns-in-Ok-TooLong-clause-same_source : goal.returns-in-Ok-TooLong-clause-same_source
returns-in-Ok-TooLong-clause-same_source g c =
    c.in-Ok-TooLong.ensures.same_source ∙ c.loop-end.invariant.same_source

pub returns-in-Ok-TooLong-clause-same_limit : goal.returns-in-Ok-TooLong-clause-same_limit
returns-in-Ok-TooLong-clause-same_limit g c =
    c.in-Ok-TooLong.ensures.same_limit ∙ c.loop-end.invariant.same_limit

pub returns-in-Ok-TooLong-clause-read_cause : goal.returns-in-Ok-TooLong-clause-read_cause
returns-in-Ok-TooLong-clause-read_cause g c =
    kept_cause _ _ (λ e. cc) (c.in-Ok-TooLong.ensures.cause.kept (λ e. cc) ∙ c.loop-end.invariant.reads)

pub returns-in-Ok-TooLong-clause-write_cause : goal.returns-in-Ok-TooLong-clause-write_cause
returns-in-Ok-TooLong-clause-write_cause g c =
    kept_cause _ _ (λ e. cc) c.loop-end.invariant.writes

pub returns-in-Ok-Ok-Whole-clause-same_source : goal.returns-in-Ok-Ok-Whole-clause-same_source
returns-in-Ok-Ok-Whole-clause-same_source g c =
    c.in-Ok-Whole.ensures.same_source ∙ c.loop-end.invariant.same_source

pub returns-in-Ok-Ok-Whole-clause-same_limit : goal.returns-in-Ok-Ok-Whole-clause-same_limit
returns-in-Ok-Ok-Whole-clause-same_limit g c =
    c.in-Ok-Whole.ensures.same_limit ∙ c.loop-end.invariant.same_limit

pub returns-in-Ok-Ok-Whole-clause-read_cause : goal.returns-in-Ok-Ok-Whole-clause-read_cause
returns-in-Ok-Ok-Whole-clause-read_cause g c =
    kept_cause _ _ (λ e. cc) (c.in-Ok-Whole.ensures.cause.kept (λ e. cc) ∙ c.loop-end.invariant.reads)

pub returns-in-Ok-Ok-Whole-clause-write_cause : goal.returns-in-Ok-Ok-Whole-clause-write_cause
returns-in-Ok-Ok-Whole-clause-write_cause g c =
    kept_cause _ _ (λ e. cc) c.loop-end.invariant.writes

pub returns-in-Ok-Err-clause-same_source : goal.returns-in-Ok-Err-clause-same_source
returns-in-Ok-Err-clause-same_source g c =
    c.in-Ok-Whole.ensures.same_source ∙ c.loop-end.invariant.same_source

pub returns-in-Ok-Err-clause-same_limit : goal.returns-in-Ok-Err-clause-same_limit
returns-in-Ok-Err-clause-same_limit g c =
    c.in-Ok-Whole.ensures.same_limit ∙ c.loop-end.invariant.same_limit

pub returns-in-Ok-Err-clause-read_cause : goal.returns-in-Ok-Err-clause-read_cause
returns-in-Ok-Err-clause-read_cause g c =
    kept_cause _ _ (λ e. cc) (c.in-Ok-Whole.ensures.cause.kept (λ e. cc) ∙ c.loop-end.invariant.reads)

pub returns-in-Ok-Err-clause-write_cause : goal.returns-in-Ok-Err-clause-write_cause
returns-in-Ok-Err-clause-write_cause g c =
    kept_cause _ _ (λ e. cc) c.loop-end.invariant.writes

pub returns-in-Err-progress_of-clause-same_source : goal.returns-in-Err-progress_of-clause-same_source
returns-in-Err-progress_of-clause-same_source g c =
    c.in-Ok-Whole.ensures.same_source ∙ c.loop-end.invariant.same_source

pub returns-in-Err-progress_of-clause-same_limit : goal.returns-in-Err-progress_of-clause-same_limit
returns-in-Err-progress_of-clause-same_limit g c =
    c.in-Ok-Whole.ensures.same_limit ∙ c.loop-end.invariant.same_limit

pub returns-in-Err-progress_of-clause-read_cause : goal.returns-in-Err-progress_of-clause-read_cause
returns-in-Err-progress_of-clause-read_cause g c =
    kept_cause _ _ (λ e. cc) (c.in-Ok-Whole.ensures.cause.kept (λ e. cc) ∙ c.loop-end.invariant.reads)

pub returns-in-Err-progress_of-clause-write_cause : goal.returns-in-Err-progress_of-clause-write_cause
returns-in-Err-progress_of-clause-write_cause g c =
    kept_cause _ _ (λ e. cc) c.loop-end.invariant.writes

pub returns-in-Err-clause-same_source : goal.returns-in-Err-clause-same_source
returns-in-Err-clause-same_source g c =
    c.in-Err.ensures.same_source ∙ c.loop-end.invariant.same_source

pub returns-in-Err-clause-same_limit : goal.returns-in-Err-clause-same_limit
returns-in-Err-clause-same_limit g c =
    c.in-Err.ensures.same_limit ∙ c.loop-end.invariant.same_limit

pub returns-in-Err-clause-read_cause : goal.returns-in-Err-clause-read_cause
returns-in-Err-clause-read_cause g c =
    cause_from _ _ _ c.loop-end.invariant.reads (end_cause c.in-Err.end _ _ c.end_of.result c.end_of.ensures _ _ c.in-Err.ensures.cause)

pub returns-in-Err-clause-write_cause : goal.returns-in-Err-clause-write_cause
returns-in-Err-clause-write_cause g c =
    kept_cause _ _ (end_not_written c.in-Err.end _ _ c.end_of.result c.end_of.ensures) c.loop-end.invariant.writes

pub returns-in-Err-send-clause-same_source : goal.returns-in-Err-send-clause-same_source
returns-in-Err-send-clause-same_source g c =
    c.in-Ok-Whole.ensures.same_source ∙ c.loop-end.invariant.same_source

pub returns-in-Err-send-clause-same_limit : goal.returns-in-Err-send-clause-same_limit
returns-in-Err-send-clause-same_limit g c =
    c.in-Ok-Whole.ensures.same_limit ∙ c.loop-end.invariant.same_limit

pub returns-in-Err-send-clause-read_cause : goal.returns-in-Err-send-clause-read_cause
returns-in-Err-send-clause-read_cause g c =
    kept_cause _ _ (λ e. cc) (c.in-Ok-Whole.ensures.cause.kept (λ e. cc) ∙ c.loop-end.invariant.reads)

pub returns-in-Err-send-clause-write_cause : goal.returns-in-Err-send-clause-write_cause
returns-in-Err-send-clause-write_cause g c =
    cause_from _ _ _ c.loop-end.invariant.writes (same_cause _ _ (λ e. refl) (λ e. refl) c.in-Err-send.ensures.cause)

pub returns-in-Err-exact-clause-same_source : goal.returns-in-Err-exact-clause-same_source
returns-in-Err-exact-clause-same_source g c =
    c.in-Err-exact.ensures.same_source ∙ c.in-Ok-Whole.ensures.same_source ∙ c.loop-end.invariant.same_source

pub returns-in-Err-exact-clause-same_limit : goal.returns-in-Err-exact-clause-same_limit
returns-in-Err-exact-clause-same_limit g c =
    c.in-Err-exact.ensures.same_limit ∙ c.in-Ok-Whole.ensures.same_limit ∙ c.loop-end.invariant.same_limit

pub returns-in-Err-exact-clause-read_cause : goal.returns-in-Err-exact-clause-read_cause
returns-in-Err-exact-clause-read_cause g c =
    cause_from _ _ _ (c.in-Ok-Whole.ensures.cause.kept (λ e. cc) ∙ c.loop-end.invariant.reads) (end_cause c.in-Err-exact.end _ _ c.end_of-in-Err-exact.result c.end_of-in-Err-exact.ensures _ _ c.in-Err-exact.ensures.cause)

pub returns-in-Err-exact-clause-write_cause : goal.returns-in-Err-exact-clause-write_cause
returns-in-Err-exact-clause-write_cause g c =
    kept_cause _ _ (end_not_written c.in-Err-exact.end _ _ c.end_of-in-Err-exact.result c.end_of-in-Err-exact.ensures) (c.in_default.ensures.cause.kept (λ e. cc) ∙ c.loop-end.invariant.writes)

pub returns-in-Ok-Ok-Message-clause-same_source : goal.returns-in-Ok-Ok-Message-clause-same_source
returns-in-Ok-Ok-Message-clause-same_source g c =
    c.take_message.ensures.same_source ∙ c.in-Ok-Whole.ensures.same_source ∙ c.loop-end.invariant.same_source

pub returns-in-Ok-Ok-Message-clause-same_limit : goal.returns-in-Ok-Ok-Message-clause-same_limit
returns-in-Ok-Ok-Message-clause-same_limit g c =
    c.take_message.ensures.same_limit ∙ c.in-Ok-Whole.ensures.same_limit ∙ c.loop-end.invariant.same_limit

pub returns-in-Ok-Ok-Message-clause-read_cause : goal.returns-in-Ok-Ok-Message-clause-read_cause
returns-in-Ok-Ok-Message-clause-read_cause g c =
    cause_from _ _ _ (c.in-Ok-Whole.ensures.cause.kept (λ e. cc) ∙ c.loop-end.invariant.reads) c.take_message.ensures.read_cause

pub returns-in-Ok-Ok-Message-clause-write_cause : goal.returns-in-Ok-Ok-Message-clause-write_cause
returns-in-Ok-Ok-Message-clause-write_cause g c =
    cause_from _ _ _ c.loop-end.invariant.writes c.take_message.ensures.write_cause
