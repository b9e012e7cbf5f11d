use Rattle.std.proofs.Common.{◌≡◌, ◌<◌, ◌+◌, ◌-◌, true, false, [], length, refl, sym, ap, ◌∙◌, subst, arith, Ok}
use Rattle.wire_io.specs.Feeding.{gained}
use Rattle.wire_io.specs.Feeds.{limit_of, taken_of}
use Rattle.wire_io.specs.Requests.{end_at}
use Rattle.front_core.proofs.Coming.{moves_begun, moves_in, takes_ended, end_cause, kept_cause, cause_from}
use Rattle.policy_front.specs.Policy.{policy}
use Rattle.policy_front.specs.Texts.{max_text}
use Rattle.policy_front.specs.Taking.{request_taken, is_empty_line}
use Rattle.policy_front.specs.Filled.{policy_filled}
use Rattle.policy_front.proofs.Texting.{AwaitsLine, nothing_awaits, sized, part_first, part_open, part_long, line_ends, line_goes_on, grown, last_line}
use Rattle.policy_front.proofs.Wholes.{came_text, whole_open}
use Rattle.policy_front.proofs.taking.take_text.Goals as goal

pub loop-end-init : goal.loop-end-init
loop-end-init g c =
    let none = c.requires.empty in
    record {
      moves = λ written. moves_begun _ _ _ _ _ c.args.text.now.items none;
      awaits = subst AwaitsLine (sym none) nothing_awaits;
      same_source = refl;
      same_limit = refl;
      reads = refl;
    }

pub overflow_sub-room : goal.overflow_sub-room
overflow_sub-room g c =
    omega (arith, c.len-begin.ensures, c.loop-end.text.ok, c.loop-end.invariant.awaits.within)

pub returns-in-Ok-TooLong-clause-takes : goal.returns-in-Ok-TooLong-clause-takes
returns-in-Ok-TooLong-clause-takes g c =
    let i = c.loop-end.invariant in
    let w = c.in-Ok-TooLong.ensures in
    λ hosts login message written. moves_in _ _ _ _ _ _ _ _ _ _ _ _ _ _ c.loop-end.text.items [] _ c.line.new.out.items (i.moves written) w.hands w.counts w.grows

pub returns-in-Ok-TooLong-clause-text : goal.returns-in-Ok-TooLong-clause-text
returns-in-Ok-TooLong-clause-text g c =
    let i = c.loop-end.invariant in
    let text = c.loop-end.text.items in
    let now = c.line.new.out.items in
    let piece = gained text now in
    let room = 8192 - c.len-begin.result in
    let fits : length text + room ≡ max_text = omega (arith, c.len-begin.ensures, c.loop-end.text.ok, i.awaits.within) in
    let w = c.in-Ok-TooLong.ensures in
    let long = w.too_long.0 (ap Ok c.in-Ok-TooLong.field-0-is) in
    part_long text piece now room i.awaits w.grows fits long.0 long.1

pub returns-in-Ok-TooLong-clause-same_source : goal.returns-in-Ok-TooLong-clause-same_source
returns-in-Ok-TooLong-clause-same_source g c =
    c.in-Ok-TooLong.ensures.same_source ∙ c.loop-end.invariant.same_source

pub returns-in-Ok-TooLong-clause-same_limit : goal.returns-in-Ok-TooLong-clause-same_limit
returns-in-Ok-TooLong-clause-same_limit g c =
    c.in-Ok-TooLong.ensures.same_limit ∙ c.loop-end.invariant.same_limit

pub returns-in-Ok-TooLong-clause-read_cause : goal.returns-in-Ok-TooLong-clause-read_cause
returns-in-Ok-TooLong-clause-read_cause g c =
    kept_cause _ _ (λ e. cc) (c.in-Ok-TooLong.ensures.cause.kept (λ e. cc) ∙ c.loop-end.invariant.reads)

pub returns-in-Err-clause-takes : goal.returns-in-Err-clause-takes
returns-in-Err-clause-takes g c =
    let i = c.loop-end.invariant in
    let text = c.loop-end.text.items in
    let now = c.line.new.out.items in
    let piece = gained text now in
    let room = 8192 - c.len-begin.result in
    let fits : length text + room ≡ max_text = omega (arith, c.len-begin.ensures, c.loop-end.text.ok, i.awaits.within) in
    let w = c.in-Err.ensures in
    let limit : limit_of c.line.new.self ≡ limit_of c.args.feed.now = w.same_limit ∙ i.same_limit in
    let counted : length now ≡ c.len.result = omega (arith, c.len.ensures, c.line.new.out.ok) in
    let is : c.end_of.result ≡ end_at c.in-Err.end _ c.len.result = c.end_of.ensures ∙ ap (λ n. end_at c.in-Err.end n c.len.result) c.at-at.ensures in
    let sum : length now ≡ length text + length piece = sized text piece now room i.awaits w.grows fits in
    λ hosts login message written.
    let moved = moves_in _ _ _ _ _ _ _ _ _ _ _ _ _ _ text [] piece now (i.moves written) w.hands w.counts w.grows in
    takes_ended (policy hosts) (policy_filled hosts) login (limit_of c.args.feed.now) (request_taken message) _ _ _ _ _ _ _ _ _ _ now [] moved
    (λ begun. came_text hosts login now (part_first text piece now room i.awaits w.grows fits begun.0) (omega (arith, fits, sum, w.most)))
    (λ begun. whole_open now (part_first text piece now room i.awaits w.grows fits begun.0) (part_open text piece now room i.awaits w.grows fits begun.0) (omega (arith, fits, sum, begun.1)))
    c.in-Err.end c.len.result c.end_of.result is counted refl
    (λ e. let h = w.below_limit.0 e in (h.0, h.1, subst (λ n. taken_of c.line.new.self < n) limit h.2))
    (λ e. let h = w.at_limit.0 e in (h.0, h.1, h.2 ∙ limit))
    w.ended w.no_memory.0

pub returns-in-Err-clause-same_source : goal.returns-in-Err-clause-same_source
returns-in-Err-clause-same_source g c =
    c.in-Err.ensures.same_source ∙ c.loop-end.invariant.same_source

pub returns-in-Err-clause-same_limit : goal.returns-in-Err-clause-same_limit
returns-in-Err-clause-same_limit g c =
    c.in-Err.ensures.same_limit ∙ c.loop-end.invariant.same_limit

pub returns-in-Err-clause-read_cause : goal.returns-in-Err-clause-read_cause
returns-in-Err-clause-read_cause g c =
    cause_from _ _ _ c.loop-end.invariant.reads (end_cause c.in-Err.end _ _ c.end_of.result c.end_of.ensures _ _ c.in-Err.ensures.cause)

pub returns-then-is_empty_line-clause-takes : goal.returns-then-is_empty_line-clause-takes
returns-then-is_empty_line-clause-takes g c =
    let i = c.loop-end.invariant in
    let w = c.in-Ok-Whole.ensures in
    λ hosts login message written. moves_in _ _ _ _ _ _ _ _ _ _ _ _ _ _ c.loop-end.text.items [] _ c.line.new.out.items (i.moves written) w.hands w.counts w.grows

pub returns-then-is_empty_line-clause-text : goal.returns-then-is_empty_line-clause-text
returns-then-is_empty_line-clause-text g c =
    let i = c.loop-end.invariant in
    let text = c.loop-end.text.items in
    let now = c.line.new.out.items in
    let piece = gained text now in
    let room = 8192 - c.len-begin.result in
    let fits : length text + room ≡ max_text = omega (arith, c.len-begin.ensures, c.loop-end.text.ok, i.awaits.within) in
    let w = c.in-Ok-Whole.ensures in
    let whole = w.whole.0 (ap Ok c.in-Ok-Whole.field-0-is) in
    let begins : c.len-begin.result ≡ length text = omega (arith, c.len-begin.ensures, c.loop-end.text.ok) in
    let empty : is_empty_line piece ≡ true = ap is_empty_line (sym (last_line now c.deref.result.now text c.len-begin.result c.deref.ensures.value begins)) ∙ sym c.is_empty_line.ensures ∙ c.if-is_empty_line.true in
    line_ends text piece now room i.awaits w.grows fits whole w.most empty

pub returns-then-is_empty_line-clause-same_source : goal.returns-then-is_empty_line-clause-same_source
returns-then-is_empty_line-clause-same_source g c =
    c.in-Ok-Whole.ensures.same_source ∙ c.loop-end.invariant.same_source

pub returns-then-is_empty_line-clause-same_limit : goal.returns-then-is_empty_line-clause-same_limit
returns-then-is_empty_line-clause-same_limit g c =
    c.in-Ok-Whole.ensures.same_limit ∙ c.loop-end.invariant.same_limit

pub returns-then-is_empty_line-clause-read_cause : goal.returns-then-is_empty_line-clause-read_cause
returns-then-is_empty_line-clause-read_cause g c =
    kept_cause _ _ (λ e. cc) (c.in-Ok-Whole.ensures.cause.kept (λ e. cc) ∙ c.loop-end.invariant.reads)

pub loop-end-smaller : goal.loop-end-smaller
loop-end-smaller g c =
    let i = c.loop-end.invariant in
    let text = c.loop-end.text.items in
    let now = c.line.new.out.items in
    let piece = gained text now in
    let room = 8192 - c.len-begin.result in
    let fits : length text + room ≡ max_text = omega (arith, c.len-begin.ensures, c.loop-end.text.ok, i.awaits.within) in
    let w = c.in-Ok-Whole.ensures in
    let whole = w.whole.0 (ap Ok c.in-Ok-Whole.field-0-is) in
    let begins : c.len-begin.result ≡ length text = omega (arith, c.len-begin.ensures, c.loop-end.text.ok) in
    let more : is_empty_line piece ≡ false = ap is_empty_line (sym (last_line now c.deref.result.now text c.len-begin.result c.deref.ensures.value begins)) ∙ sym c.is_empty_line.ensures ∙ c.if-is_empty_line.false in
    let next = line_goes_on text piece now room i.awaits w.grows fits whole w.most more in
    let larger = grown text piece now room i.awaits w.grows fits whole w.most in
    omega (arith, larger, next.within)

pub loop-end-preserved : goal.loop-end-preserved
loop-end-preserved g c =
    let i = c.loop-end.invariant in
    let text = c.loop-end.text.items in
    let now = c.line.new.out.items in
    let piece = gained text now in
    let room = 8192 - c.len-begin.result in
    let fits : length text + room ≡ max_text = omega (arith, c.len-begin.ensures, c.loop-end.text.ok, i.awaits.within) in
    let w = c.in-Ok-Whole.ensures in
    let whole = w.whole.0 (ap Ok c.in-Ok-Whole.field-0-is) in
    let begins : c.len-begin.result ≡ length text = omega (arith, c.len-begin.ensures, c.loop-end.text.ok) in
    let more : is_empty_line piece ≡ false = ap is_empty_line (sym (last_line now c.deref.result.now text c.len-begin.result c.deref.ensures.value begins)) ∙ sym c.is_empty_line.ensures ∙ c.if-is_empty_line.false in
    record {
      moves = λ written. moves_in _ _ _ _ _ _ _ _ _ _ _ _ _ _ text [] piece now (i.moves written) w.hands w.counts w.grows;
      awaits = line_goes_on text piece now room i.awaits w.grows fits whole w.most more;
      same_source = w.same_source ∙ i.same_source;
      same_limit = w.same_limit ∙ i.same_limit;
      reads = w.cause.kept (λ e. cc) ∙ i.reads;
    }
