use Rattle.std.proofs.Common.{◌≡◌, ◌+◌, ◌-◌, true, length, refl, sym, ap, ◌∙◌, subst, arith, Ok}
use Rattle.wire_io.specs.Feeding.{gained, Hands}
use Rattle.wire_io.specs.Feeds.{source_of, waiting_of, limit_of, taken_of}
use Rattle.wire_io.proofs.FeedLemmas.{Hands-nil}
use Rattle.http_front.specs.Heads.{max_head, ends_head}
use Rattle.http_front.specs.Taking.{IsUnendedBefore}
use Rattle.http_front.proofs.CutLemmas.{nothing_unended, nothing_before, sized, part_endless, part_of_head, line_first, line_within, line_ends, grown}
use Rattle.http_front.proofs.TakeLemmas.{hands_more, stopped, kept_cause, cause_from}
use Rattle.http_front.proofs.taking.take_head.Goals as goal

pub loop-end-init : goal.loop-end-init
loop-end-init g c =
    let none = c.requires.empty in
    record {
      hands = subst (Hands (g.S.Source.left (source_of c.args.feed.now)) (g.S.Source.left (source_of c.args.feed.now)) (waiting_of c.args.feed.now) (waiting_of c.args.feed.now) (taken_of c.args.feed.now) (taken_of c.args.feed.now)) (sym none) (Hands-nil _ _ _);
      counts = omega (arith, ap length none);
      unended = ap ends_head none ∙ nothing_unended;
      first = subst IsUnendedBefore (sym none) nothing_before;
      small = omega (arith, ap length none);
      same_source = refl;
      same_limit = refl;
      reads = refl;
    }

pub overflow_sub-room : goal.overflow_sub-room
overflow_sub-room g c = omega (arith, c.len-room.ensures, c.loop-end.head.ok, c.loop-end.invariant.small)

pub returns-in-Ok-TooLong-clause-hands : goal.returns-in-Ok-TooLong-clause-hands
returns-in-Ok-TooLong-clause-hands g c =
    let i = c.loop-end.invariant in
    let text = c.loop-end.head.items in
    let now = c.line.new.out.items in
    let piece = gained text now in
    let room = 16384 - c.len-room.result in
    let fits : length text + room ≡ max_head = omega (arith, c.len-room.ensures, c.loop-end.head.ok, i.small) in
    let w = c.in-Ok-TooLong.ensures in
    hands_more _ _ _ _ _ _ _ _ _ text piece now i.hands w.hands w.grows

pub returns-in-Ok-TooLong-clause-counts : goal.returns-in-Ok-TooLong-clause-counts
returns-in-Ok-TooLong-clause-counts g c =
    let i = c.loop-end.invariant in
    let text = c.loop-end.head.items in
    let now = c.line.new.out.items in
    let piece = gained text now in
    let room = 16384 - c.len-room.result in
    let fits : length text + room ≡ max_head = omega (arith, c.len-room.ensures, c.loop-end.head.ok, i.small) in
    let w = c.in-Ok-TooLong.ensures in
    omega (arith, w.counts, i.counts, sized text piece now room i.unended i.first w.grows fits)

pub returns-in-Ok-TooLong-clause-same_source : goal.returns-in-Ok-TooLong-clause-same_source
returns-in-Ok-TooLong-clause-same_source g c =
    c.in-Ok-TooLong.ensures.same_source ∙ c.loop-end.invariant.same_source

pub returns-in-Ok-TooLong-clause-same_limit : goal.returns-in-Ok-TooLong-clause-same_limit
returns-in-Ok-TooLong-clause-same_limit g c =
    c.in-Ok-TooLong.ensures.same_limit ∙ c.loop-end.invariant.same_limit

pub returns-in-Ok-TooLong-clause-cause : goal.returns-in-Ok-TooLong-clause-cause
returns-in-Ok-TooLong-clause-cause g c =
    kept_cause _ _ (λ e. cc) (c.in-Ok-TooLong.ensures.cause.kept (λ e. cc) ∙ c.loop-end.invariant.reads)

pub returns-in-Ok-TooLong-clause-head : goal.returns-in-Ok-TooLong-clause-head
returns-in-Ok-TooLong-clause-head g c =
    let i = c.loop-end.invariant in
    let text = c.loop-end.head.items in
    let now = c.line.new.out.items in
    let piece = gained text now in
    let room = 16384 - c.len-room.result in
    let fits : length text + room ≡ max_head = omega (arith, c.len-room.ensures, c.loop-end.head.ok, i.small) in
    let w = c.in-Ok-TooLong.ensures in
    let long = w.too_long.0 (ap Ok c.in-Ok-TooLong.field-0-is) in
    part_endless text piece now room i.unended i.first w.grows fits long.0 long.1

pub returns-in-Err-clause-hands : goal.returns-in-Err-clause-hands
returns-in-Err-clause-hands g c =
    let i = c.loop-end.invariant in
    let text = c.loop-end.head.items in
    let now = c.line.new.out.items in
    let piece = gained text now in
    let room = 16384 - c.len-room.result in
    let fits : length text + room ≡ max_head = omega (arith, c.len-room.ensures, c.loop-end.head.ok, i.small) in
    let w = c.in-Err.ensures in
    hands_more _ _ _ _ _ _ _ _ _ text piece now i.hands w.hands w.grows

pub returns-in-Err-clause-counts : goal.returns-in-Err-clause-counts
returns-in-Err-clause-counts g c =
    let i = c.loop-end.invariant in
    let text = c.loop-end.head.items in
    let now = c.line.new.out.items in
    let piece = gained text now in
    let room = 16384 - c.len-room.result in
    let fits : length text + room ≡ max_head = omega (arith, c.len-room.ensures, c.loop-end.head.ok, i.small) in
    let w = c.in-Err.ensures in
    omega (arith, w.counts, i.counts, sized text piece now room i.unended i.first w.grows fits)

pub returns-in-Err-clause-same_source : goal.returns-in-Err-clause-same_source
returns-in-Err-clause-same_source g c =
    c.in-Err.ensures.same_source ∙ c.loop-end.invariant.same_source

pub returns-in-Err-clause-same_limit : goal.returns-in-Err-clause-same_limit
returns-in-Err-clause-same_limit g c =
    c.in-Err.ensures.same_limit ∙ c.loop-end.invariant.same_limit

pub returns-in-Err-clause-cause : goal.returns-in-Err-clause-cause
returns-in-Err-clause-cause g c =
    cause_from _ _ _ c.loop-end.invariant.reads c.in-Err.ensures.cause

pub returns-in-Err-clause-part : goal.returns-in-Err-clause-part
returns-in-Err-clause-part g c =
    let i = c.loop-end.invariant in
    let text = c.loop-end.head.items in
    let now = c.line.new.out.items in
    let piece = gained text now in
    let room = 16384 - c.len-room.result in
    let fits : length text + room ≡ max_head = omega (arith, c.len-room.ensures, c.loop-end.head.ok, i.small) in
    let w = c.in-Err.ensures in
    let s = stopped c.in-Err.end (g.S.Source.left (source_of c.line.new.self)) (waiting_of c.line.new.self) (taken_of c.line.new.self) (limit_of c.line.new.self) w.below_limit.0 w.at_limit.0 w.ended w.no_memory.0 in
    part_of_head text piece now room i.unended i.first w.grows fits s.0.0 s.0.1

pub returns-in-Err-clause-stops : goal.returns-in-Err-clause-stops
returns-in-Err-clause-stops g c =
    let i = c.loop-end.invariant in
    let text = c.loop-end.head.items in
    let now = c.line.new.out.items in
    let piece = gained text now in
    let room = 16384 - c.len-room.result in
    let fits : length text + room ≡ max_head = omega (arith, c.len-room.ensures, c.loop-end.head.ok, i.small) in
    let w = c.in-Err.ensures in
    let s = stopped c.in-Err.end (g.S.Source.left (source_of c.line.new.self)) (waiting_of c.line.new.self) (taken_of c.line.new.self) (limit_of c.line.new.self) w.below_limit.0 w.at_limit.0 w.ended w.no_memory.0 in
    s.1

pub returns-then-ends_head-clause-hands : goal.returns-then-ends_head-clause-hands
returns-then-ends_head-clause-hands g c =
    let i = c.loop-end.invariant in
    let text = c.loop-end.head.items in
    let now = c.line.new.out.items in
    let piece = gained text now in
    let room = 16384 - c.len-room.result in
    let fits : length text + room ≡ max_head = omega (arith, c.len-room.ensures, c.loop-end.head.ok, i.small) in
    let w = c.in-Ok-Whole.ensures in
    hands_more _ _ _ _ _ _ _ _ _ text piece now i.hands w.hands w.grows

pub returns-then-ends_head-clause-counts : goal.returns-then-ends_head-clause-counts
returns-then-ends_head-clause-counts g c =
    let i = c.loop-end.invariant in
    let text = c.loop-end.head.items in
    let now = c.line.new.out.items in
    let piece = gained text now in
    let room = 16384 - c.len-room.result in
    let fits : length text + room ≡ max_head = omega (arith, c.len-room.ensures, c.loop-end.head.ok, i.small) in
    let w = c.in-Ok-Whole.ensures in
    omega (arith, w.counts, i.counts, sized text piece now room i.unended i.first w.grows fits)

pub returns-then-ends_head-clause-same_source : goal.returns-then-ends_head-clause-same_source
returns-then-ends_head-clause-same_source g c =
    c.in-Ok-Whole.ensures.same_source ∙ c.loop-end.invariant.same_source

pub returns-then-ends_head-clause-same_limit : goal.returns-then-ends_head-clause-same_limit
returns-then-ends_head-clause-same_limit g c =
    c.in-Ok-Whole.ensures.same_limit ∙ c.loop-end.invariant.same_limit

pub returns-then-ends_head-clause-cause : goal.returns-then-ends_head-clause-cause
returns-then-ends_head-clause-cause g c =
    kept_cause _ _ (λ e. cc) (c.in-Ok-Whole.ensures.cause.kept (λ e. cc) ∙ c.loop-end.invariant.reads)

pub returns-then-ends_head-clause-head : goal.returns-then-ends_head-clause-head
returns-then-ends_head-clause-head g c =
    let i = c.loop-end.invariant in
    let text = c.loop-end.head.items in
    let now = c.line.new.out.items in
    let piece = gained text now in
    let room = 16384 - c.len-room.result in
    let fits : length text + room ≡ max_head = omega (arith, c.len-room.ensures, c.loop-end.head.ok, i.small) in
    let w = c.in-Ok-Whole.ensures in
    let line = w.whole.0 (ap Ok c.in-Ok-Whole.field-0-is) in
    let ended : ends_head now ≡ true = ap ends_head (sym c.deref.ensures.value) ∙ sym c.ends_head.ensures ∙ c.if-ends_head.true in
    line_ends text piece now room i.unended i.first w.grows fits line w.most ended

pub loop-end-smaller : goal.loop-end-smaller
loop-end-smaller g c =
    let i = c.loop-end.invariant in
    let text = c.loop-end.head.items in
    let now = c.line.new.out.items in
    let piece = gained text now in
    let room = 16384 - c.len-room.result in
    let fits : length text + room ≡ max_head = omega (arith, c.len-room.ensures, c.loop-end.head.ok, i.small) in
    let w = c.in-Ok-Whole.ensures in
    let line = w.whole.0 (ap Ok c.in-Ok-Whole.field-0-is) in
    omega (arith, grown text piece now room i.unended i.first w.grows fits line w.most, line_within text piece now room i.unended i.first w.grows fits line w.most)

pub loop-end-preserved : goal.loop-end-preserved
loop-end-preserved g c =
    let i = c.loop-end.invariant in
    let text = c.loop-end.head.items in
    let now = c.line.new.out.items in
    let piece = gained text now in
    let room = 16384 - c.len-room.result in
    let fits : length text + room ≡ max_head = omega (arith, c.len-room.ensures, c.loop-end.head.ok, i.small) in
    let w = c.in-Ok-Whole.ensures in
    let line = w.whole.0 (ap Ok c.in-Ok-Whole.field-0-is) in
    record {
      hands = hands_more _ _ _ _ _ _ _ _ _ text piece now i.hands w.hands w.grows;
      counts = omega (arith, w.counts, i.counts, sized text piece now room i.unended i.first w.grows fits);
      unended = ap ends_head (sym c.deref.ensures.value) ∙ sym c.ends_head.ensures ∙ c.if-ends_head.false;
      first = line_first text piece now room i.unended i.first w.grows fits line w.most;
      small = line_within text piece now room i.unended i.first w.grows fits line w.most;
      same_source = w.same_source ∙ i.same_source;
      same_limit = w.same_limit ∙ i.same_limit;
      reads = w.cause.kept (λ e. cc) ∙ i.reads;
    }
