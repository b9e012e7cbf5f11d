use Rattle.std.proofs.Common.{rules, arith, ap, length, take, subst, ◌<◌, ◌≡◌, ◌≤◌, ◌++◌, length-append, length-take-le}
use Rattle.wire_io.specs.Feeding.{gained}
use Rattle.wire_io.specs.Feeds.{waiting_of}
use Rattle.wire_io.proofs.FeedLemmas.{Hands-taken, reached_more, unread_more, gained_more}
use Rattle.wire_io.proofs.feed.Feed.exact.Goals as goal

pub returns-in_err-hand_out-clause-hands : goal.returns-in_err-hand_out-clause-hands
returns-in_err-hand_out-clause-hands g c =
    let kept = c.in_err-hand_out.ensures in
    Hands-taken _ _ _ _ _ _ _ _ _ _ _ _ _ _ c.loop-room.invariant.reached.hands c.ready.ensures.hands
    (ap g.S.Source.left kept.unread) kept.same_waiting kept.same_taken (ap (gained c.args.out.now.items) kept.same_out)

pub loop-room-preserved : goal.loop-room-preserved
loop-room-preserved g c =
    let given = c.in_ok-hand_out.ensures in
    let so_far = c.loop-room.invariant.reached in
    let w = waiting_of c.ready.new.self in
    let n = c.min-next.result in
    let within : n ≤ length w = omega arith in
    let fits : n ≤ c.loop-room.room = omega arith in
    let more : gained c.args.out.now.items c.hand_out.new.out.items ≡ gained c.args.out.now.items c.loop-room.out.items ++ take n w =
    gained_more _ _ _ _ so_far.grows given.grows in
    let some : 0 < length (take n w) = omega (arith, length-take-le n w within, c.in_ok-ready.ensures.ready) in
    record {
      same_source = search rules;
      same_limit = search rules;
      reached = reached_more _ _ _ _ _ _ _ _ _ _ _ _ _ _ _ _ _ n so_far c.ready.ensures.hands within fits given.grows given.rest (ap g.S.Source.left given.unread) given.same_taken;
      counts = omega (arith, given.counts, c.ready.ensures.same_handed, c.loop-room.invariant.counts, ap length more, length-append (gained c.args.out.now.items c.loop-room.out.items) (take n w), length-take-le n w within);
      unread = λ short. unread_more _ _ _ _ _ _ _ _ _ _ _ _ _ (take n w) so_far.hands c.loop-room.invariant.unread c.ready.ensures.unread given.unread given.same_taken some
          (subst (λ l. length l ≤ length (waiting_of c.args.self.now)) more short);
      kept = search rules;
    }
