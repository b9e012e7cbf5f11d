use Rattle.std.proofs.Common.{ℕ, inl, inr, rules, arith, ap, length, take, refl, sym, subst, ◌<◌, ◌≡◌, ◌≤◌, ◌++◌, length-append, length-take-le}
use Rattle.wire_io.specs.Feeding.{gained}
use Rattle.wire_io.specs.Feeds.{waiting_of}
use Rattle.wire_io.specs.Lines.{HasNoEnd, IsLine}
use Rattle.wire_io.proofs.LineLemmas.{HasNoEnd-append, IsLine-append, line_has_end}
use Rattle.wire_io.proofs.FeedLemmas.{Hands-taken, reached_more, unread_more, gained_more}
use Rattle.wire_io.proofs.feed.Feed.line.Goals as goal

pub returns-in_err-hand_out-clause-hands : goal.returns-in_err-hand_out-clause-hands
returns-in_err-hand_out-clause-hands g c =
    let kept = c.in_err-hand_out.ensures in
    Hands-taken _ _ _ _ _ _ _ _ _ _ _ _ _ _ c.loop-room.invariant.reached.hands c.ready.ensures.hands
    (ap g.S.Source.left kept.unread) kept.same_waiting kept.same_taken (ap (gained c.args.out.now.items) kept.same_out)

pub loop-room-preserved : goal.loop-room-preserved
loop-room-preserved g c =
    let given = c.in_ok-hand_out.ensures in
    let so_far = c.loop-room.invariant.reached in
    let prefix = c.line_prefix-count.ensures in
    let w = waiting_of c.ready.new.self in
    let n : ℕ = c.line_prefix-count.result.0 in
    let within : n ≤ length w = omega (arith, prefix.within, ap length c.as_slice.ensures) in
    let more : gained c.args.out.now.items c.hand_out.new.out.items ≡ gained c.args.out.now.items c.loop-room.out.items ++ take n w =
    gained_more _ _ _ _ so_far.grows given.grows in
    let none : HasNoEnd (take n w) = subst (λ l. HasNoEnd (take n l)) c.as_slice.ensures (prefix.begun c.if-is_whole.false) in
    let some : 0 < length (take n w) = omega (arith, length-take-le n w within, prefix.some) in
    record {
      same_source = search rules;
      same_limit = search rules;
      reached = reached_more _ _ _ _ _ _ _ _ _ _ _ _ _ _ _ _ _ n so_far c.ready.ensures.hands within prefix.fits given.grows given.rest (ap g.S.Source.left given.unread) given.same_taken;
      begun = subst HasNoEnd (sym more) (HasNoEnd-append _ _ c.loop-room.invariant.begun none);
      counts = omega (arith, given.counts, c.ready.ensures.same_handed, c.loop-room.invariant.counts, ap length more, length-append (gained c.args.out.now.items c.loop-room.out.items) (take n w), length-take-le n w within);
      unread = λ short. unread_more _ _ _ _ _ _ _ _ _ _ _ _ _ (take n w) so_far.hands c.loop-room.invariant.unread c.ready.ensures.unread given.unread given.same_taken some
          (subst (λ l. length l ≤ length (waiting_of c.args.self.now)) more short);
      kept = search rules;
    }

pub returns-then-is_whole-clause-hands : goal.returns-then-is_whole-clause-hands
returns-then-is_whole-clause-hands g c =
    let given = c.in_ok-hand_out.ensures in
    let prefix = c.line_prefix-count.ensures in
    let w = waiting_of c.ready.new.self in
    let n : ℕ = c.line_prefix-count.result.0 in
    let within : n ≤ length w = omega (arith, prefix.within, ap length c.as_slice.ensures) in
    (reached_more _ _ _ _ _ _ _ _ _ _ _ _ _ _ _ _ _ n c.loop-room.invariant.reached c.ready.ensures.hands within prefix.fits given.grows given.rest
    (ap g.S.Source.left given.unread) given.same_taken).hands

pub returns-then-is_whole-clause-whole : goal.returns-then-is_whole-clause-whole
returns-then-is_whole-clause-whole g c =
    let given = c.in_ok-hand_out.ensures in
    let w = waiting_of c.ready.new.self in
    let n : ℕ = c.line_prefix-count.result.0 in
    let more : gained c.args.out.now.items c.hand_out.new.out.items ≡ gained c.args.out.now.items c.loop-room.out.items ++ take n w =
    gained_more _ _ _ _ c.loop-room.invariant.reached.grows given.grows in
    let ends : IsLine (take n w) = subst (λ l. IsLine (take n l)) c.as_slice.ensures (c.line_prefix-count.ensures.whole c.if-is_whole.true) in
    (λ _. subst IsLine (sym more) (IsLine-append _ _ c.loop-room.invariant.begun ends), λ _. refl)

pub returns-then-is_whole-clause-too_long : goal.returns-then-is_whole-clause-too_long
returns-then-is_whole-clause-too_long g c =
    let line = (returns-then-is_whole-clause-whole g c).0 refl in
    (λ e. cc, λ long. absurd (line_has_end _ line long.0))

pub returns-then-is_whole-clause-below_limit : goal.returns-then-is_whole-clause-below_limit
returns-then-is_whole-clause-below_limit g c =
    let line = (returns-then-is_whole-clause-whole g c).0 refl in
    (elim [ inl e ↦ cc | inr e ↦ cc ], λ more. absurd (line_has_end _ line more.0.0))

pub returns-then-is_whole-clause-at_limit : goal.returns-then-is_whole-clause-at_limit
returns-then-is_whole-clause-at_limit g c =
    let line = (returns-then-is_whole-clause-whole g c).0 refl in
    (λ e. cc, λ more. absurd (line_has_end _ line more.0.0))

pub returns-then-is_whole-clause-no_memory : goal.returns-then-is_whole-clause-no_memory
returns-then-is_whole-clause-no_memory g c =
    let line = (returns-then-is_whole-clause-whole g c).0 refl in
    (λ e. cc, λ more. absurd (line_has_end _ line more.0.0))
