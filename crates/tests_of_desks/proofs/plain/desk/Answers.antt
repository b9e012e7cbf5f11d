use Rattle.std.proofs.Common.{[], ◌∷◌, arith}
use Rattle.std.proofs.lemmas.List.Elements.{All-push}
use Rattle.plain_desk.specs.Owning.{IsFresh}
use Rattle.tests_of_desks.proofs.plain.desk.Goals as goal

pub new-requires-clause-fresh : goal.new-requires-clause-fresh
new-requires-clause-fresh g c =
    let first = c.in_ok-first.first in
    let second = c.in_ok-second.second in
    rw (c.in_ok-push-2.ensures.items, c.in_ok-push.ensures.items, c.new-states.ensures.items)
    (All-push IsFresh (first ∷ []) second (All-push IsFresh [] first (λ k d lt. absurd (omega arith)) c.in_ok-first.ensures.fresh) c.in_ok-second.ensures.fresh)
