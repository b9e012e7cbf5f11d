use Rattle.std.proofs.Common.{Option, IsSome, refl, sym, subst}
use Rattle.account_lock.proofs.Joins.{closes, value_left}
use Rattle.account_lock.proofs.lock.Lock.end.Goals as goal

pub filled-requires : goal.filled-requires
filled-requires g c =
    let left = closes g.V.Booked.origin g.V.Booked.history _ _ _ _ _ _ c.requires.rests.0 c.requires.first c.requires.rests.1 c.requires.all c.close_with-closed.ensures.values.2 c.take-slot.ensures.value in
    subst (λ (z : Option g.row.V.Denot). IsSome z) (sym left.1) refl

pub returns : goal.returns
returns g c =
    let left = closes g.V.Booked.origin g.V.Booked.history _ _ _ _ _ _ c.requires.rests.0 c.requires.first c.requires.rests.1 c.requires.all c.close_with-closed.ensures.values.2 c.take-slot.ensures.value in
    value_left g.V.Booked.origin g.V.Booked.history _ _ _ c.filled.ensures left
