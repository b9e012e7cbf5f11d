use Rattle.std.proofs.Common.{arith, ap, ◌∙◌}
use Rattle.account_lock.proofs.Keeps.{bounds}
use Rattle.account_lock.proofs.Joins.{joins}
use Rattle.account_lock.proofs.lock.Lock.join_chairs.Goals as goal

pub join_seat-requires : goal.join_seat-requires
join_seat-requires g c = let r = c.requires.other in
    (c.requires.lock.0, c.requires.lock.1, r.1, omega arith, joins g.V.Booked.origin g.V.Booked.history _ _ _ _ _ c.requires.rests.0 r.0 r.2)

pub load-requires : goal.load-requires
load-requires g c = let told = c.join_seat.ensures in
    (told.0 ∙ c.requires.lock.0, omega arith, bounds g.V.Booked.origin g.V.Booked.history _ _ _ _ (ap (λ m. m.0.stage) told.2 ∙ c.requires.rests.0))
