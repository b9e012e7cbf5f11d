use Rattle.std.proofs.Common.{arith, ap, ◌∙◌}
use Rattle.account_lock.proofs.Keeps.{enlists, bounds}
use Rattle.account_lock.proofs.Joins.{splits}
use Rattle.account_lock.proofs.lock.Lock.make_pass.Goals as goal

pub split_seat-other-requires : goal.split_seat-other-requires
split_seat-other-requires g c = let r = c.requires.rests in let room = c.requires.more_callers in
    (c.requires.lock, omega arith, splits g.V.Booked.origin g.V.Booked.history _ _ _ r.0 c.requires.first r.2 (omega arith))

pub fetch_add-requires : goal.fetch_add-requires
fetch_add-requires g c = let told = c.split_seat-other.ensures in (
  told.0 ∙ c.requires.lock,
  omega arith,
  enlists g.V.Booked.origin g.V.Booked.history _ _ _ _ (ap (λ m. m.0.stage) told.2 ∙ c.requires.rests.0) (ap (λ m. m.0.number) told.2 ∙ c.requires.first) (ap (λ m. m.0.pending) told.2),
)

pub load-requires : goal.load-requires
load-requires g c = let told = c.split_seat-other.ensures in
    (told.3 ∙ c.requires.lock, omega arith, bounds g.V.Booked.origin g.V.Booked.history _ _ _ _ (ap (λ m. m.0.stage) told.4))
