use Rattle.std.proofs.Common.{arith, ap, ◌∙◌}
use Rattle.account_lock.proofs.Keeps.{looks}
use Rattle.account_lock.proofs.lock.Lock.wait.Goals as goal

pub load-serving-requires : goal.load-serving-requires
load-serving-requires g c = let same = c.loop.invariant in
    (same.0 ∙ c.requires.lock, omega arith, looks g.V.Booked.origin g.V.Booked.history _ _ _ _ (ap (λ m. m.0.stage) same.1 ∙ c.requires.waits.0))
