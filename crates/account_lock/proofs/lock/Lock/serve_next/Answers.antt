use Rattle.std.proofs.Common.{arith}
use Rattle.account_lock.proofs.Keeps.{serves}
use Rattle.account_lock.proofs.lock.Lock.serve_next.Goals as goal

pub fetch_add-served-requires : goal.fetch_add-served-requires
fetch_add-served-requires g c = let r = c.requires.slot in (c.requires.lock, omega arith, serves g.V.Booked.origin g.V.Booked.history _ _ _ _ r.0 c.requires.turn r.1 r.2 r.3)
