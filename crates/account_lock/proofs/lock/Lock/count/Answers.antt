use Rattle.std.proofs.Common.{arith, ap}
use Rattle.account_lock.specs.Views.{with_entry}
use Rattle.account_lock.proofs.Keeps.{commits}
use Rattle.account_lock.proofs.Ties.{tied_along, own_along, own_entry}
use Rattle.account_lock.proofs.lock.Lock.count.Goals as goal

pub fetch_add-requires : goal.fetch_add-requires
fetch_add-requires g c = let r = c.requires.entry in (c.requires.lock, omega arith, commits g.V.Booked.origin g.V.Booked.history _ _ _ _ r.0 r.1 c.requires.turn r.2 r.3 r.4)

pub invariant_of-result : goal.invariant_of-result
invariant_of-result g c =
    let told = c.fetch_add.ensures.2 in
    let v = c.args.chair.seat.me.0 in
    let is = ap (λ m. m.0) told.5 in record {
      tied = tied_along _ (with_entry v told.1) _ _ _ is c.args.chair.tied;
      own_entries = own_along _ (with_entry v told.1) is (own_entry v told.1 told.4 c.args.chair.own_entries);
    }
