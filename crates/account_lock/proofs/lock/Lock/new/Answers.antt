use Rattle.std.proofs.Common.{List, [], ◌∷◌, Option, sym, subst, arith}
use Rattle.atomic_table.specs.Table.{opening}
use Rattle.account_core.specs.Histories.{Origin}
use Rattle.account_lock.specs.Order.{KeepsOrder}
use Rattle.account_lock.specs.Views.{first_view}
use Rattle.account_lock.proofs.Joins.{starts}
use Rattle.account_lock.proofs.lock.Lock.new.Goals as goal

pub new-requires : goal.new-requires
new-requires g c =
    let slots = c.in_ok-slots.ensures.ok in
    let start = c.of.ensures in
    let origin = g.V.Booked.origin in
    let history = g.V.Booked.history in
    let callers = c.args.callers in
    subst (λ (z : List (Option g.row.V.Denot) × Origin). KeepsOrder origin history callers (opening (0 ∷ 0 ∷ 0 ∷ 1 ∷ []) z.0 (first_view z.1 callers))) (λ i. (sym slots i, sym start i))
    (starts origin history c.args.value callers c.requires.callers (omega arith) c.requires.history)
