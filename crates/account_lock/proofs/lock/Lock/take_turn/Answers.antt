use Rattle.std.proofs.Common.{◌∷◌, List, Option, Some, ℕ, arith, ap, sym, ◌∙◌}
use Rattle.atomic_table.specs.Table.{rest}
use Rattle.account_lock.proofs.Keeps.{draws}
use Rattle.account_lock.proofs.lock.Lock.take_turn.Goals as goal

pub fetch_add-ticket-requires : goal.fetch_add-ticket-requires
fetch_add-ticket-requires g c = (c.requires.lock, omega arith, draws g.V.Booked.origin g.V.Booked.history _ _ _ _ c.requires.rests.0)

pub exchange-slot-requires : goal.exchange-slot-requires
exchange-slot-requires g c =
    let turn = c.wait-seat.ensures.turn in
    let slot = ap (λ m. m.1) turn.1 in (
      c.wait-seat.ensures.lock ∙ (c.fetch_add-ticket.ensures.0 ∙ c.requires.lock),
      (Some turn.0, slot ∙ ap (λ (l : List (ℕ × Option g.row.V.Denot)). (0, Some turn.0) ∷ l) (sym (ap rest slot))),
    )
