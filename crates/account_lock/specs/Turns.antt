-- What clauses say of a turn.
use Rattle.std.specs.Prelude.{◌≡◌, ◌≤◌, false, [], ◌∷◌, None}
use Rattle.std.specs.Borrow.{MutBor}
use Rattle.account_lock.specs.Known.{View, serving}
use Rattle.account_lock.specs.declared.pass.Pass.{Pass}
use Rattle.account_lock.specs.declared.turn.Turn.{Turn}
use Rattle.account_lock.specs.declared.lock.Lock.{Lock}
use Rattle.account_lock.specs.Passes.{origin_of}

module _ {A : Type 0} where
  -- the view of the turn's pass
  abbrev pub view_in : Turn A → View
  view_in turn = turn.chair.seat.me.0

  -- the value that the turn lends
  abbrev pub value_in : Turn A → A
  value_in turn = turn.value

  -- the lock that the turn belongs to
  abbrev pub lock_of : Turn A → Lock A
  lock_of turn = turn.lock.now

  -- the turn is of the pass that was lent for it, and gives that pass back
  abbrev pub IsLent : MutBor Pass → Turn A → Type 0
  IsLent pass turn = turn.pass.ghost_name ≡ pass.ghost_name

  -- the turn belongs to this lock
  abbrev pub IsTurnOf : Lock A → Turn A → Type 0
  IsTurnOf lock turn = (turn.chair.seat.table_id ≡ lock.table.shared.table_id)
      × (turn.chair.seat.me.1 ≡ (0, None) ∷ []) × ((view_in turn).stage ≡ serving)
      × ((view_in turn).limit ≡ lock.callers)
      × ((view_in turn).made ≤ lock.callers) × ((view_in turn).pending ≡ false)
      × ((view_in turn).origin ≡ origin_of lock)
