-- What clauses say of a lock and its passes.
use Rattle.std.specs.Prelude.{◌≡◌, ℕ, ◌≤◌, false, [], ◌∷◌}
use Rattle.account_core.specs.Histories.{Origin}
use Rattle.account_lock.specs.Known.{View, resting}
use Rattle.account_lock.specs.Ties.{head_view}
use Rattle.account_lock.specs.declared.pass.Pass.{Pass}
use Rattle.account_lock.specs.declared.lock.Lock.{Lock}

-- the view of a pass
abbrev pub view : Pass → View
view pass = head_view pass.badge.views

-- the pass has made no entry, and stands for itself alone
abbrev pub IsNew : View → Type 0
IsNew v = (v.mine ≡ []) × (v.held ≡ 1) × (v.own ≡ 0) × (v.olds ≡ [])

-- the second view agrees with the first in origin, number, own entries, passes held and made, and
-- olds
abbrev pub IsSame : View → View → Type 0
IsSame v w = (w.origin ≡ v.origin) × (w.number ≡ v.number) × (w.mine ≡ v.mine) × (w.held ≡ v.held)
    × (w.own ≡ v.own) × (w.olds ≡ v.olds) × (w.made ≡ v.made)

module _ {A : Type 0} where
  -- how many passes of the lock may be made
  abbrev pub limit_of : Lock A → ℕ
  limit_of lock = lock.callers

  -- where the history of the lock's value begins
  abbrev pub origin_of : Lock A → Origin
  origin_of lock = lock.table.shared.key.0

  -- the pass belongs to this lock and is at rest
  abbrev pub IsOf : Lock A → Pass → Type 0
  IsOf lock pass = (pass.badge.table_id ≡ lock.table.shared.table_id) × (pass.badge.views
      ≡ view pass ∷ []) × ((view pass).stage ≡ resting) × ((view pass).limit ≡ lock.callers)
      × ((view pass).made ≤ lock.callers) × ((view pass).pending ≡ false)
      × ((view pass).origin ≡ origin_of lock)
