-- What a pass stores besides its view.
use Rattle.std.specs.Prelude.{◌≡◌, ℕ, List, [], ◌∷◌}
use Rattle.account_core.specs.declared.calls.Entry.{Entry}
use Rattle.account_core.specs.Histories.{calls_by}
use Rattle.account_lock.specs.Known.{View, nobody}

abbrev pub head_view : List View → View
head_view [] = nobody
head_view (v ∷ views) = v

-- the stored numbers are those of the view
abbrev pub IsTied : View → ℕ → ℕ → ℕ → Type 0
IsTied v number held made = (v.number ≡ number) × (v.held ≡ held) × (v.made ≡ made)

-- a view's own entries: those that it has seen with its number
abbrev pub own_seen : View → List Entry
own_seen v = calls_by v.number v.seen
