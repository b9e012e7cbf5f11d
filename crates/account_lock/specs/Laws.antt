-- Laws that follow from the rule of a lock. They hold between any two steps.
use Rattle.std.specs.Prelude.{◌≡◌, ℕ, ◌+◌, ◌%◌, ◌^◌, ◌<◌, ◌≤◌, ◌↔◌, List, [], ◌∷◌, length, slice_index, Option, Some}
use mathlib.Core.Option.{some}
use Rattle.atomic_table.specs.Table.{State}
use Rattle.account_core.specs.declared.calls.Entry.{Entry}
use Rattle.account_core.specs.Histories.{Origin, Begins, EachBegins, calls_by}
use Rattle.account_lock.specs.Known.{View, serving}
use Rattle.account_lock.specs.Order.{At, Exists, HasTicket, IsLive, KeepsOrder}

module _ {A : Type 0} (origin : A → Origin) (history : A → List Entry) where
  -- at most one pass has the turn, and its ticket is the one that is served
  abbrev pub OneTurn : Type 0
  OneTurn = (limit : ℕ) (s : State (Option A) View) → KeepsOrder origin history limit s → (i j : ℕ)
      (v w : View) → At s.views i v → At s.views j w → v.stage ≡ serving → w.stage ≡ serving
      → (i ≡ j) × (slice_index s.words 1 ≡ v.ticket % 2 ^ 64)

  -- the tickets that are out are those from the one that is served up to the next to be drawn, and
  -- each is out with one view
  abbrev pub TicketsInLine : Type 0
  TicketsInLine = (limit : ℕ) (s : State (Option A) View) → KeepsOrder origin history limit s
      → (served drawn : ℕ) × (slice_index s.words 0 ≡ drawn % 2 ^ 64)
      × (slice_index s.words 1 ≡ served % 2 ^ 64) × (served ≤ drawn) × (drawn ≤ served + limit)
      × ((t : ℕ) → ((served ≤ t) × (t < drawn)) ↔ Exists (HasTicket t) s.views)
      × ((t i j : ℕ) (v w : View) → At s.views i v → At s.views j w → HasTicket t v → HasTicket t w
      → i ≡ j)

  -- the history of a value at home has as many entries as are counted, modulo 2 ^ 64; each pass has
  -- seen a prefix of it, and its own entries are those with its number
  abbrev pub HomeIsCounted : Type 0
  HomeIsCounted = (limit : ℕ) (s : State (Option A) View) → KeepsOrder origin history limit s
      → (x : A)
      → s.homes ≡ some (Some x) ∷ []
      → (slice_index s.words 2 ≡ length (history x) % 2 ^ 64)
      × ((i : ℕ) (v : View) → At s.views i v → IsLive v → (v.origin ≡ origin x) × Begins v.seen
      (history x) × EachBegins v.olds (history x) × (calls_by v.number (history x) ≡ v.mine))
