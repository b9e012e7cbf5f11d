-- What the thread that makes a step knows after it, for each kind of step.
use Rattle.std.specs.Prelude.{◌≡◌, ◌≢◌, ℕ, ◌%◌, ◌^◌, ◌<◌, ◌≤◌, List, [], ◌∷◌, ◌++◌, Option, Some}
use Rattle.atomic_table.specs.Table.{Me, Step, rest}
use Rattle.account_core.specs.declared.calls.Entry.{Entry}
use Rattle.account_core.specs.Histories.{Origin, Begins, EachBegins, calls_by}
use Rattle.account_lock.specs.Known.{View}
use Rattle.account_lock.specs.Views.{with_ticket, with_turn, at_rest, with_entry, having_made}

-- all that the view has seen is a prefix of these entries, and those of the entries with its number
-- are the ones that it made
abbrev pub Extends : View → List Entry → Type 0
Extends v log = Begins v.seen log × EachBegins v.olds log × (calls_by v.number log ≡ v.mine)

module _ {A : Type 0} (origin : A → Origin) (history : A → List Entry) where
  -- a view, and the slot that is out with it
  abbrev pub Seated : Type 0
  Seated = Me (Option A) View

  -- draw: a ticket was drawn, and this is its number
  abbrev pub drew : Step (Option A) → Seated → ℕ → Seated → Type 0
  drew step m r m' = (t : ℕ) × (r ≡ t % 2 ^ 64) × (m' ≡ (with_ticket m.0 t, m.1))

  -- look: if its ticket is served, the pass took the slot, with a value that has the whole history;
  -- if not, nothing changed
  abbrev pub looked : Step (Option A) → Seated → ℕ → Seated → Type 0
  looked step m r m' =
      (r ≡ m.0.ticket % 2 ^ 64 → (x : A) × (m' ≡ (with_turn m.0 (history x), (0, Some x) ∷ m.1))
      × (origin x ≡ m.0.origin) × Extends m.0 (history x))
      × (r ≢ m.0.ticket % 2 ^ 64 → m' ≡ m)

  -- serve next: the slot was given back
  abbrev pub served_next : Step (Option A) → Seated → ℕ → Seated → Type 0
  served_next step m r m' = m' ≡ (at_rest m.0, rest m.1)

  -- commit: the entry that the value in the slot has gained has its place in the history
  abbrev pub committed : Step (Option A) → Seated → ℕ → Seated → Type 0
  committed step m r m' = (x : A) × (e : Entry) × (m.1 ≡ (0, Some x) ∷ [])
      × (history x ≡ m.0.seen ++ e ∷ []) × (e.caller ≡ m.0.number) × (m' ≡ (with_entry m.0 e, m.1))

  -- enlist: a pass was made
  abbrev pub enlisted : Step (Option A) → Seated → ℕ → Seated → Type 0
  enlisted step m r m' = m' ≡ (having_made m.0, m.1)

  -- bound: a look at the number of entries, which changes nothing; a pass stands for no more passes
  -- than may be made, and its entries are all that it has seen with its number
  abbrev pub bounded : Step (Option A) → Seated → ℕ → Seated → Type 0
  bounded step m r m' = (m' ≡ m) × (m.0.held ≤ m.0.limit) × (m.0.limit < 2 ^ 32)
      × (calls_by m.0.number m.0.seen ≡ m.0.mine)
