-- What a door's calls do.
use Rattle.std.specs.Prelude.{◌≡◌, ◌<◌, ℕ, Bool, false, List, [], ◌∷◌, ◌++◌, length, Some, None}
use Rattle.std.specs.declared.option.Option.{Option}
use Rattle.wire_net.specs.declared.door.Accepted.{Accepted}
use Rattle.wire_net.specs.declared.door.Accepted.TheVariants.{Connected, Stopped, Failed}
use Rattle.wire_net.specs.Told.{Item, Told}

module _ {I O : Type 0} where
  -- a fact for each answer of an accept
  abbrev pub MatchAccepted : Accepted I O → (I → O → Type 0) → Type 0 → Type 0 → Type 0
  MatchAccepted (Connected input output) connected stopped failed = connected input output
  MatchAccepted Stopped connected stopped failed = stopped
  MatchAccepted Failed connected stopped failed = failed

  -- the accept answered that the door has stopped
  abbrev pub IsStopped : Accepted I O → Type 0
  IsStopped answer = MatchAccepted answer (λ _ _. ⊥) (Unit {0}) ⊥

  -- the accept failed
  abbrev pub IsMissed : Accepted I O → Type 0
  IsMissed answer = MatchAccepted answer (λ _ _. ⊥) ⊥ (Unit {0})

-- the door gave a connection with these bytes left, to which this was written; if the door tells,
-- both ends do, and nothing was written yet
abbrev pub Hands : (left written : Option (List ℕ)) → Option Told → Option Told → Type 0
Hands left written None after = after ≡ None
Hands left written (Some told) after = (bytes : List ℕ) × (left ≡ Some bytes)
    × (written ≡ Some [])
    × (after ≡ Some (record told { handed = told.handed ++ bytes ∷ [] }))

-- some connection that the door gave was not given back yet, if it tells
abbrev pub MayFinish : Option Told → Type 0
MayFinish None = Unit {0}
MayFinish (Some told) = length told.done < length told.handed

-- the door got a connection back
abbrev pub Finishes : Item → Option Told → Option Told → Type 0
Finishes item None after = after ≡ None
Finishes item (Some told) after = after ≡ Some (record told { done = told.done ++ item ∷ [] })

-- no connection was given or given back, if the door tells
abbrev pub IsUnused : Option Told → Type 0
IsUnused None = Unit {0}
IsUnused (Some told) = (told.handed ≡ []) × (told.done ≡ [])

module _ {D : Type 0} (misses : D → ℕ) (ended asked : D → Bool) (told : D → Option Told) where
  -- a door as it was opened
  abbrev pub IsFresh : D → Type 0
  IsFresh door = (misses door ≡ 0) × (ended door ≡ false) × (asked door ≡ false)
      × IsUnused (told door)
