-- What a net's calls do.
use Rattle.std.specs.Prelude.{◌≡◌, List, [], ◌∷◌, ◌++◌, Some, None, Result, Ok, Err}
use Rattle.std.specs.declared.option.Option.{Option}
use Rattle.wire_net.specs.declared.net.NetError.{NetError}
use Rattle.wire_net.specs.declared.net.NetError.TheVariants.{NoMemory, Failed}

-- the net failed
abbrev pub IsNetFailure : {X : Type 0} → Result X NetError → Type 0
IsNetFailure (Ok made) = ⊥
IsNetFailure (Err NoMemory) = ⊥
IsNetFailure (Err Failed) = Unit {0}

-- the net took a door back: it is the last one of those that were taken back
abbrev pub Retires : {D : Type 0} → D → Option (List D) → Option (List D) → Type 0
Retires door None after = after ≡ None
Retires door (Some doors) after = after ≡ Some (doors ++ door ∷ [])
