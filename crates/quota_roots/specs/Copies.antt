-- Copies of values.
use Rattle.std.specs.Prelude.{◌≡◌, Result, IfOk}

-- if memory did not run out, the copy is equal to the value
abbrev pub GivesCopy : {T E : Type 0} → T → Result T E → Type 0
GivesCopy value result = IfOk result (λ copy. copy ≡ value)
