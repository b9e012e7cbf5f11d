-- What is written of some bytes.
use Rattle.std.specs.Prelude.{◌<◌, ℕ, List, length, take}
use Rattle.std.specs.declared.option.Option.{Option}
use Rattle.std.specs.Io.KnownBytes.{Appends}

-- a proper prefix of the bytes was written
abbrev pub AppendsPart : Option (List ℕ) → Option (List ℕ) → List ℕ → Type 0
AppendsPart written written' bytes = (sent : ℕ) × (sent < length bytes)
    × Appends written written' (take sent bytes)
