-- A sink in memory.
use Rattle.std.specs.Prelude.{ℕ, List}

-- the bytes written, and how often a write failed
pub record Collected : Type 0 where
  pub bytes : List ℕ
  pub faults : ℕ
