-- Storage units: RFC 9208, section 5.1, counts storage in units of 1024 octets.
use Rattle.std.specs.Prelude.{◌≤◌, ◌*◌, ℕ}
use Rattle.std.specs.Int.{div_ceil}

-- n is the least number of units that hold the octets
pub record IsLeastUnits (octets n : ℕ) : Type 0 where
  pub holds : octets ≤ 1024 * n
  pub least : (m : ℕ) → octets ≤ 1024 * m → n ≤ m

-- the least number of units that hold the octets
abbrev pub units_of : ℕ → ℕ
units_of octets = div_ceil octets 1024
