-- Limits of a quota root.
use Rattle.std.specs.Prelude.{◌≤◌, ℕ, Option, IfSome}
use Rattle.quota_units.specs.declared.limits.TheConstants.{LARGEST_LIMIT}

pub record LimitNumbers : Type 0 where
  pub octets : Option ℕ
  pub count : Option ℕ

-- a number that can be a limit
pub record IsLimit (n : ℕ) : Type 0 where
  pub some : 1 ≤ n
  pub bounded : n ≤ LARGEST_LIMIT

-- each number that is set can be a limit
pub record AreLimits (limits : LimitNumbers) : Type 0 where
  pub octets : IfSome limits.octets IsLimit
  pub count : IfSome limits.count IsLimit
