-- The one spelling in which a ledger is written.
use Rattle.std.specs.Prelude.{◌<◌, ℕ, unsigned_abs, List, ◌++◌, Option, Some, None, codes, decimal}
use Rattle.std.specs.Fmt.{signed_decimal}
use Rattle.std.specs.List.{flat_map}
use Rattle.quota_units.specs.Limiting.{LimitNumbers}
use Rattle.maildirsize.specs.Sums.{Pair}

-- S before C, and `0S` if no limit is set
abbrev pub written_limits : Option ℕ → Option ℕ → List ℕ
written_limits None None = codes "0S"
written_limits (Some octets) None = decimal octets ++ codes "S"
written_limits None (Some count) = decimal count ++ codes "C"
written_limits (Some octets) (Some count) =
    decimal octets ++ (codes "S," ++ (decimal count ++ codes "C"))

abbrev pub written_definition : LimitNumbers → List ℕ
written_definition limits = written_limits limits.octets limits.count

-- a sum line with its line feed
abbrev pub written_line : Pair → List ℕ
written_line pair =
    signed_decimal pair.octets ++ (codes " " ++ (signed_decimal pair.count ++ codes "\n"))

-- a whole ledger
abbrev pub written_ledger : LimitNumbers → List Pair → List ℕ
written_ledger limits pairs =
    written_definition limits ++ (codes "\n" ++ flat_map written_line pairs)

-- the numbers of a line that reads back: below 10 ^ 18 in magnitude
pub record IsSmall (pair : Pair) : Type 0 where
  pub octets : unsigned_abs pair.octets < 1000000000000000000
  pub count : unsigned_abs pair.count < 1000000000000000000
