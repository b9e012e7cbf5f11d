-- The ledger of a root: a folded text, and when a ledger is right.
use Rattle.std.specs.Prelude.{◌≡◌, ◌<◌, ◌^◌, ℕ, pos, List, [], ◌∷◌, length, Option, Some}
use Rattle.quota_units.specs.Limiting.{LimitNumbers}
use Rattle.quota_units.specs.declared.totals.Totals.{Totals}
use Rattle.maildirsize.specs.Sums.{Pair, sum_of}
use Rattle.maildirsize.specs.Written.{written_ledger, IsSmall}

abbrev pub pair_of : Totals → Pair
pair_of totals = record { octets = pos totals.octets; count = pos totals.count }

-- the limits, and the totals as one sum line
abbrev pub folded : LimitNumbers → Totals → List ℕ
folded limits totals = written_ledger limits (pair_of totals ∷ [])

-- each pair's numbers are below 10 ^ 18 in magnitude
abbrev pub AreSmallPairs : List Pair → Type 0
AreSmallPairs [] = Unit {0}
AreSmallPairs (pair ∷ pairs) = IsSmall pair × AreSmallPairs pairs

-- What a ledger is written from: totals below 2 ^ 63, and small pairs after them.
abbrev pub AreWritten : List Pair → Type 0
AreWritten [] = ⊥
AreWritten (pair ∷ pairs) = ((totals : Totals) × (totals.octets < 2 ^ 63) × (totals.count < 2 ^ 63)
    × (pair ≡ pair_of totals)) × AreSmallPairs pairs

-- The ledger is the written text of these limits and of pairs that add up to the usage.
pub record IsRight (limits : LimitNumbers) (usage : Totals)
    (ledger : Option (List ℕ)) : Type 0 where
  pub pairs : List Pair
  pub text : ledger ≡ Some (written_ledger limits pairs)
  pub short : length (written_ledger limits pairs) < 5120
  pub numbers : AreWritten pairs
  pub sums : sum_of pairs ≡ pair_of usage
