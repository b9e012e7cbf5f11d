-- Laws of the readable and the written ledger.
use Rattle.std.specs.Prelude.{◌≡◌, ◌<◌, ℕ, List, length}
use Rattle.std.specs.List.{AllByRecursion}
use Rattle.quota_units.specs.Limiting.{LimitNumbers, AreLimits}
use Rattle.maildirsize.specs.Sums.{Pair}
use Rattle.maildirsize.specs.Written.{written_ledger, IsSmall}
use Rattle.maildirsize.specs.Reading.{Reads}

-- a text has one reading at most
abbrev pub OneReading : Type 0
OneReading =
    (bytes : List ℕ) (l m : LimitNumbers) (ps qs : List Pair) → Reads bytes l ps → Reads bytes m qs
    → (l ≡ m) × (ps ≡ qs)

-- A written ledger that is shorter than 5120 bytes, with numbers below 10 ^ 18 in magnitude, reads
-- as the limits and pairs that were written, and as no others.
abbrev pub WrittenReadsBack : Type 0
WrittenReadsBack =
    (limits : LimitNumbers) (pairs : List Pair)
    → AreLimits limits → AllByRecursion IsSmall pairs → length (written_ledger limits pairs) < 5120
    → Reads (written_ledger limits pairs) limits pairs
    × ((m : LimitNumbers) (qs : List Pair) → Reads (written_ledger limits pairs) m qs → (m ≡ limits)
    × (qs ≡ pairs))
