-- Sums of messages' octets and numbers, and what they are cut at.
use Rattle.std.specs.Prelude.{◌<◌, ◌-◌, ◌^◌, ℕ, min}
use Rattle.quota_units.specs.declared.totals.Totals.{Totals}

-- The numbers kept of a store that tells nothing are cut here. No account that tells its files
-- reaches this number.
abbrev pub max_sum : ℕ
max_sum = 2 ^ 62 - 1

abbrev pub cut_sum : ℕ → ℕ
cut_sum n = min n max_sum

abbrev pub cut_totals : ℕ → ℕ → Totals
cut_totals octets count = record { octets = cut_sum octets; count = cut_sum count }

pub record AreSmall (totals : Totals) : Type 0 where
  pub octets : totals.octets < 2 ^ 62
  pub count : totals.count < 2 ^ 62
