use Rattle.std.proofs.Common.{ℕ, ◌<◌, get_or}
use Rattle.quota_units.specs.Limiting.{LimitNumbers, AreLimits}
use Rattle.account_ledger.proofs.rows.show_limits.Given as goal

abbrev pub invariant-loop-own : goal.invariant-loop-own
invariant-loop-own l = (k : ℕ) (d : LimitNumbers) → k < l.own-index → AreLimits (get_or l.limits k d)
