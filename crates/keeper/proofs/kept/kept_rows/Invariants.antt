use Rattle.std.proofs.Common.{◌≡◌}
use Rattle.keeper.proofs.kept.kept_rows.Given as goal

abbrev pub invariant-loop-row : goal.invariant-loop-row
invariant-loop-row l = l.kept.items ≡ l.yielded
