use Rattle.std.proofs.Common.{◌≡◌, ◌++◌, replicate}
use Rattle.std.specs.Prelude.{None}
use Rattle.keeper.proofs.files.filled.Given as goal

abbrev pub invariant-loop : goal.invariant-loop
invariant-loop l = l.ledgers.items ≡ l.fn.ledgers.items ++ replicate l.counter None
