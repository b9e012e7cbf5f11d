use Rattle.std.proofs.Common.{◌≡◌}
use Rattle.account_lock.specs.Passes.{IsOf, view}
use Rattle.tests_of_stores.proofs.turns.make_calls.Given as goal

abbrev pub invariant-loop-number : goal.invariant-loop-number
invariant-loop-number g l = record {
  lock : IsOf l.lock l.pass;
  same : ((view l.pass).number ≡ (view l.initial.pass).number) × ((view l.pass).held ≡ (view l.initial.pass).held) × ((view l.pass).made ≡ (view l.initial.pass).made);
}
