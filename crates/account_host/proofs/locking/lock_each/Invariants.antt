use Rattle.std.proofs.Common.{◌≡◌, ◌≤◌, List, ◌++◌, length, reverse, vec_capacity}
use Rattle.std.specs.List.{All, AllZip}
use Rattle.account_ledger.specs.States.{State}
use Rattle.account_lock.specs.Passes.{IsOf, limit_of}
use Rattle.account_host.proofs.Ended.{PassBegins}
use Rattle.account_host.proofs.locking.lock_each.Given as goal

abbrev pub invariant-loop-state : goal.invariant-loop-state
invariant-loop-state g l = record {
  gone : List State;
  joined : l.states.items ++ reverse gone ≡ l.fn.states.items;
  seated : AllZip IsOf l.locks.items l.passes.items;
  limits : All (λ lock. limit_of lock ≡ l.callers) l.locks.items;
  begun : AllZip PassBegins gone l.passes.items;
  room : length l.fn.states.items ≤ vec_capacity l.states;
  locks_room : length l.fn.states.items ≤ vec_capacity l.locks;
  passes_room : length l.fn.states.items ≤ vec_capacity l.passes;
}

abbrev pub decreases-loop-state : goal.decreases-loop-state
decreases-loop-state g l = length l.states.items
