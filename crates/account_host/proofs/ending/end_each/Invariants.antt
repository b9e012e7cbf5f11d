use Rattle.std.proofs.Common.{◌≡◌, ◌≤◌, ◌+◌, List, ◌++◌, length, reverse, vec_capacity}
use Rattle.std.specs.List.{AllZip}
use Rattle.account_ledger.specs.States.{State}
use Rattle.account_lock.specs.Passes.{IsOf}
use Rattle.account_lock.specs.declared.pass.Pass.{Pass}
use Rattle.account_host.specs.Sets.{views, AreFirst, AreWhole}
use Rattle.account_host.specs.Closing.{PassCloses}
use Rattle.account_host.proofs.ending.end_each.Given as goal

abbrev pub invariant-loop-lock : goal.invariant-loop-lock
invariant-loop-lock g l = record {
  gone : List Pass;
  more : List State;
  joined : l.passes.items ++ reverse gone ≡ l.fn.passes.items;
  added : l.states.items ≡ l.fn.states.items ++ more;
  closed : AllZip PassCloses gone more;
  seated : AllZip IsOf l.locks.items l.passes.items;
  first : AreFirst (views l.passes.items);
  whole : AreWhole (views l.passes.items);
  room : length l.states.items + length l.locks.items ≤ vec_capacity l.states;
}

abbrev pub decreases-loop-lock : goal.decreases-loop-lock
decreases-loop-lock g l = length l.locks.items
