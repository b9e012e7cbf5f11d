use Rattle.std.proofs.Common.{◌≡◌, ◌≤◌, ◌++◌, length, map, take, drop, vec_capacity}
use Rattle.std.specs.List.{AllZip}
use Rattle.account_lock.specs.Views.{having_made, newcomer}
use Rattle.account_lock.specs.Passes.{IsOf}
use Rattle.account_host.specs.Sets.{views, views_of}
use Rattle.account_host.specs.Seating.{AreSeated}
use Rattle.account_host.proofs.host.Host.enlist_each.Given as goal

abbrev pub invariant-loop-account : goal.invariant-loop-account
invariant-loop-account g l = record {
  seated : AreSeated l.self.locks.items l.first.passes.items;
  first : views_of l.first ≡ map having_made (take l.account (views_of l.fn.first)) ++ drop l.account (views_of l.fn.first);
  made : AllZip IsOf (take l.account l.self.locks.items) l.passes.items;
  made_views : views l.passes.items ≡ map newcomer (take l.account (views_of l.fn.first));
  room : length l.fn.first.passes.items ≤ vec_capacity l.passes;
}
