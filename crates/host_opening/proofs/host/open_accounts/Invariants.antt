use Rattle.std.proofs.Common.{◌≡◌, ◌≤◌, length, take, vec_capacity}
use Rattle.std.specs.List.{AllZip}
use Rattle.keeper.specs.Calls.{Changes}
use Rattle.host_opening.specs.Opening.{OpensEach, WasOpened}
use Rattle.host_opening.proofs.host.open_accounts.Given as goal

abbrev pub invariant-loop-account : goal.invariant-loop-account
invariant-loop-account g l = record {
  opened : AllZip (WasOpened l.table.epoch) (take l.account l.table.accounts) l.states.items;
  opens : Changes (OpensEach g.M.K.Keeper.told l.table.epoch (take l.account l.table.accounts) l.states.items) (g.M.Stores.told l.fn.stores) (g.M.Stores.told l.stores);
  no_fault : g.M.Stores.faults l.stores ≡ g.M.Stores.faults l.fn.stores;
  long : length l.states.items ≡ l.account;
  room : l.count ≤ vec_capacity l.states;
}
