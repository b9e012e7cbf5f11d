use Rattle.std.proofs.Common.{◌≡◌, ◌<◌, ℕ, List, ◌++◌, length, take, drop}
use Rattle.quota_units.specs.Causes.{HasCause}
use Rattle.keeper.specs.Calls.{Changes}
use Rattle.account_ledger.specs.States.{State}
use Rattle.host_opening.specs.Closing.{ClosesEach, faults_of}
use Rattle.host_opening.proofs.host.close_first.Given as goal

abbrev pub invariant-loop-state : goal.invariant-loop-state
invariant-loop-state g l = (gone : List State) × (l.states.items ++ gone ≡ l.fn.states.items)
    × Changes (ClosesEach g.M.K.Keeper.told g.M.K.Keeper.faults g.M.K.Keeper.append_faults g.M.K.Keeper.lists
    (drop (length l.states.items) (take (length l.fn.states.items) l.table.accounts)) gone) (g.M.Stores.told l.fn.stores) (g.M.Stores.told l.stores)
    × HasCause (0 < faults_of gone) (g.M.Stores.faults l.fn.stores) (g.M.Stores.faults l.stores)

abbrev pub decreases-loop-state : goal.decreases-loop-state
decreases-loop-state g l = length l.states.items
