use Rattle.std.proofs.Common.{List, ℕ, ap, sym, subst}
use Rattle.std.specs.Prelude.{Option}
use Rattle.keeper.specs.Accounts.{Closes}
use Rattle.keeper.proofs.Changing.{changes_weaken}
use Rattle.host_opening.specs.Closing.{ClosesOne, IsKeeperOf}
use Rattle.host_opening.proofs.Closed.{closes_one}
use Rattle.host_opening.proofs.account.close_account.Goals as goal

pub returns-clause-closes : goal.returns-clause-closes
returns-clause-closes g c =
    let keeper = c.into_keeper.result in
    let is : IsKeeperOf g.M.K.Keeper.told g.M.K.Keeper.faults g.M.K.Keeper.append_faults g.M.K.Keeper.lists c.args.state keeper = record {
      told_is = c.into_keeper.ensures.told;
      faults_are = c.into_keeper.ensures.faults;
      append_faults_are = c.into_keeper.ensures.append_faults;
      lists_are = c.into_keeper.ensures.lists;
    } in
    changes_weaken (Closes c.as_slice.result.now keeper) (ClosesOne g.M.K.Keeper.told g.M.K.Keeper.faults g.M.K.Keeper.append_faults g.M.K.Keeper.lists c.args.entry.now c.args.state)
    (λ a b closes. closes_one g.M.K.Keeper.told g.M.K.Keeper.faults g.M.K.Keeper.append_faults g.M.K.Keeper.lists c.args.entry.now c.args.state keeper a b is
    (subst (λ (name : List ℕ). Closes name keeper a b) c.as_slice.ensures.value closes))
    (g.M.Stores.told c.args.stores.now) (g.M.Stores.told c.close.new.self) c.close.ensures.accounts
