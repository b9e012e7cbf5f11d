use Rattle.std.proofs.Common.{subst}
use Rattle.account_ledger.specs.States.{IsInOrder}
use Rattle.account_ledger.proofs.Ordering.{order_seen}
use Rattle.account_ledger.proofs.state.AccountState.show_in_order.Goals as goal

pub returns : goal.returns
returns g c =
    let s = c.self.inside in
    subst IsInOrder c.self.view_is
    (order_seen (g.K.Keeper.told s.opened.value) (g.K.Keeper.faults s.opened.value) s.setup.value s.journal s.live s.history.items c.self.invariant c.show_whole.ensures)
