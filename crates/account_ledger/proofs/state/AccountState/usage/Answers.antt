use Rattle.std.proofs.Common.{◌≡◌, nat_eq, subst}
use Rattle.std.specs.Prelude.{IfOk}
use Rattle.account_ledger.specs.Lives.{store_of}
use Rattle.account_ledger.specs.Settling.{SettlesSome}
use Rattle.account_ledger.specs.States.{IsAccount, OfAccount, State}
use Rattle.account_ledger.specs.Stores.{usage_at}
use Rattle.account_ledger.proofs.Ordering.{order_prepared, settles_seen, usage_seen}
use Rattle.account_ledger.proofs.state.AccountState.usage.Goals as goal

pub invariant_of-self : goal.invariant_of-self
invariant_of-self g c =
    let s = c.self.inside in
    order_prepared (g.K.Keeper.told s.opened.value) (g.K.Keeper.faults s.opened.value) s.setup.value s.journal s.live s.history.items c.self.invariant c.show_whole.ensures
    _ _ c.usage-usage.new.self c.usage-usage.ensures.prepares

pub returns-clause-usage : goal.returns-clause-usage
returns-clause-usage g c =
    let s = c.self.inside in
    subst (λ (v : State). IfOk c.usage-usage.result (λ totals. OfAccount v (λ account. totals ≡ usage_at v.origin.roots c.args.root account))) c.self.view_is
    (usage_seen (g.K.Keeper.told s.opened.value) (g.K.Keeper.faults s.opened.value) s.setup.value s.journal s.live s.history.items c.self.invariant c.show_whole.ensures
    c.args.root c.usage-usage.result c.usage-usage.ensures.usage)

pub returns-clause-settles : goal.returns-clause-settles
returns-clause-settles g c =
    let s = c.self.inside in
    subst (λ (v : State). SettlesSome (IsAccount v) (nat_eq c.args.root) v.store (store_of c.usage-usage.new.self)) c.self.view_is
    (settles_seen (g.K.Keeper.told s.opened.value) (g.K.Keeper.faults s.opened.value) s.setup.value s.journal s.live s.history.items c.self.invariant c.show_whole.ensures
    (nat_eq c.args.root) (store_of c.usage-usage.new.self) c.usage-usage.ensures.prepares.settles)
