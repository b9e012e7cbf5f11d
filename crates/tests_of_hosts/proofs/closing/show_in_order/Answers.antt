use Rattle.std.proofs.Common.{sym, subst, take, get_or}
use Rattle.std.proofs.lemmas.List.{take_all, take_more}
use Rattle.std.proofs.lemmas.List.Elements.{All-push}
use Rattle.std.specs.List.{All}
use Rattle.account_ledger.specs.States.{IsInOrder}
use Rattle.tests_of_hosts.proofs.closing.show_in_order.Goals as goal

pub loop-state-preserved : goal.loop-state-preserved
loop-state-preserved g c =
    let states = c.args.states.now in
    let i = c.loop-state.state-index in
    let s = c.state-item.result in
    subst (All IsInOrder) (sym (take_more states i s c.loop-state-test.true))
    (All-push IsInOrder (take i states) (get_or states i s) c.loop-state.invariant (subst IsInOrder c.state-item.is c.show_in_order.ensures))

pub returns : goal.returns
returns g c = subst (All IsInOrder) (take_all _ _ c.loop-state-test.false) c.loop-state.invariant
