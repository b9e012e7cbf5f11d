use Rattle.std.proofs.Common.{◌≤◌, ◌<◌, length, subst, rules}
use Rattle.std.specs.List.{All}
use Rattle.std.proofs.lemmas.List.Elements.{All-more}
use Rattle.std.proofs.lemmas.List.{take_all}
use Rattle.account_ledger.specs.States.{IsInOrder}
use Rattle.plain_desk.proofs.Asked.{fresh_owned}
use Rattle.plain_desk.proofs.plain.PlainDesk.new.Goals as goal

pub invariant_of-result : goal.invariant_of-result
invariant_of-result g c =
    let states = c.args.states.items in
    let n = c.loop-state.state-index in
    let all : length states ≤ n = search rules in
    record {
      each = fresh_owned states c.requires.fresh (subst (All IsInOrder) (take_all n states all) c.loop-state.invariant);
      few = c.requires.few;
    }

pub loop-state-preserved : goal.loop-state-preserved
loop-state-preserved g c =
    let states = c.args.states.items in
    let n = c.loop-state.state-index in
    let state = c.state-item.result in
    let inside : n < length states = search rules in
    All-more IsInOrder states n state inside c.loop-state.invariant (subst IsInOrder (rw c.deref-state-items.ensures.value at c.state-item.is) c.show_in_order.ensures)
