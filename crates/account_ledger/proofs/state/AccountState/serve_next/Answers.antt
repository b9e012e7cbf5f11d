use Rattle.std.proofs.Common.{◌≡◌, ◌<◌, List, [], ◌∷◌, ◌++◌, length, refl, sym, ap, subst, ◌∙◌, rules}
use Rattle.std.specs.Prelude.{Err}
use Rattle.account_core.specs.declared.calls.Entry.{Entry}
use Rattle.account_core.specs.declared.calls.StepError.TheVariants.{NoMemory}
use Rattle.account_core.specs.History.{entry_of}
use Rattle.account_ledger.specs.States.{State}
use Rattle.account_ledger.proofs.Ordering.{is_shown, lists_same, order_made, order_unmade, serves_made, serves_unmade}
use Rattle.account_ledger.proofs.Stepping.{steps_spared}
use Rattle.account_ledger.proofs.state.AccountState.serve_next.Goals as goal

pub returns-in_err-reserve : goal.returns-in_err-reserve
returns-in_err-reserve g c =
    let s = c.self.inside in
    let room = subst (λ (v : State). length v.history < v.origin.journal) (sym c.self.view_is) c.requires.not_full in
    let is : c.from_residual.result ≡ Err NoMemory = search rules in
    rw (← c.self.view_is, is)
    (serves_unmade (g.K.Keeper.told s.opened.value) (g.K.Keeper.faults s.opened.value) s.setup.value s.journal s.live s.history.items c.self.invariant c.show_whole.ensures
    c.args.caller c.args.call c.args.bytes.now (Err NoMemory) s.live (steps_spared c.args.call c.args.bytes.now s.live c.show_whole.ensures (lists_same c.args.call s.live.lists)) c.requires.asked room
    c.reserve.new.self.items c.in_err-reserve.ensures.items refl)

pub perform-answer-requires-clause-shown : goal.perform-answer-requires-clause-shown
perform-answer-requires-clause-shown g c =
    let s = c.self.inside in
    is_shown (g.K.Keeper.told s.opened.value) (g.K.Keeper.faults s.opened.value) s.setup.value s.journal s.live s.history.items c.self.invariant c.show_whole.ensures

pub invariant_of-self-in_default : goal.invariant_of-self-in_default
invariant_of-self-in_default g c =
    let s = c.self.inside in
    let room = subst (λ (v : State). length v.history < v.origin.journal) (sym c.self.view_is) c.requires.not_full in
    order_unmade (g.K.Keeper.told s.opened.value) (g.K.Keeper.faults s.opened.value) s.setup.value s.journal s.live s.history.items c.self.invariant c.show_whole.ensures
    c.args.caller c.args.call c.args.bytes.now c.perform-answer.result c.perform-answer.new.self c.perform-answer.ensures c.requires.asked room
    c.reserve.new.self.items c.in_ok-reserve.ensures.items (sym c.entry_fault.ensures ∙ c.in_default.is)

pub returns-in_default : goal.returns-in_default
returns-in_default g c =
    let s = c.self.inside in
    let room = subst (λ (v : State). length v.history < v.origin.journal) (sym c.self.view_is) c.requires.not_full in
    rw (← c.self.view_is)
    (serves_unmade (g.K.Keeper.told s.opened.value) (g.K.Keeper.faults s.opened.value) s.setup.value s.journal s.live s.history.items c.self.invariant c.show_whole.ensures
    c.args.caller c.args.call c.args.bytes.now c.perform-answer.result c.perform-answer.new.self c.perform-answer.ensures c.requires.asked room
    c.reserve.new.self.items c.in_ok-reserve.ensures.items (sym c.entry_fault.ensures ∙ c.in_default.is))

pub invariant_of-self-2 : goal.invariant_of-self-2
invariant_of-self-2 g c =
    let s = c.self.inside in
    let room = subst (λ (v : State). length v.history < v.origin.journal) (sym c.self.view_is) c.requires.not_full in
    order_made (g.K.Keeper.told s.opened.value) (g.K.Keeper.faults s.opened.value) s.setup.value s.journal s.live s.history.items c.self.invariant c.show_whole.ensures
    c.args.caller c.args.call c.args.bytes.now c.perform-answer.result c.perform-answer.new.self c.perform-answer.ensures c.requires.asked room
    c.push_reserved.new.self.items c.in-Some.fault (c.push_reserved.ensures.items ∙ ap (λ (es : List Entry). es ++ entry_of c.args.caller c.args.call c.in-Some.fault ∷ []) c.in_ok-reserve.ensures.items) (sym c.entry_fault.ensures ∙ c.in-Some.is)

pub returns : goal.returns
returns g c =
    let s = c.self.inside in
    let room = subst (λ (v : State). length v.history < v.origin.journal) (sym c.self.view_is) c.requires.not_full in
    rw (← c.self.view_is)
    (serves_made (g.K.Keeper.told s.opened.value) (g.K.Keeper.faults s.opened.value) s.setup.value s.journal s.live s.history.items c.self.invariant c.show_whole.ensures
    c.args.caller c.args.call c.args.bytes.now c.perform-answer.result c.perform-answer.new.self c.perform-answer.ensures c.requires.asked room
    c.push_reserved.new.self.items c.in-Some.fault (c.push_reserved.ensures.items ∙ ap (λ (es : List Entry). es ++ entry_of c.args.caller c.args.call c.in-Some.fault ∷ []) c.in_ok-reserve.ensures.items) (sym c.entry_fault.ensures ∙ c.in-Some.is))
