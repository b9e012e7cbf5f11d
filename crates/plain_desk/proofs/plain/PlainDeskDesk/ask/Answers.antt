use Rattle.std.proofs.Common.{◌≡◌, ◌<◌, length, get_or, set, sym, ap, ◌∙◌, arith}
use Rattle.std.proofs.lemmas.List.{length-map, set-get_or}
use Rattle.account_ledger.specs.States.{State}
use Rattle.desk.proofs.Lending.{share_here, share_there, shares_set, each_set}
use Rattle.plain_desk.specs.Owning.{share_of}
use Rattle.plain_desk.specs.Continuing.{Continues, continues_itself}
use Rattle.plain_desk.proofs.Asked.{state_here, state_there, set_owned, within_journals, owner_asks, continues, none_due}
use Rattle.plain_desk.proofs.plain.PlainDeskDesk.ask.Goals as goal

pub invariant_of-self : goal.invariant_of-self
invariant_of-self g c =
    let states = c.self.inside.states.items in
    let account = c.args.account in
    let s : State = c.index_mut-state.result.now in
    let there : account < length states = omega (arith, c.requires.account, length-map c.args.self.now share_of, ap length c.self.view_is) in
    let is : get_or states account s ≡ s = sym c.index_mut-state.ensures.value in
    set_owned states account there s is c.serve.new.self c.args.call c.serve.result c.self.invariant c.serve.ensures.serves c.serve.ensures.order

pub returns : goal.returns
returns g c =
    let states = c.self.inside.states.items in
    let account = c.args.account in
    let s : State = c.index_mut-state.result.now in
    let s' : State = c.serve.new.self in
    let there : account < length states = omega (arith, c.requires.account, length-map c.args.self.now share_of, ap length c.self.view_is) in
    let is : get_or states account s ≡ s = sym c.index_mut-state.ensures.value in
    let owned = set_owned states account there s is s' c.args.call c.serve.result c.self.invariant c.serve.ensures.serves c.serve.ensures.order in
    let old = state_here states account there s is in
    let new = state_there states account there s' in
    rw (← c.self.view_is) (record {
      asks = rw (share_here share_of states account there s is, share_there share_of states account there s')
          (owner_asks s s' c.args.call c.serve.result c.serve.ensures.opened c.serve.ensures.serves);
      others = shares_set share_of states account there s';
      within = within_journals (set states account s') owned.each;
      leads = each_set Continues continues_itself states account s s' is (continues s s' c.args.call c.serve.result c.serve.ensures.opened c.serve.ensures.later c.serve.ensures.due);
      owned = owned;
      states = ap (set states account) (sym new);
      serves = rw (old, new) c.serve.ensures.serves;
      rows = rw (old, new) c.serve.ensures.rows;
      ledgers = rw (old, new) c.serve.ensures.ledgers;
      spared = rw (old, new) c.serve.ensures.spared;
      cause = rw (old, new) c.serve.ensures.cause;
      due = rw (old, new) c.serve.ensures.due;
      none_due = rw old (none_due c.serve.result s s' c.serve.ensures.due);
      full = rw old c.serve.ensures.full;
      unchanged = λ limit full. ap (set states account) (c.serve.ensures.unchanged limit full ∙ sym is) ∙ set-get_or states account s;
    })
