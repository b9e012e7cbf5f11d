use Rattle.std.proofs.Common.{refl, ap, ◌∙◌, rules}
use Rattle.account_ledger.proofs.Opened.{order_opened}
use Rattle.account_ledger.proofs.Showing.{standing_of}
use Rattle.account_ledger.proofs.state.AccountState.open.Goals as goal

pub invariant_of-state : goal.invariant_of-state
invariant_of-state g c =
    let k = c.args.keeper in
    let n = c.admit_files.new.keeper in
    rw (c.of-opened.ensures, c.of-as_set_up.ensures, c.new.ensures.items)
    (order_opened (g.K.Keeper.told k) (g.K.Keeper.told n) (g.K.Keeper.faults k) (g.K.Keeper.faults n) (g.K.Keeper.append_faults n) (g.K.Keeper.lists n) c.args.setup c.args.epoch
    c.in-Ok-in_doubt.ledgers.limits c.in-Ok-in_doubt.ledgers.books c.requires c.in-Ok.ensures.cause.later c.in-Ok-in_doubt.ensures.doubt (search rules))

pub returns-clause-opened : goal.returns-clause-opened
returns-clause-opened g c = record {
  roots = refl;
  journal = refl;
  epoch_is = refl;
  opening = rw (c.of-opened.ensures, c.of-as_set_up.ensures) refl;
  mailboxes = refl;
  history = c.new.ensures.items;
  doubt = λ root. standing_of c.in-Ok-in_doubt.ledgers.books root ∙ c.in-Ok-in_doubt.ensures.doubt root;
  first_faults = ap g.K.Keeper.faults c.of-opened.ensures;
  faults_are = c.in-Ok.ensures.cause.kept (search rules);
}
