use Rattle.std.proofs.Common.{rules, ◌≡◌, List, [], ◌∷◌, ◌++◌, length, map, sym, ap, ◌∙◌, subst}
use Rattle.account_ledger.specs.States.{State}
use Rattle.plain_desk.specs.Owning.{share_of}
use Rattle.front_core.specs.Desks.{IsDeskOf}
use Rattle.tests_of_desks.proofs.OwnerLemmas.{one_fits}
use Rattle.tests_of_desks.proofs.one_account.open_desk.Goals as goal

pub returns-clause-desk : goal.returns-clause-desk
returns-clause-desk g c =
    let a = c.in_ok-open_account.field-0 in
    let is : c.new.result ≡ a ∷ [] = c.new.ensures ∙ c.in_ok-push.ensures.items ∙ ap (λ (l : List State). l ++ a ∷ []) c.new-states.ensures.items in
    let one : length c.args.table.now.accounts ≡ 1 = search rules in
    subst (λ (l : List State). IsDeskOf c.args.table.now (map share_of l)) (sym is) (one_fits c.args.table.now a one c.in_ok-open_account.ensures.opened)
