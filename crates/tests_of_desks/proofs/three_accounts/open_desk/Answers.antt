use Rattle.std.proofs.Common.{rules, ◌≡◌, List, [], ◌∷◌, ◌++◌, length, map, sym, ap, ◌∙◌, subst, arith}
use Rattle.std.proofs.lemmas.List.Elements.{All-push}
use Rattle.account_ledger.specs.States.{State}
use Rattle.plain_desk.specs.Owning.{IsFresh, share_of}
use Rattle.front_core.specs.Desks.{IsDeskOf}
use Rattle.tests_of_desks.proofs.OwnerLemmas.{three_fit}
use Rattle.tests_of_desks.proofs.three_accounts.open_desk.Goals as goal

pub new-requires-clause-fresh : goal.new-requires-clause-fresh
new-requires-clause-fresh g c =
    let a = c.in_ok-open_account.field-0 in
    let b = c.in_ok-open_account-2.field-0 in
    let d = c.in_ok-open_account-3.field-0 in
    rw (c.in_ok-push-3.ensures.items, c.in_ok-push-2.ensures.items, c.in_ok-push.ensures.items, c.new-states.ensures.items)
    (All-push IsFresh (a ∷ b ∷ []) d (All-push IsFresh (a ∷ []) b (All-push IsFresh [] a (λ k e lt. absurd (omega arith)) c.in_ok-open_account.ensures.fresh) c.in_ok-open_account-2.ensures.fresh) c.in_ok-open_account-3.ensures.fresh)

pub returns-clause-desk : goal.returns-clause-desk
returns-clause-desk g c =
    let a = c.in_ok-open_account.field-0 in
    let b = c.in_ok-open_account-2.field-0 in
    let d = c.in_ok-open_account-3.field-0 in
    let is : c.new.result ≡ a ∷ b ∷ d ∷ [] =
    c.new.ensures ∙ c.in_ok-push-3.ensures.items
    ∙ ap (λ (l : List State). l ++ d ∷ []) (c.in_ok-push-2.ensures.items
    ∙ ap (λ (l : List State). l ++ b ∷ []) (c.in_ok-push.ensures.items ∙ ap (λ (l : List State). l ++ a ∷ []) c.new-states.ensures.items)) in
    let three : length c.args.table.now.accounts ≡ 3 = search rules in
    subst (λ (l : List State). IsDeskOf c.args.table.now (map share_of l)) (sym is)
    (three_fit c.args.table.now a b d three c.in_ok-open_account.ensures.opened c.in_ok-open_account-2.ensures.opened c.in_ok-open_account-3.ensures.opened)
