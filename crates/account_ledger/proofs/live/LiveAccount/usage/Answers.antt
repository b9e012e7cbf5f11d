use Rattle.std.proofs.Common.{◌≡◌, ◌||◌, true, false, refl, ap, ◌∙◌, subst}
use Rattle.std.specs.Prelude.{Err}
use Rattle.std.proofs.lemmas.Bool.{eq-eqb}
use Rattle.quota_roots.specs.RootSets.{has_root}
use Rattle.account_core.specs.declared.calls.StepError.TheVariants.{Store as StoreError}
use Rattle.root_ledgers.specs.Settling.{StaysInDoubt}
use Rattle.account_ledger.specs.Lives.{Prepares}
use Rattle.account_ledger.proofs.Answering.{stays_unsettled, usage_told}
use Rattle.account_ledger.proofs.Stepping.{not_failed}
use Rattle.account_ledger.proofs.live.LiveAccount.usage.Goals as goal

pub returns-in_err-settle-clause-stays : goal.returns-in_err-settle-clause-stays
returns-in_err-settle-clause-stays g c = λ failed.
    let l = c.args.self.now in
    let m = c.settle.new.self in
    let prep = subst (λ set. Prepares (c.settle.result ≡ Err StoreError) (has_root set) l m) c.one.ensures c.settle.ensures.prepares in
    let doubt = subst (λ set. c.settle.result ≡ Err StoreError → StaysInDoubt (has_root set) m.books) c.one.ensures c.settle.ensures.failed in
    stays_unsettled c.args.root l m c.settle.result prep c.show_whole.ensures doubt c.settle.ensures.spared c.settle.ensures.never_full c.in_err-settle.field-0.0 c.in_err-settle.was

pub returns-clause-usage : goal.returns-clause-usage
returns-clause-usage g c = λ account shows.
    let l = c.args.self.now in
    let m = c.settle.new.self in
    let has : has_root c.one.result c.args.root ≡ true = rw c.one.ensures (ap (λ b. b || false) (eq-eqb c.args.root c.args.root refl)) in
    c.totals_of.ensures ∙ usage_told l m (c.settle.result ≡ Err StoreError) (not_failed c.in_ok-settle.was) (has_root c.one.result) c.settle.ensures.prepares c.settle.ensures.whole c.in_ok-settle.ensures.settled
    c.args.root c.requires has account shows
