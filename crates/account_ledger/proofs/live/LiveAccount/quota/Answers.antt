use Rattle.std.proofs.Common.{◌≡◌, [], None, Some, refl, sym, ap, rules}
use Rattle.std.specs.Prelude.{Err, nat_eq}
use Rattle.quota_roots.specs.RootLists.{root_named}
use Rattle.account_core.specs.declared.calls.Call.TheVariants.{Quota as QuotaCall}
use Rattle.account_core.specs.declared.calls.Reply.TheVariants.{NoRoot}
use Rattle.account_core.specs.declared.calls.StepError.TheVariants.{Store as StoreError}
use Rattle.account_ledger.specs.Settling.{is_root}
use Rattle.account_ledger.proofs.Answering.{quota_answered}
use Rattle.account_ledger.proofs.Judging.{no_root_quota}
use Rattle.account_ledger.proofs.Stepping.{not_failed, steps_refused, steps_unsettled}
use Rattle.account_ledger.proofs.live.LiveAccount.quota.Goals as goal

pub returns-in_default : goal.returns-in_default
returns-in_default g c =
    let l = c.args.self.now in
    let name = c.args.name.now in
    let nowhere : root_named l.roots name ≡ None = search rules in
    steps_refused (QuotaCall name) [] NoRoot l c.show_whole.ensures refl
    (λ account shows. no_root_quota l account shows name nowhere) (record { kind = refl; names = tt })
    (λ account shows. refl) refl (λ rows. refl) tt

pub returns-in_err-totals : goal.returns-in_err-totals
returns-in_err-totals g c =
    let l = c.args.self.now in
    let name = c.args.name.now in
    let place : root_named l.roots name ≡ Some c.in-Some.root = search rules in
    let is : c.from_residual.result ≡ Err c.in_err-totals.field-0.0 = search rules in
    rw is
    (steps_unsettled (QuotaCall name) [] c.usage.result (nat_eq c.in-Some.root) l c.usage.new.self (λ root. ap (λ o. is_root o root) (sym place))
    c.usage.ensures.prepares c.usage.ensures.spared c.usage.ensures.never_full c.usage.ensures.whole c.in_err-totals.field-0.0 c.in_err-totals.was tt)

pub returns : goal.returns
returns g c =
    let l = c.args.self.now in
    let m = c.usage.new.self in
    let name = c.args.name.now in
    let place : root_named l.roots name ≡ Some c.in-Some.root = search rules in
    quota_answered l m (c.usage.result ≡ Err StoreError) (not_failed c.in_ok-totals.was) (nat_eq c.in-Some.root) c.usage.ensures.prepares c.usage.ensures.whole c.in_ok-totals.ensures.settled
    name c.in-Some.root c.in_ok-totals.totals c.limits_of-limits.result place (search rules) (λ r. refl) c.in_ok-totals.ensures.usage c.limits_of-limits.ensures
