use Rattle.std.proofs.Common.{◌≡◌, ℕ, [], None, Some, refl, sym, ap, rules}
use Rattle.std.specs.Prelude.{Err, nat_eq}
use Rattle.quota_roots.specs.RootLists.{root_named}
use Rattle.account_core.specs.declared.calls.Call.TheVariants.{SetLimits}
use Rattle.account_core.specs.declared.calls.Reply.TheVariants.{NoRoot}
use Rattle.account_core.specs.declared.calls.StepError.TheVariants.{Store as StoreError}
use Rattle.account_ledger.specs.Settling.{is_root, needs}
use Rattle.account_ledger.proofs.Answering.{settled_by}
use Rattle.account_ledger.proofs.Limiting.{no_root_leaves, no_root_replied}
use Rattle.account_ledger.proofs.Stepping.{not_failed, prepares_may, steps_refused, steps_then, steps_unsettled}
use Rattle.account_ledger.proofs.live.LiveAccount.set_limits.Goals as goal

pub returns-in_default : goal.returns-in_default
returns-in_default g c =
    let l = c.args.self.now in
    let name = c.args.name.now in
    let nowhere : root_named l.roots name ≡ None = search rules in
    steps_refused (SetLimits name c.args.limits) [] NoRoot l c.show_whole.ensures refl
    (λ account shows. no_root_replied l account shows name c.args.limits nowhere) (record { kind = refl; names = tt })
    (λ account shows. no_root_leaves l.roots account name c.args.limits nowhere) refl (λ rows. refl) tt

pub returns-in_err-usage : goal.returns-in_err-usage
returns-in_err-usage g c =
    let l = c.args.self.now in
    let name = c.args.name.now in
    let place : root_named l.roots name ≡ Some c.in-Some.root = search rules in
    let is : c.from_residual.result ≡ Err c.in_err-usage.field-0.0 = search rules in
    rw is
    (steps_unsettled (SetLimits name c.args.limits) [] c.usage.result (nat_eq c.in-Some.root) l c.usage.new.self (λ root. ap (λ o. is_root o root) (sym place))
    c.usage.ensures.prepares c.usage.ensures.spared c.usage.ensures.never_full c.usage.ensures.whole c.in_err-usage.field-0.0 c.in_err-usage.was tt)

pub returns : goal.returns
returns g c =
    let l = c.args.self.now in
    let m = c.usage.new.self in
    let name = c.args.name.now in
    let call = SetLimits name c.args.limits in
    let place : root_named l.roots name ≡ Some c.in-Some.root = search rules in
    let same = λ (root : ℕ). ap (λ o. is_root o root) (sym place) in
    steps_then call [] c.install_limits.result (c.usage.result ≡ Err StoreError) l m c.install_limits.new.self (not_failed c.in_ok-usage.was) (prepares_may _ (nat_eq c.in-Some.root) (needs l.roots call) l m same c.usage.ensures.prepares) c.usage.ensures.whole
    (settled_by (nat_eq c.in-Some.root) (needs l.roots call) m same c.in_ok-usage.ensures.settled) c.install_limits.ensures.acts (λ wanting. absurd (c.install_limits.ensures.never_out_of_memory wanting)) tt
