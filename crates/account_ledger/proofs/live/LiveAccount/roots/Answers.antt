use Rattle.std.proofs.Common.{◌≡◌, rules}
use Rattle.std.specs.Prelude.{Err}
use Rattle.quota_roots.specs.RootSets.{has_root}
use Rattle.account_core.specs.declared.calls.Call.TheVariants.{Roots as RootsCall}
use Rattle.account_core.specs.declared.calls.StepError.TheVariants.{Store as StoreError, NoMemory}
use Rattle.account_ledger.proofs.Answering.{rows_answered}
use Rattle.account_ledger.proofs.Stepping.{not_failed, steps_spared, steps_unsettled}
use Rattle.account_ledger.proofs.live.LiveAccount.roots.Goals as goal

pub returns-in_err-rows : goal.returns-in_err-rows
returns-in_err-rows g c =
    let is : c.from_residual.result ≡ Err NoMemory = search rules in
    rw is (steps_spared (RootsCall c.args.mailbox.now) _ c.args.self.now c.show_whole.ensures tt)

pub returns-in_err-settle : goal.returns-in_err-settle
returns-in_err-settle g c =
    let is : c.from_residual-in_err-settle.result ≡ Err c.in_err-settle.field-0.0 = search rules in
    rw is
    (steps_unsettled (RootsCall c.args.mailbox.now) _ c.settle.result (has_root c.gainers-set.result) c.args.self.now c.settle.new.self (λ root. c.gainers-set.ensures.members root)
    c.settle.ensures.prepares c.settle.ensures.spared c.settle.ensures.never_full c.settle.ensures.whole c.in_err-settle.field-0.0 c.in_err-settle.was tt)

pub returns : goal.returns
returns g c =
    let l = c.args.self.now in
    let m = c.settle.new.self in
    rows_answered l m (c.settle.result ≡ Err StoreError) (not_failed c.in_ok-settle.was) (has_root c.gainers-set.result) c.settle.ensures.prepares c.settle.ensures.whole c.in_ok-settle.ensures.settled
    c.args.mailbox.now c.gainers-set.ensures.members c.rows_of.result c.rows_of.ensures.rows c.rows_of.ensures.inside
