use Rattle.std.proofs.Common.{◌≡◌, Err, rules}
use Rattle.quota_roots.specs.RootSets.{has_root}
use Rattle.account_core.specs.declared.calls.Call.TheVariants.{Check}
use Rattle.account_ledger.proofs.Answering.{check_answered}
use Rattle.account_ledger.proofs.Stepping.{not_failed, steps_unsettled}
use Rattle.account_ledger.proofs.live.LiveAccount.check.Goals as goal

pub returns-in_err-settle : goal.returns-in_err-settle
returns-in_err-settle g c =
    let is : c.from_residual.result ≡ Err c.in_err-settle.field-0.0 = search rules in
    rw is
    (steps_unsettled (Check c.args.octets) _ c.settle.result (has_root c.gainers-set.result) c.args.self.now c.settle.new.self (λ root. c.gainers-set.ensures.members root)
    c.settle.ensures.prepares c.settle.ensures.spared c.settle.ensures.never_full c.settle.ensures.whole c.in_err-settle.field-0.0 c.in_err-settle.was tt)

pub returns : goal.returns
returns g c =
    let settled = c.in_ok-settle.ensures.settled in
    check_answered c.args.self.now c.settle.new.self c.args.octets c.gainers-set.result c.verdict-verdict.result c.check_reply.result (c.settle.result ≡ _) (not_failed c.in_ok-settle.was) c.gainers-set.ensures.value c.gainers-set.ensures.members
    c.settle.ensures.prepares c.settle.ensures.whole settled c.verdict-verdict.ensures.verdict c.check_reply.ensures.reply c.verdict-verdict.ensures.inside c.check_reply.ensures.form c.check_reply.ensures.there
