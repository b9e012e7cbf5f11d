use Rattle.std.proofs.Common.{◌+◌, ◌∙◌, ap, arith, length, rules}
use Rattle.std.proofs.lemmas.List.{length_push}
use Rattle.keeper.specs.declared.failed.KeepError.{KeepError}
use Rattle.keeper.proofs.Spending.{spends_not, spends_others, spends_then}
use Rattle.account_opening.proofs.OpeningLemmas.{reads_more}
use Rattle.account_opening.proofs.limits.read_limits.Goals as goal

pub loop-root-preserved : goal.loop-root-preserved
loop-root-preserved g c = (
  reads_more KeepError c.loop-root.root c.args.own.now c.loop-root.limits.items c.push.new.self.items c.index-own-root.result c.limits_told.result c.in_ok-bytes.bytes
      c.loop-root-test.true c.index-own-root.is c.limits_told.ensures c.in_ok-push.ensures.items _ _ _ c.loop-root.invariant.0 c.in_ok-bytes.ensures.files,
  ap length c.in_ok-push.ensures.items ∙ length_push c.loop-root.limits.items c.limits_told.result ∙ ap (λ n. n + 1) c.loop-root.invariant.1,
  c.in_ok-bytes.ensures.cause.kept (search rules) ∙ c.loop-root.invariant.2,
  c.read_ledger.ensures.appends ∙ c.loop-root.invariant.3,
  spends_then ⊥ ⊥ _ _ _ _ _ _ (omega (arith, c.loop-root.invariant.2, c.loop-root.invariant.3)) c.loop-root.invariant.4
      (spends_not _ ⊥ _ _ _ _ (λ none. absurd none) (spends_others _ _ _ _ _ _ _ c.read_ledger.ensures.due c.read_ledger.ensures.appends)),
)
