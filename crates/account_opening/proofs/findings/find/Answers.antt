use Rattle.std.proofs.Common.{◌∙◌, ap, arith, rules}
use Rattle.keeper.specs.declared.failed.KeepError.{KeepError}
use Rattle.account_opening.specs.Bases.{with_files_of}
use Rattle.keeper.proofs.Spending.{spends_not, spends_others, spends_then}
use Rattle.account_opening.proofs.OpeningLemmas.{finds_more}
use Rattle.account_opening.proofs.findings.find.Goals as goal

pub loop-mailbox-preserved : goal.loop-mailbox-preserved
loop-mailbox-preserved g c = (
  finds_more KeepError c.args.epoch c.args.mailboxes.now c.loop-mailbox.mailbox-index c.mailbox-item.result c.loop-mailbox-test.true c.mailbox-item.is
      c.loop-mailbox.found c.in_ok-found.found c.in_ok-files.files (c.in_ok-found.ensures ∙ ap (with_files_of c.args.epoch c.loop-mailbox.found) c.deref.ensures.value) _ _ _
      c.loop-mailbox.invariant.0 (rw c.as_slice.ensures.value at c.in_ok-files.ensures.files),
  c.in_ok-files.ensures.cause.kept (search rules) ∙ c.loop-mailbox.invariant.1,
  c.list.ensures.appends ∙ c.loop-mailbox.invariant.2,
  spends_then ⊥ ⊥ _ _ _ _ _ _ (omega (arith, c.loop-mailbox.invariant.1, c.loop-mailbox.invariant.2)) c.loop-mailbox.invariant.3
      (spends_not _ ⊥ _ _ _ _ (λ none. absurd none) (spends_others _ _ _ _ _ _ _ c.list.ensures.due c.list.ensures.appends)),
)
