use Rattle.std.proofs.Common.{◌∙◌, sym, subst}
use Rattle.std.proofs.lemmas.Bool.{false≢true}
use Rattle.std.proofs.lemmas.List.{take_all}
use Rattle.account_opening.specs.Bases.{AreApart}
use Rattle.account_opening.proofs.NoteLemmas.{notes_more, apart_more}
use Rattle.account_opening.proofs.bases.repeats_in.Goals as goal
use Rattle.account_opening.proofs.bases.repeats_in.Goals.{then-repeats, else-repeats}

pub loop-file-preserved : goal.loop-file-preserved
loop-file-preserved c =
    let files = c.args.files.now in (
      notes_more files c.loop-file.file-index c.file-item.result c.loop-file-test.true c.file-item.is c.base_in.result.now c.base_in.ensures
          c.loop-file.notes c.count_base.new.notes c.in_ok-again.again c.in_ok-again.ensures.again c.in_ok-again.ensures.notes c.loop-file.invariant.0,
      elim c.if-repeats.branch [
        | then-repeats w ↦ λ none. absurd (false≢true (sym none ∙ w.repeats-is ∙ w.if-repeats.true))
        | else-repeats w ↦ λ none.
            apart_more files c.loop-file.file-index c.file-item.result c.loop-file-test.true c.file-item.is c.base_in.result.now c.base_in.ensures
            c.loop-file.notes c.count_base.new.notes c.in_ok-again.again c.in_ok-again.ensures.again c.in_ok-again.ensures.notes c.loop-file.invariant.0
            (sym w.repeats-is ∙ none) (c.loop-file.invariant.1 w.if-repeats.false)
      ],
    )

pub returns : goal.returns
returns c = subst AreApart (take_all c.loop-file.file-index c.args.files.now c.loop-file-test.false) (c.loop-file.invariant.1 c.if-repeats-2.false)
