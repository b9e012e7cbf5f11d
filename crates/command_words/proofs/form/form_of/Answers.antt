use Rattle.std.proofs.Common.{◌≡◌, ◌∙◌, sym, true, false}
use Rattle.command_words.proofs.Dashes.{dashed_no_form}
use Rattle.command_words.proofs.form.form_of.Goals as goal

pub returns-then-not-are_undashed-clause-none : goal.returns-then-not-are_undashed-clause-none
returns-then-not-are_undashed-clause-none c = dashed_no_form _ (λ all.
    let bad : false ≡ true = sym c.if-not-are_undashed.true ∙ c.are_undashed.ensures.1 all in
    absurd cc)
