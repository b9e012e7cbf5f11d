use Rattle.std.proofs.Common.{◌∙◌, ap₂}
use Rattle.std.proofs.lemmas.Result.{IfOk-weaker}
use Rattle.clap.specs.Words.{with_subcommand}
use Rattle.command_words.proofs.commands.commands.Goals as goal

pub returns : goal.returns
returns c =
    let first = c.in_ok-subcommand.ensures.shape c.in_ok-with_word.ensures.1 ∙ ap₂ with_subcommand c.without_commands.ensures c.in_ok-with_word.ensures.0 in
    let second = c.in_ok-subcommand-2.ensures.shape c.in_ok-with_word-2.ensures.1 ∙ ap₂ with_subcommand first c.in_ok-with_word-2.ensures.0 in
    let third = c.in_ok-subcommand-3.ensures.shape c.alone.ensures.local ∙ ap₂ with_subcommand second c.alone.ensures.shape in
    let fourth = c.in_ok-subcommand-4.ensures.shape c.alone-2.ensures.local ∙ ap₂ with_subcommand third c.alone-2.ensures.shape in
    IfOk-weaker c.subcommand-5.result _ _ (λ r h. h.shape c.in_ok-with_word-3.ensures.1 ∙ ap₂ with_subcommand fourth c.in_ok-with_word-3.ensures.0) c.subcommand-5.ensures
