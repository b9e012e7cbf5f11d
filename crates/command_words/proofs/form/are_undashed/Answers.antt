use Rattle.std.proofs.Common.{map, rules, subst}
use Rattle.std.proofs.lemmas.List.{take_all}
use Rattle.std.specs.List.{All}
use Rattle.std.specs.String.{string_bytes}
use Rattle.command_words.specs.Commands.{IsUndashed}
use Rattle.command_words.proofs.Dashes.{dashed_at}
use Rattle.command_words.proofs.form.are_undashed.Goals as goal

pub returns-then-has_dash : goal.returns-then-has_dash
returns-then-has_dash c = (
  λ t. absurd cc,
  λ all. absurd (dashed_at string_bytes c.args.words.now c.loop-word.word-index c.word-item.result c.loop-word-test.true c.word-item.is (search rules) all),
)

pub returns : goal.returns
returns c = (
  λ t. subst (λ ws. All IsUndashed (map string_bytes ws)) (take_all _ _ c.loop-word-test.false) c.loop-word.invariant,
  λ all. search rules,
)
