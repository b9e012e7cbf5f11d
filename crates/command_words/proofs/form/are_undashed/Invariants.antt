use Rattle.std.proofs.Common.{map, take}
use Rattle.std.specs.List.{All}
use Rattle.std.specs.String.{string_bytes}
use Rattle.command_words.specs.Commands.{IsUndashed}
use Rattle.command_words.proofs.form.are_undashed.Given as goal

abbrev pub invariant-loop-word : goal.invariant-loop-word
invariant-loop-word l = All IsUndashed (map string_bytes (take l.word-index l.words))
