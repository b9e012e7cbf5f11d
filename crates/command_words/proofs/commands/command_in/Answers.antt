use Rattle.std.proofs.Common.{sym, ◌∙◌}
use denote.Enum.Bare.{same_false}
use Rattle.clap.specs.declared.error.kind.ErrorKind.TheVariants.{OutOfMemory}
use Rattle.clap.specs.contracts.error.kind.ErrorKind.{the_type}
use Rattle.command_words.proofs.Asked.{asked_line, none_asked, refused, some_asked}
use Rattle.command_words.proofs.commands.command_in.Goals as goal

pub returns-in-Ok-clause-some : goal.returns-in-Ok-clause-some
returns-in-Ok-clause-some c = some_asked _ _ (asked_line _ c.in_ok-command.ensures _ _ _ c.requires.undashed c.asked_of.ensures c.in-Ok.ensures.matches c.in-Ok.ensures.kinds)

pub returns-in-Ok-clause-none : goal.returns-in-Ok-clause-none
returns-in-Ok-clause-none c = none_asked _ _ (asked_line _ c.in_ok-command.ensures _ _ _ c.requires.undashed c.asked_of.ensures c.in-Ok.ensures.matches c.in-Ok.ensures.kinds)

pub returns-clause-none : goal.returns-clause-none
returns-clause-none c = refused _ c.in_ok-command.ensures _ c.in-Err.fault c.requires.undashed c.in-Err.ensures.kinds
    (λ is. same_false the_type c.kind.result OutOfMemory (sym c.eq.ensures ∙ c.if-eq.false) (c.kind.ensures ∙ is))
