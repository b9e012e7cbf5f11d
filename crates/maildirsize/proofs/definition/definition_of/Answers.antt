use Rattle.maildirsize.proofs.ReadingLemmas.{no_definition}
use Rattle.maildirsize.proofs.definition.definition_of.Goals as goal

pub returns-in-Err : goal.returns-in-Err
returns-in-Err c = no_definition c.args.bytes.now c.in-Err.field-0 c.in-Err.ensures.limits
