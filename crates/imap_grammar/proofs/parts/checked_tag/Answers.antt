use Rattle.std.proofs.Common.{arith, eqb-true, sym, ◌∙◌}
use Rattle.imap_grammar.proofs.Tags.{checked_empty, checked_long}
use Rattle.imap_grammar.proofs.parts.checked_tag.Goals as goal

pub returns-then-is_empty : goal.returns-then-is_empty
returns-then-is_empty c = checked_empty c.args.bytes.now c.args.rest.now c.stopped.result (eqb-true _ _ (sym c.is_empty.ensures ∙ c.if-is_empty.true)) c.stopped.ensures

pub returns-then-bytes-gt64 : goal.returns-then-bytes-gt64
returns-then-bytes-gt64 c = checked_long c.args.bytes.now c.args.rest.now c.stopped-then-bytes-gt64.result (omega arith) c.stopped-then-bytes-gt64.ensures
