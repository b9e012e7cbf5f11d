use Rattle.imap_grammar.specs.Bytes.{is_tag_byte}
use Rattle.imap_grammar.proofs.Taken.{TakenTo}
use Rattle.imap_grammar.proofs.faults.tag_and_rest.Given as goal

abbrev pub invariant-loop-i : goal.invariant-loop-i
invariant-loop-i l = TakenTo is_tag_byte l.text l.i
