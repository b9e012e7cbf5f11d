use Rattle.imap_grammar.specs.Bytes.{is_astring_byte}
use Rattle.imap_grammar.proofs.Many.{ReadTo}
use Rattle.imap_grammar.proofs.readers.astring_bytes.Given as goal

abbrev pub invariant-loop-i : goal.invariant-loop-i
invariant-loop-i l = ReadTo is_astring_byte l.text l.i
