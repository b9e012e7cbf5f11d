use Rattle.imap_grammar.specs.Bytes.{is_letter}
use Rattle.imap_grammar.proofs.Many.{ReadTo}
use Rattle.imap_grammar.proofs.readers.letters.Given as goal

abbrev pub invariant-loop-i : goal.invariant-loop-i
invariant-loop-i l = ReadTo is_letter l.text l.i
