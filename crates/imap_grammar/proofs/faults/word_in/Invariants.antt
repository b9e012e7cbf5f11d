use Rattle.imap_grammar.proofs.Taken.{WordTo}
use Rattle.imap_grammar.proofs.faults.word_in.Given as goal

abbrev pub invariant-loop-i : goal.invariant-loop-i
invariant-loop-i l = WordTo l.text l.i
