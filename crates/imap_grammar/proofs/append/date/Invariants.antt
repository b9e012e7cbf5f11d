use Rattle.imap_grammar.proofs.DateLoop.{DateTo}
use Rattle.imap_grammar.proofs.append.date.Given as goal

abbrev pub invariant-loop-i : goal.invariant-loop-i
invariant-loop-i l = DateTo l.text l.after_backslash l.i
