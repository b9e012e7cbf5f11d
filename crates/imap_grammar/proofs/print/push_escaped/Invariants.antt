use Rattle.imap_grammar.proofs.Escaping.{EscapedTo}
use Rattle.imap_grammar.proofs.print.push_escaped.Given as goal

abbrev pub invariant-loop-i : goal.invariant-loop-i
invariant-loop-i l = EscapedTo l.fn.out.items l.out.items l.bytes l.i
