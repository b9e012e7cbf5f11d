use Rattle.imap_grammar.proofs.Quoting.{InsideTo}
use Rattle.imap_grammar.proofs.astring.inside.Given as goal

abbrev pub invariant-loop-i : goal.invariant-loop-i
invariant-loop-i l = InsideTo l.text l.bytes.items l.after_backslash l.i
