use Rattle.imap_grammar.proofs.Digits.{DigitsTo}
use Rattle.imap_grammar.proofs.number.number_within.Given as goal

abbrev pub invariant-loop-i : goal.invariant-loop-i
invariant-loop-i l = DigitsTo l.most l.largest l.text l.i l.value
