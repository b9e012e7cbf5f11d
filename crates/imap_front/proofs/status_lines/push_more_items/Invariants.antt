use Rattle.imap_front.specs.Texts.{item_after_space}
use Rattle.imap_front.proofs.Rows.{ToldTo}
use Rattle.imap_front.proofs.status_lines.push_more_items.Given as goal

abbrev pub invariant-loop-i : goal.invariant-loop-i
invariant-loop-i l = ToldTo (item_after_space l.counts) l.fn.out.items l.out.items l.items l.i
