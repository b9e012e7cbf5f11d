use Rattle.imap_front.specs.Texts.{root_line}
use Rattle.imap_front.proofs.Rows.{ToldTo}
use Rattle.imap_front.proofs.quota_lines.push_root_lines.Given as goal

abbrev pub invariant-loop-i : goal.invariant-loop-i
invariant-loop-i l = ToldTo (root_line l.roots) l.fn.out.items l.out.items l.rows l.i
