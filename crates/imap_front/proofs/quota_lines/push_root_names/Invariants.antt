use Rattle.imap_front.specs.Texts.{root_after_space}
use Rattle.imap_front.proofs.Rows.{ToldTo}
use Rattle.imap_front.proofs.quota_lines.push_root_names.Given as goal

abbrev pub invariant-loop-i : goal.invariant-loop-i
invariant-loop-i l = ToldTo (root_after_space l.roots) l.fn.out.items l.out.items l.rows l.i
