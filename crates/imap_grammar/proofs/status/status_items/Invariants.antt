use Rattle.std.proofs.Common.{length}
use Rattle.imap_grammar.specs.StatusItems.{status_item}
use Rattle.imap_grammar.proofs.ListLoop.{ItemsTo}
use Rattle.imap_grammar.proofs.status.status_items.Given as goal

abbrev pub invariant-loop-items : goal.invariant-loop-items
invariant-loop-items l = ItemsTo status_item l.text l.items l.rest

abbrev pub decreases-loop-items : goal.decreases-loop-items
decreases-loop-items l = length l.rest
