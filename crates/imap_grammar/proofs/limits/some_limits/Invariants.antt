use Rattle.std.proofs.Common.{length}
use Rattle.imap_grammar.specs.LimitLists.{asked_limit}
use Rattle.imap_grammar.proofs.ListLoop.{ItemsTo}
use Rattle.imap_grammar.proofs.limits.some_limits.Given as goal

abbrev pub invariant-loop-limits : goal.invariant-loop-limits
invariant-loop-limits l = ItemsTo asked_limit l.text l.limits l.rest

abbrev pub decreases-loop-limits : goal.decreases-loop-limits
decreases-loop-limits l = length l.rest
