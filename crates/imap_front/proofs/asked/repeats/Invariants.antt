use Rattle.imap_front.specs.AskedLimits.{is_for}
use Rattle.imap_front.proofs.Repeats.{CountedTo}
use Rattle.imap_front.proofs.asked.repeats.Given as goal

abbrev pub invariant-loop-limit : goal.invariant-loop-limit
invariant-loop-limit l = CountedTo (is_for l.resource) l.asked l.limit-index l.count
