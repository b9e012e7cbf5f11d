use Rattle.std.proofs.Common.{length}
use Rattle.imap_grammar.proofs.FlagLoop.{FlagsTo}
use Rattle.imap_grammar.proofs.append.some_flags.Given as goal

abbrev pub invariant-loop-next : goal.invariant-loop-next
invariant-loop-next l = FlagsTo l.text l.flags l.rest

abbrev pub decreases-loop-next : goal.decreases-loop-next
decreases-loop-next l = length l.rest
