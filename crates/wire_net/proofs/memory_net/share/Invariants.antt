use Rattle.std.proofs.Common.{take}
use Rattle.wire_net.specs.Memory.{arrivals}
use Rattle.wire_net.specs.Keeping.{arrivals_in, offers_in}
use Rattle.wire_net.proofs.Shares.{Counted}
use Rattle.wire_net.proofs.memory_net.share.Given as goal

abbrev pub invariant-loop-connection : goal.invariant-loop-connection
invariant-loop-connection l = Counted l.doors l.number l.left (arrivals l.wire (offers_in (take l.connection-index l.connections))) (arrivals_in l.mine.items)
