use Rattle.wire_net.proofs.Shares.{opened_fresh}
use Rattle.wire_net.proofs.memory_net.MemNetNet.listen.Goals as goal

pub returns-clause-fresh : goal.returns-clause-fresh
returns-clause-fresh c = opened_fresh _ _ _ _ c.in_ok-made.ensures.opened
