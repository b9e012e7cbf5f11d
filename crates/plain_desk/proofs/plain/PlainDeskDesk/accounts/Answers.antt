use Rattle.plain_desk.proofs.Asked.{within_journals}
use Rattle.plain_desk.proofs.plain.PlainDeskDesk.accounts.Goals as goal

pub returns-clause-within : goal.returns-clause-within
returns-clause-within g c = rw (← c.self.view_is) (within_journals c.self.inside.states.items c.self.invariant.each)
