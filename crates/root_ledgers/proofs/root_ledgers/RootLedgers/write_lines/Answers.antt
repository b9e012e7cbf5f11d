use Rattle.root_ledgers.proofs.root_ledgers.RootLedgers.write_lines.Goals as goal

pub returns-clause-faults : goal.returns-clause-faults
returns-clause-faults g c = rw (← c.self.view_is) c.write_lines.ensures.faults

pub returns-clause-appends : goal.returns-clause-appends
returns-clause-appends g c = rw (← c.self.view_is) c.write_lines.ensures.appends
