use Rattle.account_host.proofs.Seated.{shares_within}
use Rattle.account_host.proofs.seats.SeatsDesk.accounts.Goals as goal

pub returns-clause-within : goal.returns-clause-within
returns-clause-within g c = shares_within c.args.self.now.set.passes.items c.args.self.now.within
