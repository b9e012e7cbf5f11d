use Rattle.accounts_file.proofs.LookupLemmas.{different_logins}
use Rattle.accounts_file.proofs.hosts.HostTable.show_different_logins.Goals as goal

pub returns : goal.returns
returns c = different_logins c.args.self.now.accounts c.count-count.ensures.accounts
