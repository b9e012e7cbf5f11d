use Rattle.account_ledger.proofs.Inside.{kept_inside}
use Rattle.account_ledger.proofs.live.LiveAccount.rows_of.Goals as goal

pub returns-clause-inside : goal.returns-clause-inside
returns-clause-inside g c =
    let s = c.self.inside in
    rw (c.rows_of.ensures, ← c.self.view_is, c.limits.ensures, c.books.ensures) (kept_inside s.roots s.ledgers.limits s.ledgers.books c.args.mailbox.now)
