use Rattle.std.proofs.Common.{sym, ◌∙◌, ap, position, bytes_eq, codes, List, ℕ}
use Rattle.accounts_file.proofs.RuleLemmas.{without_nowhere}
use Rattle.accounts_file.proofs.accounts.without_inbox.Goals as goal

pub returns-in-None : goal.returns-in-None
returns-in-None c =
    without_nowhere (codes "INBOX") c.args.names.items
    (sym c.in-None.is ∙ c.index_of_inbox.ensures.value ∙ ap (position (λ (a : List ℕ). bytes_eq a (codes "INBOX"))) c.deref.ensures.value)
