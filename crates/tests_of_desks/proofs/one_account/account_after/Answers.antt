use Rattle.std.proofs.Common.{◌<◌, ℕ, IfSome, sym, subst}
use Rattle.sessions.specs.Fronts.{start_of}
use Rattle.tests_of_desks.proofs.one_account.account_after.Goals as goal

pub session_of_the_owner-ended-requires-clause-account :
    goal.session_of_the_owner-ended-requires-clause-account
session_of_the_owner-ended-requires-clause-account g c =
    subst (λ (n : ℕ). IfSome (start_of c.args.front) (λ account. account < n)) (sym c.in_ok-desk.ensures.one) c.requires
