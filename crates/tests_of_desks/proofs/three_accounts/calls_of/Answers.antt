use Rattle.std.proofs.Common.{◌<◌, ℕ, IfSome, sym, subst}
use Rattle.sessions.specs.Fronts.{start_of}
use Rattle.tests_of_desks.proofs.three_accounts.calls_of.Goals as goal

pub session_of_the_owner-end-requires-clause-account :
    goal.session_of_the_owner-end-requires-clause-account
session_of_the_owner-end-requires-clause-account c =
    subst (λ (n : ℕ). IfSome (start_of c.args.front) (λ account. account < n)) (sym c.in_ok-desk.ensures.three) c.requires
