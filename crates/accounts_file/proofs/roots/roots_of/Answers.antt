use Rattle.std.proofs.Common.{ap, Err}
use Rattle.accounts_file.proofs.RootLemmas.{not_refused}
use Rattle.accounts_file.proofs.roots.roots_of.Goals as goal

pub unreachable-requires : goal.unreachable-requires
unreachable-requires c =
    not_refused c.args.specs.items c.in-Err.field-0 c.requires
    (λ count is. ((c.in-Err.ensures.too_many count).0 (ap Err is)).0)
    (λ at is. ((c.in-Err.ensures.bad_name at).0 (ap Err is)).1)
    (λ at is. ((c.in-Err.ensures.double at).0 (ap Err is)).2)
