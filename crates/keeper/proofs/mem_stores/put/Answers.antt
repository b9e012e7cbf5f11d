use Rattle.std.proofs.Common.{Some, sym, ◌∙◌, ap, position, bytes_eq}
use Rattle.keeper.proofs.AccountLemmas.{with_nowhere}
use Rattle.keeper.proofs.mem_stores.put.Goals as goal

pub returns-in_default : goal.returns-in_default
returns-in_default c =
    with_nowhere c.args.name.now (Some c.args.keeper) c.args.keepers.now.items
    (sym c.in_default.is ∙ c.index_of.ensures.value ∙ ap (position (λ a. bytes_eq a.0 c.args.name.now)) c.deref.ensures.value)
