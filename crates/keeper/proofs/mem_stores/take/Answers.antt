use Rattle.std.proofs.Common.{None, sym, ◌∙◌, ap, position, bytes_eq, length, ◌<◌, rules}
use Rattle.keeper.proofs.AccountLemmas.{with_nowhere, in_nowhere, in_at}
use Rattle.keeper.proofs.mem_stores.take.Goals as goal

pub returns-in-None-clause-value : goal.returns-in-None-clause-value
returns-in-None-clause-value c =
    in_nowhere c.args.name.now c.args.keepers.now.items
    (sym c.in-None.is ∙ c.index_of.ensures.value ∙ ap (position (λ a. bytes_eq a.0 c.args.name.now)) c.deref.ensures.value)

pub returns-in-None-clause-after : goal.returns-in-None-clause-after
returns-in-None-clause-after c =
    with_nowhere c.args.name.now None c.args.keepers.now.items
    (sym c.in-None.is ∙ c.index_of.ensures.value ∙ ap (position (λ a. bytes_eq a.0 c.args.name.now)) c.deref.ensures.value)

pub returns-in-Some-clause-value : goal.returns-in-Some-clause-value
returns-in-Some-clause-value c =
    let within : c.in-Some.at < length c.args.keepers.now.items = search rules in
    c.take.ensures.value
    ∙ in_at c.args.name.now c.args.keepers.now.items c.in-Some.at c.index_mut-account.result.now
    (sym c.in-Some.is ∙ c.index_of.ensures.value ∙ ap (position (λ a. bytes_eq a.0 c.args.name.now)) c.deref.ensures.value)
    within c.index_mut-account.ensures.value
