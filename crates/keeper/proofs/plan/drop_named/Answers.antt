use Rattle.std.proofs.Common.{rules, ◌≡◌, not, filter}
use Rattle.std.proofs.lemmas.Fn.{filter_same}
use Rattle.keeper.specs.declared.plan.KeepFail.{KeepFail}
use Rattle.keeper.specs.Plan.{names}
use Rattle.keeper.proofs.PlanLemmas.{fewer_left}
use Rattle.keeper.proofs.plan.drop_named.Goals as goal

pub returns-clause-left : goal.returns-clause-left
returns-clause-left c = filter_same _ _ _ (λ x b f' k. search rules) _ _ c.retain.ensures.filtered

pub returns-clause-fewer : goal.returns-clause-fewer
returns-clause-fewer c =
    let left : c.retain.new.self.items ≡ filter (λ (f : KeepFail). not (names c.args.kind c.args.nth f)) c.args.fails.now.items =
    filter_same _ _ _ (λ x b f' k. search rules) _ _ c.retain.ensures.filtered in
    rw left (fewer_left (names c.args.kind c.args.nth) c.args.fails.now.items c.requires)
