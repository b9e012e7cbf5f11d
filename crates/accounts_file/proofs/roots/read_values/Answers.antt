use Rattle.std.proofs.Common.{◌≡◌, ◌<◌, ◌+◌, ◌++◌, ◌∷◌, [], List, length, map, take, sym, ap, ◌∙◌, arith}
use Rattle.std.proofs.lemmas.List.{length_push}
use Rattle.quota_units.specs.Limiting.{LimitNumbers}
use Rattle.quota_roots.specs.declared.root.RootSpec.{RootSpec}
use Rattle.quota_roots.specs.RootLists.{is_root_at}
use Rattle.toml.specs.View.{view}
use Rattle.accounts_file.specs.RootTables.{all_limits, limits_of, members_in, spec_of, specs_of}
use Rattle.accounts_file.proofs.ListLemmas.{limits_more, roots_on, specs_more}
use Rattle.accounts_file.proofs.RootLemmas.{right_more}
use Rattle.accounts_file.proofs.roots.read_values.Goals as goal

pub loop-root-preserved : goal.loop-root-preserved
loop-root-preserved c =
    let values = c.args.values.now in
    let at = c.loop-root.root in
    let far = c.loop-root.invariant in
    let value = c.index-values-root.result in
    let read = c.index-values-root.is in
    let spec = c.in_ok-spec.spec in
    let limit = c.in_ok-spec.limit in
    let within : at < length values = omega arith in
    let is_spec : spec ≡ spec_of (members_in (view value)) = ap (λ (p : RootSpec × LimitNumbers). p.0) c.in_ok-spec.ensures.reads.1 in
    let is_limit : limit ≡ limits_of (members_in (view value)) = ap (λ (p : RootSpec × LimitNumbers). p.1) c.in_ok-spec.ensures.reads.1 in
    let specs : c.push.new.self.items ≡ c.loop-root.specs.items ++ spec ∷ [] = c.in_ok-push.ensures.items in
    let limits : c.push-in-loop-root.new.self.items ≡ c.loop-root.limits.items ++ limit ∷ [] = c.in_ok-push-2.ensures.items in
    let long : length (c.loop-root.specs.items ++ spec ∷ []) ≡ length c.loop-root.specs.items + 1 = length_push c.loop-root.specs.items spec in
    let place : at ≡ 0 + length c.loop-root.specs.items = omega (arith, far.3) in (
      roots_on values at value within read far.0 c.in_ok-spec.ensures.reads.0,
      specs ∙ ap (λ (l : List RootSpec). l ++ spec ∷ []) far.1 ∙ ap (λ (s : RootSpec). specs_of (map view (take at values)) ++ s ∷ []) is_spec ∙ sym (specs_more values at value within read),
      limits ∙ ap (λ (l : List LimitNumbers). l ++ limit ∷ []) far.2 ∙ ap (λ (l : LimitNumbers). all_limits (map view (take at values)) ++ l ∷ []) is_limit ∙ sym (limits_more values at value within read),
      ap length specs ∙ long ∙ ap (λ n. n + 1) far.3,
      rw specs (right_more 0 c.loop-root.specs.items spec far.4 (ap (λ n. is_root_at n spec) (sym place) ∙ c.in_ok-spec.ensures.right)),
    )
