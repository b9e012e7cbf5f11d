use Rattle.std.proofs.Common.{◌≡◌, ℕ, ◌<◌, length, Some, None, refl, sym, ◌∙◌, below_more, arith}
use Rattle.std.specs.List.{Contains}
use Rattle.std.proofs.lemmas.Bool.{false≢true}
use Rattle.std.proofs.lemmas.List.Elements.{All-contains}
use Rattle.std.proofs.lemmas.Option.{some_pair_parts}
use Rattle.admission.specs.Fitting.{first_over}
use Rattle.admission.proofs.FirstLemmas.{over_at, over_first, over_nowhere, over_read}
use Rattle.admission.proofs.verdict.admit.Goals as goal
use Rattle.admission.proofs.verdict.admit.Goals.{else-has-via-else-has, else-has-via-then-has+in-None-1}

pub loop-root-preserved : goal.loop-root-preserved
loop-root-preserved c =
    let limits = c.args.limits.now in
    let totals = c.args.totals.now in
    let root = c.loop-root.root in
    let P : ℕ → Type 0 = λ k. Contains c.args.roots k → over_at limits totals c.args.octets k ≡ None in
    let here : P root = elim c.else-has.branch [
      | else-has-via-else-has w ↦ λ has. absurd (false≢true (sym w.if-has.false ∙ c.has.ensures.value.1 has))
      | else-has-via-then-has+in-None-1 w ↦ λ has.
          let none : w.over.result ≡ None = cc in
          let inside = All-contains (λ k. k < length limits) c.args.roots root c.requires.known has in
          over_read limits totals c.args.octets root w.index-limits-root.result inside w.index-limits-root.is ∙ (sym w.over.ensures ∙ none)
    ] in
    record { low = λ _. c.has.ensures.low; none = below_more P root c.loop-root.invariant.none here }

first : (c : goal.In-Some) → first_over c.args.limits.now c.args.totals.now c.args.roots c.args.octets ≡ Some (c.loop-root.root, c.in-Some.resource)
first c =
    let limits = c.args.limits.now in
    let totals = c.args.totals.now in
    let root = c.loop-root.root in
    let has : Contains c.args.roots root = c.has.ensures.value.0 c.if-has.true in
    let inside = All-contains (λ k. k < length limits) c.args.roots root c.requires.known has in
    let over = over_read limits totals c.args.octets root c.index-limits-root.result inside c.index-limits-root.is ∙ (sym c.over.ensures ∙ c.in-Some.is) in
    over_first limits totals c.args.roots c.args.octets root c.in-Some.resource c.has.ensures.ordered c.loop-root.invariant.none has over

pub returns-in-loop-root-clause-none_over : goal.returns-in-loop-root-clause-none_over
returns-in-loop-root-clause-none_over c = let found = first c in (λ e. cc, λ e. cc)

pub returns-in-loop-root-clause-over : goal.returns-in-loop-root-clause-over
returns-in-loop-root-clause-over c root resource = let found = first c in (λ e. cc, λ e. let same = some_pair_parts _ _ _ _ (sym found ∙ e) in cc)

nowhere : (c : goal.After-loop-root) → first_over c.args.limits.now c.args.totals.now c.args.roots c.args.octets ≡ None
nowhere c = over_nowhere _ _ _ _ 4 (c.loop-root.invariant.low (omega arith)) (λ k below has. c.loop-root.invariant.none k (omega arith) has)

pub returns-clause-none_over : goal.returns-clause-none_over
returns-clause-none_over c = let none = nowhere c in (λ e. none, λ e. refl)

pub returns-clause-over : goal.returns-clause-over
returns-clause-over c root resource = let none = nowhere c in (λ e. cc, λ e. cc)
