use Rattle.std.proofs.Common.{List, ℕ, Contains, sym, subst, lt-ltb, ltb-true, arith}
use Rattle.quota_roots.proofs.SetLemmas.{members_low}
use Rattle.quota_roots.proofs.root_set.RootSet.has.Goals as goal

pub returns-else-root-lt4-clause-value : goal.returns-else-root-lt4-clause-value
returns-else-root-lt4-clause-value c =
    let P : List ℕ → Type 0 = λ roots. Contains roots c.args.root in
    (λ low. absurd (omega (arith, ltb-true c.args.root 4 low)), λ has. lt-ltb c.args.root 4 (members_low _ c.args.root c.self.invariant (subst P (sym c.self.view_is) has)))
