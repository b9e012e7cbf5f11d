-- A look at one pass of a set after the other.
use Rattle.std.proofs.Common.{◌≡◌, ◌≢◌, ◌<◌, ◌≤◌, ◌+◌, ℕ, List, length, map, get_or, refl, sym, ap, ◌∙◌, subst, arith}
use mathlib.Core.Logic.{dite}
use native.Mathlib.Decide.{ℕ_discrete}
use Rattle.std.specs.List.{All}
use Rattle.std.proofs.lemmas.List.{get_or-map, length-map}
use Rattle.std.proofs.lemmas.List.Elements.{All-from_get_or}
use Rattle.account_lock.specs.Known.{View, nobody}
use Rattle.account_lock.specs.Passes.{view}
use Rattle.account_lock.specs.declared.pass.Pass.{Pass}
use Rattle.account_host.specs.Sets.{views, view_at, IsUnjoined}

pub view_here : (passes : List Pass) (i : ℕ) (pass : Pass) → i < length passes → get_or passes i pass ≡ pass → view_at (views passes) i ≡ view pass
view_here passes i pass lt is = get_or-map view passes i pass nobody lt ∙ ap view is

module _ (P : View → Type 0) (vs : List View) where
  abbrev pub Before : ℕ → Type 0
  Before i = (earlier : ℕ) → earlier < i → P (view_at vs earlier)

  pub before_next : (i : ℕ) (v : View) → view_at vs i ≡ v → P v → Before i → Before (i + 1)
  before_next i v is p before k lt = dite (ℕ_discrete k i)
      (λ same. subst P (sym (ap (view_at vs) same ∙ is)) p)
      (λ other. before k (omega arith))

  pub before_all : (i : ℕ) → length vs ≤ i → Before i → All P vs
  before_all i long before = All-from_get_or P vs nobody (λ k lt. before k (omega arith))

pub unjoined_here : (passes : List Pass) (i : ℕ) (pass : Pass) → i < length passes → view_at (views passes) i ≡ view pass → (view pass).held < (view pass).made
    → Before (λ v. v.made ≤ v.held) (views passes) i → IsUnjoined (views passes) i (view_at (views passes) i).held (view_at (views passes) i).made
unjoined_here passes i pass lt is fewer before = record {
  there = omega (arith, length-map passes view);
  held_is = refl;
  made_is = refl;
  fewer = let a : (view_at (views passes) i).held ≡ (view pass).held = ap (λ v. v.held) is in let b : (view_at (views passes) i).made ≡ (view pass).made = ap (λ v. v.made) is in omega arith;
  before = before;
}
