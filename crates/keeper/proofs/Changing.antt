-- Changes of what is told, one after another.
use Rattle.std.proofs.Common.{Option, Some, None}
use Rattle.keeper.specs.Calls.{Changes}

module _ {X : Type 0} where
  pub changes_then : (R S T : X → X → Type 0) → ((x y z : X) → R x y → S y z → T x z) → (a b c : Option X) → Changes R a b → Changes S b c → Changes T a c
  changes_then R S T then None None None r s = tt
  changes_then R S T then None None (Some z) r s = absurd s
  changes_then R S T then None (Some y) c r s = absurd r
  changes_then R S T then (Some x) None c r s = absurd r
  changes_then R S T then (Some x) (Some y) None r s = absurd s
  changes_then R S T then (Some x) (Some y) (Some z) r s = then x y z r s

  pub changes_weaken : (R S : X → X → Type 0) → ((x y : X) → R x y → S x y) → (a b : Option X) → Changes R a b → Changes S a b
  changes_weaken R S weaker None None r = tt
  changes_weaken R S weaker None (Some y) r = absurd r
  changes_weaken R S weaker (Some x) None r = absurd r
  changes_weaken R S weaker (Some x) (Some y) r = weaker x y r

  pub changes_same : (R : X → X → Type 0) → ((x : X) → R x x) → (a : Option X) → Changes R a a
  changes_same R same None = tt
  changes_same R same (Some x) = same x
