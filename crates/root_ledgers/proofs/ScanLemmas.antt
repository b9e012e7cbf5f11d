-- Sums that are cut.
use Rattle.std.proofs.Common.{◌≡◌, ℕ, ◌+◌, ◌<◌, List, length, take, get_or, sum_by, arith, ap, ◌∙◌}
use Rattle.std.proofs.lemmas.List.{take_more}
use Rattle.std.proofs.lemmas.List.Sums.{sum_by_push}
use Rattle.quota_units.specs.Sums.{cut_sum}

-- a cut that is cut again with more
pub cut_more : (a b : ℕ) → cut_sum (cut_sum a + b) ≡ cut_sum (a + b)
cut_more a b = omega arith

module _ {X : Type 0} (weight : X → ℕ) where
  pub sum_more : (xs : List X) (i : ℕ) (d : X) → i < length xs → sum_by weight (take (i + 1) xs) ≡ sum_by weight (take i xs) + weight (get_or xs i d)
  sum_more xs i d inside = ap (sum_by weight) (take_more xs i d inside) ∙ sum_by_push weight (take i xs) (get_or xs i d)
