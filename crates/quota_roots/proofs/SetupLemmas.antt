-- Names that differ.
use Rattle.std.proofs.Common.{◌≡◌, ℕ, ◌+◌, ◌<◌, true, not, ◌&&◌, List, length, drop, get_or, ◌≤◌, bytes_eq, arith}
use Rattle.std.specs.List.{list_any}
use Rattle.std.proofs.lemmas.List.{at_drop_more, at_drop_all}
use Rattle.quota_roots.specs.Setups.{are_different}

pub different_more : (names : List (List ℕ)) (at : ℕ) (d : List ℕ) → at < length names
    → are_different (drop at names) ≡ (not (list_any (λ other. bytes_eq other (get_or names at d)) (drop (at + 1) names)) && are_different (drop (at + 1) names))
different_more names at d within = at_drop_more are_different names at d within

pub different_end : (names : List (List ℕ)) → are_different (drop (length names) names) ≡ true
different_end names = let all : length names ≤ length names = omega arith in at_drop_all are_different names (length names) all
