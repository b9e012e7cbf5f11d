-- What stands before and after the first element that passes a test, element by element.
use Rattle.std.proofs.Common.{◌≡◌, ℕ, ◌+◌, List, ◌∷◌, Bool, true, false, cond, not, drop, refl}
use Rattle.std.proofs.Math.Numerals.{one-add, add-one}
use Rattle.std.specs.List.{position_or_len, after_first}

after_either : (b : Bool) (n x : ℕ) (xs : List ℕ) → drop (cond (not b) (1 + n) 0 + 1) (x ∷ xs) ≡ cond b xs (drop (n + 1) xs)
after_either true n x xs = refl
after_either false n x xs = rw (one-add, add-one, add-one)

pub after-cons : (p : ℕ → Bool) (x : ℕ) (xs : List ℕ) → after_first p (x ∷ xs) ≡ cond (p x) xs (after_first p xs)
after-cons p x xs = after_either (p x) (position_or_len p xs) x xs
