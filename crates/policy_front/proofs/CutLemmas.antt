-- What stands before and after the first separator.
use Rattle.std.proofs.Common.{◌≡◌, ℕ, ◌+◌, ◌-◌, List, [], Bool, length, take, drop, None, Some, ap, ◌∙◌, sym, arith}
use Rattle.std.specs.List.{position_or_len, before_first, after_first}
use Rattle.std.proofs.lemmas.Bool.{false_from_ne_true}
use Rattle.std.proofs.lemmas.List.{take_all, drop_all, take_rest}
use Rattle.std.proofs.lemmas.List.Sums.{position_or_len_is}
use Rattle.memchr.specs.Find.{IsFirstByte}

module _ (p : ℕ → Bool) where
  place_some : (xs : List ℕ) (k : ℕ) → IsFirstByte p xs (Some k) → position_or_len p xs ≡ k
  place_some xs k h = position_or_len_is p xs k 0 (omega arith)
      (λ j lt. false_from_ne_true _ (h.0.before j (omega arith) lt)) (λ _. h.1)

  place_none : (xs : List ℕ) → IsFirstByte p xs None → position_or_len p xs ≡ length xs
  place_none xs h = position_or_len_is p xs (length xs) 0 (omega arith)
      (λ j lt. false_from_ne_true _ (h j (omega arith) lt)) (λ lt. absurd (omega arith))

  pub before_some : (xs : List ℕ) (k : ℕ) → IsFirstByte p xs (Some k) → take k xs ≡ before_first p xs
  before_some xs k h = ap (λ n. take n xs) (sym (place_some xs k h))

  pub after_some : (xs : List ℕ) (k : ℕ) → IsFirstByte p xs (Some k) → take (length xs - (k + 1)) (drop (k + 1) xs) ≡ after_first p xs
  after_some xs k h = take_rest xs (k + 1) ∙ ap (λ n. drop (n + 1) xs) (sym (place_some xs k h))

  pub before_none : (xs : List ℕ) → IsFirstByte p xs None → xs ≡ before_first p xs
  before_none xs h = sym (take_all (position_or_len p xs) xs (omega (arith, place_none xs h)))

  pub after_none : (xs : List ℕ) → IsFirstByte p xs None → [] ≡ after_first p xs
  after_none xs h = sym (drop_all (position_or_len p xs + 1) xs (omega (arith, place_none xs h)))
