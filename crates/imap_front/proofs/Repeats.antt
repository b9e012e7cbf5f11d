-- Counting those that are asked for a resource, as far as an index.
use Rattle.std.proofs.Common.{◌≡◌, ℕ, ◌+◌, ◌<◌, ◌≤◌, Bool, true, false, List, length, take, get_or, filter, cond, sym, ap, ◌∙◌, arith}
use Rattle.std.proofs.lemmas.List.{take_all}
use Rattle.std.proofs.lemmas.List.Filters.{length-filter_more}

module _ {A : Type 0} (is : A → Bool) (xs : List A) where
  abbrev pub CountedTo : ℕ → ℕ → Type 0
  CountedTo i count = (count ≡ length (filter is (take i xs))) × (count ≤ i)

  pub counted_more : (i count : ℕ) (none : A) → i < length xs → is (get_or xs i none) ≡ true → CountedTo i count → CountedTo (i + 1) (count + 1)
  counted_more i count none lt holds (so_far, le) = (ap (λ n. n + 1) so_far ∙ sym (length-filter_more is xs i none lt ∙ ap (λ c. length (filter is (take i xs)) + cond c 1 0) holds), omega (arith, le))

  pub counted_same : (i count : ℕ) (none : A) → i < length xs → is (get_or xs i none) ≡ false → CountedTo i count → CountedTo (i + 1) count
  counted_same i count none lt fails (so_far, le) =
      let more : length (filter is (take (i + 1) xs)) ≡ length (filter is (take i xs)) + 0 = length-filter_more is xs i none lt ∙ ap (λ c. length (filter is (take i xs)) + cond c 1 0) fails in
      (omega (arith, so_far, more), omega (arith, le))

  pub counted_all : (i count : ℕ) → length xs ≤ i → CountedTo i count → count ≡ length (filter is xs)
  counted_all i count le (so_far, few) = so_far ∙ ap (λ l. length (filter is l)) (take_all i xs le)
