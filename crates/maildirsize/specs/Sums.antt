-- The pairs of octets and messages that a ledger's lines state, and what they add up to.
use Rattle.std.specs.Prelude.{ℤ, pos, ◌+ℤ◌, List, map}
use Rattle.std.specs.List.{fold}

pub record Pair : Type 0 where
  pub octets : ℤ
  pub count : ℤ

abbrev pub total_of : List ℤ → ℤ
total_of numbers = fold ◌+ℤ◌ (pos 0) numbers

-- the sum of the octets, and the sum of the messages
abbrev pub sum_of : List Pair → Pair
sum_of pairs = record {
  octets = total_of (map (λ p. p.octets) pairs);
  count = total_of (map (λ p. p.count) pairs);
}
