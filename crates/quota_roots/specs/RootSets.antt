-- Sets of root numbers below four, as bits: bit k is set if root k is in the set.
use Rattle.std.specs.Prelude.{◌≡◌, ℕ, ◌^◌, ◌<◌, Bool, true, List, filter, nat_eq, sum_by, refl}
use Rattle.std.specs.List.{list_any, range_with_len}
use Rattle.std.specs.Int.{bit_at}
use Rattle.std.proofs.lemmas.Bool.{agree_below_at, eqb-true}

-- the roots of the set, in order
unfoldable pub members : ℕ → List ℕ
members bits = filter (λ root. nat_eq (bit_at bits root) 1) (range_with_len 0 4)

-- the root is in the set
abbrev pub has_root : List ℕ → ℕ → Bool
has_root roots root = list_any (λ other. nat_eq other root) roots

-- the bits of these roots
abbrev pub bits_of : List ℕ → ℕ
bits_of roots = sum_by (λ root. 2 ^ root) roots

-- the members of a set give its bits back
pub bits_of_members : (bits : ℕ) → bits < 16 → bits_of (members bits) ≡ bits
unfolding members
bits_of_members bits small = eqb-true _ _
    (agree_below_at (λ n. nat_eq (bits_of (members n)) n) (λ _. true) 16 bits refl small)
