-- Sets of roots as bits. What holds of each of the sixteen sets and each of the four roots is computed.
use Rattle.std.proofs.Common.{◌≡◌, ℕ, zero, suc, ◌*◌, ◌/◌, ◌%◌, ◌^◌, ◌<◌, ◌≤◌, Bool, true, false, not, ◌&&◌, ◌||◌, ◌↔◌, [], ◌∷◌, ◌++◌, eqb, ltb, bit_and, bit_or, arith, refl, sym, ◌∙◌, ap, inl, inr}
use Rattle.std.specs.Cmp.{booleans_Decides}
use Rattle.std.specs.List.{All, Contains, list_all, range_with_len}
use Rattle.std.specs.List.Sorted.{IsStrictlyIncreasing}
use Rattle.std.specs.Int.{bit_at}
use Rattle.std.specs.Str.{bytes_eq}
use mathlib.Core.Bool.{beq}
use Rattle.std.proofs.lemmas.Bool.{agree_below, agree_below_at, ltb-true, lt-ltb, and_parts, not_from_true, cases_Bool}
use Rattle.std.proofs.lemmas.List.Elements.{All-contains, All-weaker}
use Rattle.std.proofs.lemmas.Slice.Eq.{bytes_eq-Decides}
use Rattle.std.proofs.lemmas.List.Kept.{IsStrictlyIncreasing-filter}
use Rattle.std.proofs.lemmas.List.Sums.{list_all-from_AllPass, AllPass-from_list_all}
use Rattle.quota_roots.specs.RootSets.{members, has_root}
use Rattle.quota_roots.proofs.MemberLemmas.{is_in, is_in-from_Contains, Contains-from_is_in}

abbrev each_set : (ℕ → ℕ → Bool) → Bool
each_set test = agree_below (λ bits. agree_below (test bits) (λ _. true) 4) (λ _. true) 16

each_set_at : (test : ℕ → ℕ → Bool) → each_set test ≡ true → (bits root : ℕ) → bits < 16 → root < 4 → test bits root ≡ true
each_set_at test h bits root small low =
    agree_below_at (test bits) (λ _. true) 4 root (agree_below_at (λ n. agree_below (test n) (λ _. true) 4) (λ _. true) 16 bits h small) low

-- the bit of a root is set where it is a member
tells : ℕ → ℕ → Bool
tells bits root = beq (eqb (bit_and (bits / 2 ^ root) 1) 1) (is_in root (members bits))

tells_each : each_set tells ≡ true
unfolding tells members
tells_each = refl

-- no member is 4 or more
low : ℕ → ℕ → Bool
low bits _ = list_all (λ root. ltb root 4) (members bits)

low_each : each_set low ≡ true
unfolding low members
low_each = refl

with_bit : ℕ → ℕ → ℕ
with_bit bits root = bit_or bits (1 * 2 ^ root % 256)

-- a root above all members comes behind them
adds : ℕ → ℕ → Bool
adds bits root = not (list_all (λ other. ltb other root) (members bits)) || (ltb (with_bit bits root) 16 && bytes_eq (members (with_bit bits root)) (members bits ++ root ∷ []))

adds_each : each_set adds ≡ true
unfolding adds with_bit members
adds_each = refl

pub bit_tells : (bits root : ℕ) → bits < 16 → root < 4 → (eqb (bit_and (bits / 2 ^ root) 1) 1 ≡ true) ↔ Contains (members bits) root
unfolding tells
bit_tells bits root small under =
    let same = (booleans_Decides _ _).0 (each_set_at tells tells_each bits root small under) in
    (λ set. Contains-from_is_in _ root (sym same ∙ set), λ has. same ∙ is_in-from_Contains _ root has)

pub all_low : (bits : ℕ) → bits < 16 → All (λ other. other < 4) (members bits)
unfolding low
all_low bits small =
    let all = AllPass-from_list_all (λ other. ltb other 4) (members bits) (each_set_at low low_each bits 0 small (omega arith)) in
    All-weaker (λ other. ltb other 4 ≡ true) (λ other. other < 4) (λ other h. ltb-true other 4 h) (members bits) all

pub members_low : (bits root : ℕ) → bits < 16 → Contains (members bits) root → root < 4
members_low bits root small has = All-contains (λ other. other < 4) (members bits) root (all_low bits small) has

numbers_in_order : IsStrictlyIncreasing (range_with_len 0 4)
numbers_in_order zero below = omega arith
numbers_in_order (suc zero) below = omega arith
numbers_in_order (suc (suc zero)) below = omega arith
numbers_in_order (suc (suc (suc k))) below = absurd (omega arith)

pub in_order : (bits : ℕ) → IsStrictlyIncreasing (members bits)
unfolding members
in_order bits = IsStrictlyIncreasing-filter (λ root. eqb (bit_at bits root) 1) (range_with_len 0 4) numbers_in_order

added : (bits root : ℕ) → bits < 16 → root < 4 → All (λ other. other < root) (members bits)
    → (ltb (with_bit bits root) 16 && bytes_eq (members (with_bit bits root)) (members bits ++ root ∷ [])) ≡ true
unfolding adds
added bits root small under above =
    let all = list_all-from_AllPass (λ other. ltb other root) (members bits) (All-weaker (λ other. other < root) (λ other. ltb other root ≡ true) (λ other h. lt-ltb other root h) (members bits) above) in
    sym (ap (λ b. b || (ltb (with_bit bits root) 16 && bytes_eq (members (with_bit bits root)) (members bits ++ root ∷ []))) (not_from_true _ all)) ∙ each_set_at adds adds_each bits root small under

pub with_small : (bits root : ℕ) → bits < 16 → root < 4 → All (λ other. other < root) (members bits) → bit_or bits (1 * 2 ^ root % 256) < 16
unfolding with_bit
with_small bits root small under above = ltb-true _ 16 (and_parts _ _ (added bits root small under above)).0

pub with_members : (bits root : ℕ) → bits < 16 → root < 4 → All (λ other. other < root) (members bits) → members (bit_or bits (1 * 2 ^ root % 256)) ≡ members bits ++ root ∷ []
unfolding with_bit
with_members bits root small under above = (bytes_eq-Decides _ _).0 (and_parts _ _ (added bits root small under above)).1

-- the bit tells whether the root is in the set
pub bit_is : (bits root : ℕ) → bits < 16 → root < 4 → eqb (bit_and (bits / 2 ^ root) 1) 1 ≡ has_root (members bits) root
unfolding tells
bit_is bits root small under = (booleans_Decides _ _).0 (each_set_at tells tells_each bits root small under)

-- no other root is
pub past_none : (bits root : ℕ) → bits < 16 → 4 ≤ root → has_root (members bits) root ≡ false
past_none bits root small past =
    elim (cases_Bool (has_root (members bits) root)) [
      | inl is ↦ let low = members_low bits root small (Contains-from_is_in _ root is) in absurd (omega arith)
      | inr is ↦ is
    ]
