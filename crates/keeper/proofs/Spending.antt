-- Failures that are due, over several calls of a keeper.
use Rattle.std.proofs.Common.{◌≡◌, ℕ, ◌+◌, ◌≤◌, Option, arith}
use Rattle.keeper.specs.Calls.{Told, Changes, Spends}
use Rattle.keeper.proofs.Changing.{changes_then, changes_weaken, changes_same}

-- a call that other faults than those of appends may be counted in, or those of appends alone
pub spends_others : (failed : Type 0) (faults faults' appends appends' : ℕ) (t t' : Option Told) → Changes (Spends failed faults faults') t t' → appends' ≡ appends → Changes (Spends failed (faults + appends) (faults' + appends')) t t'
spends_others failed faults faults' appends appends' t t' spends same =
    changes_weaken {X = Told} (Spends failed faults faults') (Spends failed (faults + appends) (faults' + appends'))
    (λ (x y : Told) s. record { fewer = s.fewer; bounded = omega (arith, s.bounded, same) }) t t' spends

pub spends_appends : (failed : Type 0) (faults faults' appends appends' : ℕ) (t t' : Option Told) → Changes (Spends failed appends appends') t t' → faults' ≡ faults → Changes (Spends failed (faults + appends) (faults' + appends')) t t'
spends_appends failed faults faults' appends appends' t t' spends same =
    changes_weaken {X = Told} (Spends failed appends appends') (Spends failed (faults + appends) (faults' + appends'))
    (λ (x y : Told) s. record { fewer = s.fewer; bounded = omega (arith, s.bounded, same) }) t t' spends

-- nothing was called
pub spends_none : (failed : Type 0) (count : ℕ) (t : Option Told) → ¬ failed → Changes (Spends failed count count) t t
spends_none failed count t not = changes_same {X = Told} (Spends failed count count) (λ (x : Told). record { fewer = λ f. absurd (not f); bounded = omega arith }) t

-- one call after another, where the later one fails if the whole does
pub spends_then : (before failed : Type 0) (a b c : ℕ) (t u v : Option Told) → a ≤ b → Changes (Spends before a b) t u → Changes (Spends failed b c) u v → Changes (Spends failed a c) t v
spends_then before failed a b c t u v later first next =
    changes_then {X = Told} (Spends before a b) (Spends failed b c) (Spends failed a c)
    (λ (x y z : Told) s n. record { fewer = λ f. let e = n.fewer f in omega (arith, e, s.bounded, later); bounded = omega (arith, s.bounded, n.bounded) }) t u v first next

-- a call that has not failed
pub spends_not : (before failed : Type 0) (a b : ℕ) (t u : Option Told) → (failed → before) → Changes (Spends before a b) t u → Changes (Spends failed a b) t u
spends_not before failed a b t u weaker = changes_weaken {X = Told} (Spends before a b) (Spends failed a b) (λ (x y : Told) s. record { fewer = λ f. s.fewer (weaker f); bounded = s.bounded }) t u
