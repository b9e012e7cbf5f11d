-- The first place at which a test passes, by the number of those before it.
use Rattle.std.proofs.Common.{◌≡◌, ℕ, ◌≤◌, Bool, true, false, cond, ltb, Some, None, refl, ltb-false}

pub place_is : (b : Bool) (n at : ℕ) → Some at ≡ cond b (Some n) None → at ≡ n
place_is true n at h = cc
place_is false n at h = cc

pub no_place : (n long : ℕ) → None ≡ cond (ltb n long) (Some n) None → long ≤ n
no_place n long h = let P : Bool → Type 0 = λ b. ltb n long ≡ b → None ≡ cond b (Some n) None → long ≤ n in
    elim (ltb n long) as P [ true ↦ λ e k. absurd (cc) | false ↦ λ e k. ltb-false n long e ] refl h
