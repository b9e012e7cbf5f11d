-- A name that begins with a prefix and a dot.
use Rattle.std.proofs.Common.{◌≡◌, ℕ, suc, Bool, true, ◌&&◌, ◌||◌, List, [], ◌∷◌, length, take, drop, get_or, eqb, arith, refl}
use Rattle.std.specs.Cmp.Lexicographic.{pointwise}
use Rattle.std.proofs.lemmas.Bool.Decides.{nat_tests}
use Rattle.quota_roots.specs.Governing.{is_under}

step : (b p : ℕ) (whole longer prefix rest : Bool) → (whole || longer) ≡ (prefix && rest)
    → ((eqb b p && whole) || (eqb p b && longer)) ≡ ((eqb b p && prefix) && rest)
step b p whole longer prefix rest h = grind (arith, nat_tests)

first : (b n : ℕ) → (eqb 46 b && true) ≡ (eqb (suc n) 0 || eqb b 46)
first b n = grind (arith, nat_tests)

-- the prefix comes first, and behind it stands nothing or a dot
pub goes_on : (prefix mailbox : List ℕ) → is_under prefix mailbox
    ≡ (pointwise eqb (take (length prefix) mailbox) prefix && (eqb (length (drop (length prefix) mailbox)) 0 || eqb (get_or (drop (length prefix) mailbox) 0 0) 46))
goes_on [] [] = refl
goes_on [] (b ∷ bs) = first b (length bs)
goes_on (p ∷ ps) [] = refl
goes_on (p ∷ ps) (b ∷ bs) = step b p _ _ _ _ (goes_on ps bs)
