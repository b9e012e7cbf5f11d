-- Quota roots that are right in their places.
use Rattle.std.proofs.Common.{◌≡◌, ℕ, suc, ◌+◌, ◌<◌, Bool, true, not, ◌&&◌, cond, List, [], ◌∷◌, ◌++◌, length, ltb, None, Some, arith, refl, ◌∙◌, sym, ap, le-ltb}
use Rattle.std.specs.List.{enumerate_from, position_or_len}
use Rattle.std.proofs.lemmas.Bool.{and_parts}
use Rattle.quota_roots.specs.declared.root.RootSpec.{RootSpec}
use Rattle.quota_roots.specs.RootLists.{first_bad_name, first_double, is_root_at, AreRoots}
use Rattle.quota_roots.specs.declared.roots.RootsError.{RootsError}
use Rattle.quota_roots.specs.declared.roots.RootsError.TheVariants.{TooMany, BadName, Double}

-- each root is right in its place, the first in this one
abbrev pub are_right_from : ℕ → List RootSpec → Bool
are_right_from at [] = true
are_right_from at (root ∷ roots) = is_root_at at root && are_right_from (at + 1) roots

pub right_more : (at : ℕ) (roots : List RootSpec) (root : RootSpec) → are_right_from at roots ≡ true → is_root_at (at + length roots) root ≡ true → are_right_from at (roots ++ root ∷ []) ≡ true
right_more at [] root right here =
    let e : at ≡ at + 0 = omega arith in
    let fits : is_root_at at root ≡ true = ap (λ n. is_root_at n root) e ∙ here in
    rw fits refl
right_more at (first ∷ roots) root right here =
    let (one, more) = and_parts (is_root_at at first) (are_right_from (at + 1) roots) right in
    let e : at + suc (length roots) ≡ at + 1 + length roots = omega arith in
    rw (one, right_more (at + 1) roots root more (ap (λ n. is_root_at n root) (sym e) ∙ here))

abbrev wrong : ℕ × RootSpec → Bool
wrong p = not (is_root_at p.0 p.1)

none_wrong : (at : ℕ) (roots : List RootSpec) → are_right_from at roots ≡ true → position_or_len wrong (enumerate_from at roots) ≡ length (enumerate_from at roots)
none_wrong at [] right = refl
none_wrong at (root ∷ roots) right =
    let (one, more) = and_parts (is_root_at at root) (are_right_from (at + 1) roots) right in
    rw one (ap (λ n. 1 + n) (none_wrong (at + 1) roots more) ∙ omega arith)

pub right_roots : (roots : List RootSpec) → are_right_from 0 roots ≡ true → first_bad_name roots ≡ None
right_roots roots right =
    let at = none_wrong 0 roots right in
    ap (λ n. cond (ltb n (length (enumerate_from 0 roots))) (Some n) None) at
    ∙ ap (λ b. cond b (Some (length (enumerate_from 0 roots))) None) (le-ltb (length (enumerate_from 0 roots)) (length (enumerate_from 0 roots)) (omega arith))

-- roots that are right are not refused
pub not_refused : (roots : List RootSpec) (e : RootsError) → AreRoots roots → ((count : ℕ) → e ≡ TooMany count → 4 < length roots) → ((at : ℕ) → e ≡ BadName at → first_bad_name roots ≡ Some at)
    → ((at : ℕ) → e ≡ Double at → first_double roots ≡ Some at) → ⊥
not_refused roots (TooMany count) right many bad double = let few = right.few in let more = many count refl in omega arith
not_refused roots (BadName at) right many bad double = let none = right.right in let some = bad at refl in cc
not_refused roots (Double at) right many bad double = let none = right.different in let some = double at refl in cc
