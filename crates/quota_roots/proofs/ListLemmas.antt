-- The first root with the name of one before.
use Rattle.std.proofs.Common.{◌≡◌, ℕ, ◌+◌, ◌<◌, ◌≤◌, Bool, true, false, cond, List, [], ◌∷◌, length, take, get_or, ltb, Option, Some, None, arith, refl, ◌∙◌, ap, lt-ltb, le-ltb}
use Rattle.std.specs.List.{enumerate_from, position_or_len}
use Rattle.std.proofs.lemmas.List.FromFn.{length-enumerate_from, get_or-enumerate_from}
use Rattle.std.proofs.lemmas.List.Sums.{position_or_len_is}
use Rattle.quota_roots.specs.declared.root.RootSpec.{RootSpec}
use Rattle.quota_roots.specs.RootLists.{first_double, has_name}

abbrev repeats : List RootSpec → ℕ × RootSpec → Bool
repeats roots p = has_name (take p.0 roots) p.1.name

repeats_at : (roots : List RootSpec) (k : ℕ) (d : RootSpec) → k < length roots → repeats roots (get_or (enumerate_from 0 roots) k (0, d)) ≡ has_name (take k roots) (get_or roots k d).name
repeats_at roots k d within =
    let same : 0 + k ≡ k = omega arith in
    ap (repeats roots) (get_or-enumerate_from 0 roots k (0, d) within) ∙ ap (λ n. has_name (take n roots) (get_or roots k d).name) same

-- no root below this place has the name of one before
abbrev pub NoneBelow : List RootSpec → ℕ → Type 0
NoneBelow roots at = (k : ℕ) (d : RootSpec) → k < at → has_name (take k roots) (get_or roots k d).name ≡ false

place : (roots : List RootSpec) (at : ℕ) (d : RootSpec) → at ≤ length roots → NoneBelow roots at → (at < length roots → has_name (take at roots) (get_or roots at d).name ≡ true)
    → position_or_len (repeats roots) (enumerate_from 0 roots) ≡ at
place roots at d within none here =
    let long = length-enumerate_from 0 roots in
    position_or_len_is (repeats roots) (enumerate_from 0 roots) at (0, d) (omega arith)
    (λ k below. repeats_at roots k d (omega arith) ∙ none k d below)
    (λ below. let inside : at < length roots = omega arith in repeats_at roots at d inside ∙ here inside)

found : List RootSpec → ℕ → Option ℕ
found roots n = cond (ltb n (length (enumerate_from 0 roots))) (Some n) None

pub double_here : (roots : List RootSpec) (at : ℕ) (d : RootSpec) → at < length roots → NoneBelow roots at → has_name (take at roots) (get_or roots at d).name ≡ true → first_double roots ≡ Some at
unfolding found
double_here roots at d within none here =
    let long = length-enumerate_from 0 roots in
    ap (found roots) (place roots at d (omega arith) none (λ _. here)) ∙ ap (λ b. cond b (Some at) None) (lt-ltb at _ (omega arith))

pub double_nowhere : (roots : List RootSpec) → NoneBelow roots (length roots) → first_double roots ≡ None
unfolding found
double_nowhere [] none = refl
double_nowhere (root ∷ roots) none =
    let all = root ∷ roots in
    let long = length-enumerate_from 0 all in
    let at = length all in
    ap (found all) (place all at root (omega arith) none (λ past. absurd (omega arith))) ∙ ap (λ b. cond b (Some at) None) (le-ltb at _ (omega arith))
