-- Prefixes of histories, and the entries of one caller.
use Rattle.std.proofs.Common.{◌≡◌, ◌≢◌, ◌<◌, ◌≤◌, ◌+◌, ℕ, List, [], ◌∷◌, ◌++◌, length, refl, sym, ap, ◌∙◌, subst, append_assoc, append-nil, length-append, arith, eq-eqb, ne_eqb}
use mathlib.Core.Logic.{dite}
use native.Mathlib.Decide.{ℕ_discrete}
use Rattle.account_core.specs.declared.calls.Entry.{Entry}
use Rattle.account_core.specs.Histories.{Begins, EachBegins, calls_by, CallersBelow}

pub begins_itself : (xs : List Entry) → Begins xs xs
begins_itself xs = ([], append-nil xs)

pub begins_along : (xs ys zs : List Entry) → Begins xs ys → Begins ys zs → Begins xs zs
begins_along xs ys zs (r, e) (s, f) = (r ++ s, sym (append_assoc xs r s) ∙ (ap (λ (l : List Entry). l ++ s) e ∙ f))

pub each_begins_along : (lists : List (List Entry)) (ys zs : List Entry) → EachBegins lists ys → Begins ys zs → EachBegins lists zs
each_begins_along [] ys zs each b = tt
each_begins_along (xs ∷ lists) ys zs each b = (begins_along xs ys zs each.0 b, each_begins_along lists ys zs each.1 b)

pub each_begins_both : (lists more : List (List Entry)) (ys : List Entry) → EachBegins lists ys → EachBegins more ys → EachBegins (lists ++ more) ys
each_begins_both [] more ys each also = also
each_begins_both (xs ∷ lists) more ys each also = (each.0, each_begins_both lists more ys each.1 also)

pub begins_length : (xs ys : List Entry) → Begins xs ys → length xs ≤ length ys
begins_length xs ys (r, e) = let l = ap length e in omega (arith, length-append xs r)

no_length : (r : List Entry) → length r ≡ 0 → r ≡ []
no_length [] e = refl
no_length (x ∷ r) e = absurd (omega arith)

-- a prefix that is as long is the whole
pub begins_whole : (xs ys : List Entry) → Begins xs ys → length ys ≤ length xs → xs ≡ ys
begins_whole xs ys (r, e) le =
    let l = ap length e in
    let none : length r ≡ 0 = omega (arith, length-append xs r) in
    sym (append-nil xs) ∙ (ap (λ (t : List Entry). xs ++ t) (sym (no_length r none)) ∙ e)

-- of two prefixes the shorter is a prefix of the longer
pub begins_shorter : (xs ys zs : List Entry) → Begins xs zs → Begins ys zs → length xs ≤ length ys → Begins xs ys
begins_shorter [] ys zs b c le = (ys, refl)
begins_shorter (x ∷ xs) [] zs b c le = absurd (omega arith)
begins_shorter (x ∷ xs) (y ∷ ys) [] (r, e) c le = absurd (let l = ap length e in omega arith)
begins_shorter (x ∷ xs) (y ∷ ys) (z ∷ zs) (r, e) (s, f) le =
    let head : x ≡ y = cc in
    let tail : xs ++ r ≡ zs = cc in
    let tail' : ys ++ s ≡ zs = cc in
    let more = begins_shorter xs ys zs (r, tail) (s, tail') (omega arith) in
    (more.0, λ k. head k ∷ more.1 k)

pub first_own : (n : ℕ) (e : Entry) (es : List Entry) → e.caller ≡ n → calls_by n (e ∷ es) ≡ e ∷ calls_by n es
first_own n e es is = rw (eq-eqb e.caller n is)

pub first_other : (n : ℕ) (e : Entry) (es : List Entry) → e.caller ≢ n → calls_by n (e ∷ es) ≡ calls_by n es
first_other n e es is = rw (ne_eqb e.caller n is)

pub calls_by_both : (n : ℕ) (xs ys : List Entry) → calls_by n (xs ++ ys) ≡ calls_by n xs ++ calls_by n ys
calls_by_both n [] ys = refl
calls_by_both n (x ∷ xs) ys = dite (ℕ_discrete x.caller n)
    (λ is. first_own n x (xs ++ ys) is ∙ (ap (λ (l : List Entry). x ∷ l) (calls_by_both n xs ys) ∙ ap (λ (l : List Entry). l ++ calls_by n ys) (sym (first_own n x xs is))))
    (λ not. first_other n x (xs ++ ys) not ∙ (calls_by_both n xs ys ∙ ap (λ (l : List Entry). l ++ calls_by n ys) (sym (first_other n x xs not))))

-- one entry more, of the caller
pub calls_by_own : (n : ℕ) (xs : List Entry) (e : Entry) → e.caller ≡ n → calls_by n (xs ++ e ∷ []) ≡ calls_by n xs ++ e ∷ []
calls_by_own n xs e is = calls_by_both n xs (e ∷ []) ∙ ap (λ (l : List Entry). calls_by n xs ++ l) (first_own n e [] is)

-- one entry more, of another
pub calls_by_other : (n : ℕ) (xs : List Entry) (e : Entry) → e.caller ≢ n → calls_by n (xs ++ e ∷ []) ≡ calls_by n xs
calls_by_other n xs e not = calls_by_both n xs (e ∷ []) ∙ (ap (λ (l : List Entry). calls_by n xs ++ l) (first_other n e [] not) ∙ append-nil (calls_by n xs))

-- a caller that is not yet made has no entry
pub calls_by_nobody : (n k : ℕ) (xs : List Entry) → CallersBelow k xs → k ≤ n → calls_by n xs ≡ []
calls_by_nobody n k [] below le = refl
calls_by_nobody n k (x ∷ xs) below le = let b : x.caller < k = below.0 in first_other n x xs (λ e. omega arith) ∙ calls_by_nobody n k xs below.1 le

pub callers_below_more : (k : ℕ) (xs : List Entry) (e : Entry) → CallersBelow k xs → e.caller < k → CallersBelow k (xs ++ e ∷ [])
callers_below_more k [] e below b = (b, tt)
callers_below_more k (x ∷ xs) e below b = (below.0, callers_below_more k xs e below.1 b)

pub callers_below_up : (k m : ℕ) (xs : List Entry) → CallersBelow k xs → k ≤ m → CallersBelow m xs
callers_below_up k m [] below le = tt
callers_below_up k m (x ∷ xs) below le = let b : x.caller < k = below.0 in (omega arith, callers_below_up k m xs below.1 le)

callers_of_both : (k : ℕ) (xs r : List Entry) → CallersBelow k (xs ++ r) → CallersBelow k xs
callers_of_both k [] r below = tt
callers_of_both k (x ∷ xs) r below = (below.0, callers_of_both k xs r below.1)

pub callers_of_prefix : (k : ℕ) (xs ys : List Entry) → Begins xs ys → CallersBelow k ys → CallersBelow k xs
callers_of_prefix k xs ys (r, e) below = callers_of_both k xs r (subst (CallersBelow k) (sym e) below)

-- where a caller has no entry behind xs, it has none between xs and a longer prefix
pub calls_between : (n : ℕ) (xs ys zs : List Entry) → Begins xs ys → Begins ys zs → calls_by n zs ≡ calls_by n xs → calls_by n ys ≡ calls_by n xs
calls_between n xs ys zs (r, e) (s, f) same =
    let cs = calls_by n xs in
    let mid : calls_by n ys ≡ cs ++ calls_by n r = ap (calls_by n) (sym e) ∙ calls_by_both n xs r in
    let all : calls_by n zs ≡ calls_by n ys ++ calls_by n s = ap (calls_by n) (sym f) ∙ calls_by_both n ys s in
    let l : length cs ≡ length (calls_by n ys) + length (calls_by n s) = ap length (sym same ∙ all) ∙ length-append (calls_by n ys) (calls_by n s) in
    let m : length (calls_by n ys) ≡ length cs + length (calls_by n r) = ap length mid ∙ length-append cs (calls_by n r) in
    let none : length (calls_by n r) ≡ 0 = omega arith in
    mid ∙ (ap (λ (t : List Entry). cs ++ t) (no_length (calls_by n r) none) ∙ append-nil cs)
