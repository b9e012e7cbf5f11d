-- Sums over lists that are made of others.
use Rattle.std.proofs.Common.{◌≡◌, ℕ, zero, suc, ◌+◌, ◌<◌, ◌≤◌, Bool, true, false, cond, List, [], ◌∷◌, length, map, sum_by, zero-add, arith, refl, sym, ap, ◌∙◌}
use Rattle.std.specs.List.{flat_map, range_with_len}
use Rattle.std.proofs.lemmas.List.Sums.{sum_by-append, sum_by-cons}

pub same_sums : {X : Type 0} (f g : X → ℕ) (xs : List X) → ((x : X) → f x ≡ g x) → sum_by f xs ≡ sum_by g xs
same_sums f g [] same = refl
same_sums f g (x ∷ xs) same = sum_by-cons f x xs ∙ ap (λ n. n + sum_by f xs) (same x) ∙ ap (λ n. g x + n) (same_sums f g xs same) ∙ sym (sum_by-cons g x xs)

pub sum_map : {X Y : Type 0} (f : Y → ℕ) (h : X → Y) (xs : List X) → sum_by f (map h xs) ≡ sum_by (λ x. f (h x)) xs
sum_map f h [] = refl
sum_map f h (x ∷ xs) = sum_by-cons f (h x) (map h xs) ∙ ap (λ n. f (h x) + n) (sum_map f h xs) ∙ sym (sum_by-cons (λ x. f (h x)) x xs)

pub sum_flat_map : {X Y : Type 0} (f : Y → ℕ) (h : X → List Y) (xs : List X) → sum_by f (flat_map h xs) ≡ sum_by (λ x. sum_by f (h x)) xs
sum_flat_map f h [] = refl
sum_flat_map f h (x ∷ xs) =
    sum_by-append f (h x) (flat_map h xs) ∙ ap (λ n. sum_by f (h x) + n) (sum_flat_map f h xs) ∙ sym (sum_by-cons (λ x. sum_by f (h x)) x xs)

pub sum_none : {X : Type 0} (xs : List X) → sum_by (λ (x : X). 0) xs ≡ 0
sum_none [] = refl
sum_none {X} (x ∷ xs) = sum_by-cons (λ (y : X). 0) x xs ∙ zero-add (sum_by (λ (y : X). 0) xs) ∙ sum_none xs

pub sum_ones : {X : Type 0} (xs : List X) → sum_by (λ (x : X). 1) xs ≡ length xs
sum_ones [] = refl
sum_ones {X} (x ∷ xs) = let e = sum_by-cons (λ (x : X). 1) x xs in let f = sum_ones xs in omega arith

pub sum_where : {X : Type 0} (b : Bool) (f : X → ℕ) (xs : List X) → sum_by (λ x. cond b (f x) 0) xs ≡ cond b (sum_by f xs) 0
sum_where true f xs = refl
sum_where false f xs = sum_none xs

-- sums over numbers one after another
pub same_below : (f g : ℕ → ℕ) (n a : ℕ) → ((i : ℕ) → a ≤ i → i < a + n → f i ≡ g i) → sum_by f (range_with_len a n) ≡ sum_by g (range_with_len a n)
same_below f g zero a same = refl
same_below f g (suc n) a same =
    sum_by-cons f a (range_with_len (a + 1) n)
    ∙ ap (λ x. x + sum_by f (range_with_len (a + 1) n)) (same a (omega arith) (omega arith))
    ∙ ap (λ x. g a + x) (same_below f g n (a + 1) (λ i low high. same i (omega arith) (omega arith)))
    ∙ sym (sum_by-cons g a (range_with_len (a + 1) n))

pub one_more : (f : ℕ → ℕ) (n a : ℕ) → sum_by f (range_with_len a (n + 1)) ≡ sum_by f (range_with_len a n) + f (a + n)
one_more f zero a = sum_by-cons f a (range_with_len (a + 1) 0) ∙ (let e : a + 0 ≡ a = omega arith in rw e (omega arith))
one_more f (suc n) a =
    let w : suc n + 1 ≡ suc (n + 1) = omega arith in
    let e : sum_by f (range_with_len a (suc n + 1)) ≡ f a + sum_by f (range_with_len (a + 1) (n + 1)) = ap (λ k. sum_by f (range_with_len a k)) w ∙ sum_by-cons f a (range_with_len (a + 1) (n + 1)) in
    let k : sum_by f (range_with_len a (suc n)) ≡ f a + sum_by f (range_with_len (a + 1) n) = sum_by-cons f a (range_with_len (a + 1) n) in
    let i = one_more f n (a + 1) in
    let s : f (a + 1 + n) ≡ f (a + suc n) = ap f (omega arith) in
    omega arith
