-- Parts of a list of bytes.
use Rattle.std.proofs.Common.{◌≡◌, ℕ, ◌+◌, ◌-◌, ◌≤◌, List, ◌++◌, length, take, drop, ap, sym, subst, ◌∙◌, arith, length-drop, length-take-le}
use Rattle.std.proofs.Math.Seq.{take-append_seam}
use Rattle.std.proofs.lemmas.List.{drop-take, drop-drop, length-take, take_all, take-append-drop}

-- a part that begins n bytes later has all but the first n bytes
pub drop_part : (xs : List ℕ) (i j n : ℕ) → n ≤ length (take (j - i) (drop i xs)) → take (j - (i + n)) (drop (i + n) xs) ≡ drop n (take (j - i) (drop i xs))
drop_part xs i j n h =
    let within : n ≤ j - i = omega (arith, length-take (j - i) (drop i xs)) in
    let cut : j - i ≡ n + (j - (i + n)) = omega arith in
    ap (λ l. take (j - (i + n)) l) (sym (drop-drop n i xs)) ∙ sym (drop-take n (j - (i + n)) (drop i xs)) ∙ ap (λ k. drop n (take k (drop i xs))) (sym cut)

-- the part from n on
pub slice_from : (xs : List ℕ) (n : ℕ) → take (length xs - n) (drop n xs) ≡ drop n xs
slice_from xs n = take_all (length xs - n) (drop n xs) (omega (arith, length-drop n xs))

-- what is left, where its first n bytes were copied over those of a buffer
pub copied_prefix : (bytes buffer prefix : List ℕ) (at n : ℕ) → n ≤ length (take (length bytes - at) (drop at bytes)) → prefix ≡ take n (take (length bytes - at) (drop at bytes))
    → drop at bytes ≡ take n (prefix ++ drop n buffer) ++ drop (at + n) bytes
copied_prefix bytes buffer prefix at n fits copied =
    let is : prefix ≡ take n (drop at bytes) = copied ∙ ap (take n) (slice_from bytes at) in
    let short : n ≤ length (drop at bytes) = subst (λ l. n ≤ length l) (slice_from bytes at) fits in
    let long : length prefix ≡ n = ap length is ∙ length-take-le n (drop at bytes) short in
    let first : take n (prefix ++ drop n buffer) ≡ prefix = subst (λ k. take k (prefix ++ drop n buffer) ≡ prefix) long (take-append_seam prefix (drop n buffer)) in
    sym (take-append-drop n (drop at bytes)) ∙ ap (λ l. l ++ drop n (drop at bytes)) (sym (first ∙ is)) ∙ ap (λ l. take n (prefix ++ drop n buffer) ++ l) (drop-drop n at bytes)
