-- The roots that govern a mailbox: one root more, and which they are.
use Rattle.std.proofs.Common.{◌≡◌, ℕ, ◌+◌, ◌<◌, true, false, not, ◌&&◌, cond, ◌↔◌, List, [], ◌∷◌, ◌++◌, length, get_or, Option, Some, None, arith, sym, ◌∙◌, ap, inl, inr, append-nil}
use Rattle.std.specs.List.{All, Contains, filter, range_with_len}
use Rattle.std.specs.Option.{option_map_or}
use Rattle.std.proofs.lemmas.Bool.{and_parts, and_from, cases_lt, false≢true, not-true, cases_Bool}
use Rattle.std.proofs.lemmas.List.{map-id}
use Rattle.std.proofs.lemmas.List.Elements.{filter-append, All-filter}
use Rattle.std.proofs.lemmas.List.FromFn.{map-range_with_len_more, length-range_with_len, get_or-range_with_len}
use Rattle.std.proofs.lemmas.Option.{slice_get-get_or, slice_get_past}
use Rattle.quota_roots.specs.declared.root.RootSpec.{RootSpec}
use Rattle.quota_roots.specs.Governing.{governs, governs_at, governing, gains, gains_at, gaining, gainers, gains_by}
use Rattle.quota_roots.specs.RootSets.{has_root}
use Rattle.quota_roots.proofs.MemberLemmas.{is_in-from_Contains, Contains-from_is_in, is_in-filter, range-is_in}

-- those below this number
abbrev pub governing_below : List RootSpec → List ℕ → ℕ → List ℕ
governing_below roots mailbox n = filter (λ root. governs_at roots root mailbox) (range_with_len 0 n)

range_push : (n : ℕ) → range_with_len 0 (n + 1) ≡ range_with_len 0 n ++ n ∷ []
range_push n = sym (map-id (range_with_len 0 (n + 1))) ∙ (map-range_with_len_more (λ x. x) 0 n n (omega arith) ∙ ap (λ xs. xs ++ n ∷ []) (map-id (range_with_len 0 n)))

pub governing_more : (roots : List RootSpec) (mailbox : List ℕ) (n : ℕ)
    → governing_below roots mailbox (n + 1) ≡ governing_below roots mailbox n ++ cond (governs_at roots n mailbox) (n ∷ []) []
governing_more roots mailbox n =
    let p = λ (root : ℕ). governs_at roots root mailbox in
    ap (filter p) (range_push n) ∙ filter-append p (range_with_len 0 n) (n ∷ [])

pub governs_at_get_or : (roots : List RootSpec) (mailbox : List ℕ) (n : ℕ) (d : RootSpec) → n < length roots → governs_at roots n mailbox ≡ governs (get_or roots n d) mailbox
governs_at_get_or roots mailbox n d inside = ap (λ o. option_map_or (λ spec. governs spec mailbox) o false) (slice_get-get_or roots n d inside)

pub all_below : (roots : List RootSpec) (mailbox : List ℕ) (n : ℕ) → All (λ root. root < n) (governing_below roots mailbox n)
all_below roots mailbox n =
    All-filter (λ root. governs_at roots root mailbox) (λ root. root < n) (range_with_len 0 n)
    (λ k d inside. omega (arith, inside, length-range_with_len 0 n, get_or-range_with_len 0 n k d (omega (arith, inside, length-range_with_len 0 n))))

pub governed_inside : (roots : List RootSpec) (mailbox : List ℕ) (root : ℕ) → governs_at roots root mailbox ≡ true → root < length roots
governed_inside roots mailbox root governed = elim (cases_lt root (length roots)) [
  | inl inside ↦ inside
  | inr past ↦ absurd (false≢true (sym (ap (λ o. option_map_or (λ spec. governs spec mailbox) o false) (slice_get_past roots root past)) ∙ governed))
]

pub governing_members : (roots : List RootSpec) (mailbox : List ℕ) (root : ℕ) → Contains (governing roots mailbox) root ↔ (governs_at roots root mailbox ≡ true)
governing_members roots mailbox root =
    let p = λ (k : ℕ). governs_at roots k mailbox in
    let numbers = range_with_len 0 (length roots) in
    let both = is_in-filter p root numbers in (
      λ has. (and_parts _ _ (sym both ∙ is_in-from_Contains _ root has)).1,
      λ governed. let inside = governed_inside roots mailbox root governed in
          Contains-from_is_in _ root (both ∙ and_from _ _ (range-is_in root (length roots) 0 (omega arith) (omega arith)) governed),
    )

-- the roots below this number that govern one mailbox and not another
abbrev pub gaining_below : List RootSpec → List ℕ → List ℕ → ℕ → List ℕ
gaining_below roots from to n = filter (λ root. gains_at roots root from to) (range_with_len 0 n)

gaining_more : (roots : List RootSpec) (from to : List ℕ) (n : ℕ) → gaining_below roots from to (n + 1) ≡ gaining_below roots from to n ++ cond (gains_at roots n from to) (n ∷ []) []
gaining_more roots from to n =
    let p = λ (root : ℕ). gains_at roots root from to in
    ap (filter p) (range_push n) ∙ filter-append p (range_with_len 0 n) (n ∷ [])

gains_at_get_or : (roots : List RootSpec) (from to : List ℕ) (n : ℕ) (d : RootSpec) → n < length roots → gains_at roots n from to ≡ gains (get_or roots n d) from to
gains_at_get_or roots from to n d inside =
    ap (λ b. b && not (governs_at roots n from)) (governs_at_get_or roots to n d inside) ∙ ap (λ b. governs (get_or roots n d) to && not b) (governs_at_get_or roots from n d inside)

-- one root more, that governs so or does not
pub gaining_one : (roots : List RootSpec) (from to : List ℕ) (n : ℕ) (d : RootSpec) → n < length roots → gains (get_or roots n d) from to ≡ true → gaining_below roots from to (n + 1) ≡ gaining_below roots from to n ++ n ∷ []
gaining_one roots from to n d inside is =
    gaining_more roots from to n ∙ ap (λ b. gaining_below roots from to n ++ cond b (n ∷ []) []) (gains_at_get_or roots from to n d inside ∙ is)

pub gaining_none : (roots : List RootSpec) (from to : List ℕ) (n : ℕ) (d : RootSpec) → n < length roots → gains (get_or roots n d) from to ≡ false → gaining_below roots from to (n + 1) ≡ gaining_below roots from to n
gaining_none roots from to n d inside is =
    gaining_more roots from to n ∙ ap (λ b. gaining_below roots from to n ++ cond b (n ∷ []) []) (gains_at_get_or roots from to n d inside ∙ is) ∙ append-nil (gaining_below roots from to n)

pub gaining_all_below : (roots : List RootSpec) (from to : List ℕ) (n : ℕ) → All (λ root. root < n) (gaining_below roots from to n)
gaining_all_below roots from to n =
    All-filter (λ root. gains_at roots root from to) (λ root. root < n) (range_with_len 0 n)
    (λ k d inside. omega (arith, inside, length-range_with_len 0 n, get_or-range_with_len 0 n k d (omega (arith, inside, length-range_with_len 0 n))))

pub gaining_members : (roots : List RootSpec) (from to : List ℕ) (root : ℕ) → Contains (gaining roots from to) root ↔ ((governs_at roots root to ≡ true) × (governs_at roots root from ≡ false))
gaining_members roots from to root =
    let p = λ (k : ℕ). gains_at roots k from to in
    let numbers = range_with_len 0 (length roots) in
    let both = is_in-filter p root numbers in (
      λ has. let is = (and_parts _ _ (sym both ∙ is_in-from_Contains _ root has)).1 in
          let parts = and_parts _ _ is in
          (parts.0, not-true _ parts.1),
      λ governed. let inside = governed_inside roots to root governed.0 in
          Contains-from_is_in _ root (both ∙ and_from _ _ (range-is_in root (length roots) 0 (omega arith) (omega arith)) (and_from _ _ governed.0 (ap not governed.1))),
    )

-- which roots a message comes under
governing_has : (roots : List RootSpec) (mailbox : List ℕ) (root : ℕ) → has_root (governing roots mailbox) root ≡ governs_at roots root mailbox
governing_has roots mailbox root = elim (cases_Bool (governs_at roots root mailbox)) [
  | inl is ↦ is_in-from_Contains _ root ((governing_members roots mailbox root).1 is) ∙ sym is
  | inr is ↦ elim (cases_Bool (has_root (governing roots mailbox) root)) [
    | inl has ↦ absurd (false≢true (sym is ∙ (governing_members roots mailbox root).0 (Contains-from_is_in _ root has)))
    | inr none ↦ none ∙ sym is
  ]
]

gaining_has : (roots : List RootSpec) (from to : List ℕ) (root : ℕ) → has_root (gaining roots from to) root ≡ gains_at roots root from to
gaining_has roots from to root = elim (cases_Bool (gains_at roots root from to)) [
  | inl is ↦ let parts = and_parts _ _ is in is_in-from_Contains _ root ((gaining_members roots from to root).1 (parts.0, not-true _ parts.1)) ∙ sym is
  | inr is ↦ elim (cases_Bool (has_root (gaining roots from to) root)) [
    | inl has ↦
        let members = (gaining_members roots from to root).0 (Contains-from_is_in _ root has) in
        absurd (false≢true (sym is ∙ and_from _ _ members.0 (ap not members.1)))
    | inr none ↦ none ∙ sym is
  ]
]

pub coming_has : (roots : List RootSpec) (from : Option (List ℕ)) (to : List ℕ) (root : ℕ) → has_root (gainers roots from to) root ≡ gains_by roots from to root
coming_has roots None to root = governing_has roots to root
coming_has roots (Some from) to root = gaining_has roots from to root
