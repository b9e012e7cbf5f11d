-- A mailbox name read from its first byte on.
use Rattle.std.proofs.Common.{◌≡◌, ℕ, suc, ◌+◌, ◌-◌, ◌<◌, ◌≤◌, Bool, true, false, not, ◌&&◌, ◌||◌, List, [], ◌∷◌, length, drop, get_or, eqb, leb, arith, refl, sym, ◌∙◌, ap, inl, inr}
use Rattle.std.specs.List.{list_all, starts_with, ends_with}
use Rattle.std.specs.Cmp.Lexicographic.{pointwise}
use Rattle.std.proofs.lemmas.Bool.{cases_Bool}
use Rattle.std.proofs.lemmas.List.{drop_more, drop_all}
use Rattle.std.proofs.lemmas.Bool.Decides.{nat_tests}
use Rattle.quota_roots.specs.MailboxNames.{is_mailbox_byte, is_mailbox_name, has_double_dot}

-- whether the rest of a name may follow; at_edge says that neither a dot nor the end may come next
abbrev pub reads : Bool → List ℕ → Bool
reads at_edge [] = not at_edge
reads at_edge (byte ∷ rest) = (is_mailbox_byte byte && not (eqb byte 46 && at_edge)) && reads (eqb byte 46) rest

abbrev ends : List ℕ → Bool
ends name = ends_with eqb name (46 ∷ [])

abbrev begins : List ℕ → Bool
begins name = starts_with eqb name (46 ∷ [])

abbrev inside : List ℕ → Bool
inside name = list_all is_mailbox_byte name && (not (ends name) && not (has_double_dot name))

no_end : (n b : ℕ) (e : Bool) → e ≡ ((eqb (suc n) 0 && eqb 46 b) || e)
no_end n b e = grind (arith, nat_tests)

ends-cons : (b : ℕ) (bs : List ℕ) → ends (b ∷ bs) ≡ ((eqb (length bs) 0 && eqb 46 b) || ends bs)
ends-cons b [] = grind (arith, nat_tests)
ends-cons b (c ∷ cs) =
    let one : suc (suc (length cs)) - 1 ≡ suc (length cs) = omega arith in
    let two : suc (length cs) - 1 ≡ length cs = omega arith in
    let left = ap (λ n. pointwise eqb (46 ∷ []) (drop n (b ∷ c ∷ cs))) one in
    let right = ap (λ n. pointwise eqb (46 ∷ []) (drop n (c ∷ cs))) two in
    left ∙ (sym right ∙ no_end (length cs) b (ends (c ∷ cs)))

behind_dot : (b n : ℕ) (fits all last next doubled whole : Bool) → eqb b 46 ≡ true → whole ≡ (leb 1 n && (not next && (all && (not last && not doubled))))
    → ((fits && not (eqb b 46 && false)) && whole) ≡ ((fits && all) && (not ((eqb n 0 && eqb 46 b) || last) && not ((eqb 46 b && next) || doubled)))
behind_dot b n fits all last next doubled whole dot h = grind (arith, nat_tests)

behind_other : (b n : ℕ) (fits all last next doubled whole : Bool) → eqb b 46 ≡ false → whole ≡ (all && (not last && not doubled))
    → ((fits && not (eqb b 46 && false)) && whole) ≡ ((fits && all) && (not ((eqb n 0 && eqb 46 b) || last) && not ((eqb 46 b && next) || doubled)))
behind_other b n fits all last next doubled whole dot h = grind (arith, nat_tests)

at_start : (b n : ℕ) (fits whole : Bool) → ((fits && not (eqb b 46 && true)) && whole) ≡ (leb 1 (suc n) && (not (eqb 46 b && true) && ((fits && not (eqb b 46 && false)) && whole)))
at_start b n fits whole = grind (arith, nat_tests)

both : (name : List ℕ) → (reads false name ≡ inside name) × (reads true name ≡ (leb 1 (length name) && (not (begins name) && inside name)))
both [] = (refl, refl)
both (b ∷ bs) =
    let rest = both bs in
    let fits = is_mailbox_byte b in
    let all = list_all is_mailbox_byte bs in
    let doubled = has_double_dot bs in
    let end = ap (λ e. (fits && all) && (not e && not ((eqb 46 b && begins bs) || doubled))) (sym (ends-cons b bs)) in
    let behind : reads false (b ∷ bs) ≡ inside (b ∷ bs) = elim (cases_Bool (eqb b 46)) [
      | inl dot ↦ behind_dot b (length bs) fits all (ends bs) (begins bs) doubled _ dot (ap (λ d. reads d bs) dot ∙ rest.1) ∙ end
      | inr dot ↦ behind_other b (length bs) fits all (ends bs) (begins bs) doubled _ dot (ap (λ d. reads d bs) dot ∙ rest.0) ∙ end
    ] in
    (behind, at_start b (length bs) fits (reads (eqb b 46) bs) ∙ ap (λ r. leb 1 (suc (length bs)) && (not (begins (b ∷ bs)) && r)) behind)

in_all : (n : ℕ) (all next last doubled : Bool) → n ≤ 200
    → (leb 1 n && (not next && (all && (not last && not doubled)))) ≡ ((leb 1 n && leb n 200) && (all && (not next && (not last && not doubled))))
in_all n all next last doubled short = grind (arith, nat_tests)

pub reads_all : (name : List ℕ) → length name ≤ 200 → reads true name ≡ is_mailbox_name name
reads_all name short = (both name).1 ∙ in_all (length name) (list_all is_mailbox_byte name) (begins name) (ends name) (has_double_dot name) short

pub reads_more : (name : List ℕ) (at_edge : Bool) (i : ℕ) → i < length name
    → reads at_edge (drop i name) ≡ ((is_mailbox_byte (get_or name i 0) && not (eqb (get_or name i 0) 46 && at_edge)) && reads (eqb (get_or name i 0) 46) (drop (i + 1) name))
reads_more name at_edge i inside = ap (reads at_edge) (drop_more name i 0 inside)

pub reads_end : (name : List ℕ) (at_edge : Bool) (i : ℕ) → length name ≤ i → reads at_edge (drop i name) ≡ not at_edge
reads_end name at_edge i past = ap (reads at_edge) (drop_all i name past)
