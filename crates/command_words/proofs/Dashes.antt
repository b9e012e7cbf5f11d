-- Lists with a word that begins with `-`.
use Rattle.std.proofs.Common.{◌≡◌, ◌<◌, ℕ, List, [], ◌∷◌, Option, map, Some, None, codes, arith, sym, ap, ◌∙◌, subst, slice_get, get_or, length}
use Rattle.std.proofs.lemmas.List.{get_or-map, length-map}
use Rattle.std.proofs.lemmas.List.Elements.{All-cons, All-get_or, All-nil}
use Rattle.std.specs.List.{All}
use Rattle.std.specs.Fmt.{decimal}
use Rattle.command_words.specs.Commands.{IsUndashed}
use Rattle.command_words.specs.Words.{IsImapForm, IsNoForm}
use Rattle.command_words.proofs.Numbers.{decimal_undashed}

pub dashed_at : {S : Type 0} (f : S → List ℕ) (xs : List S) (i : ℕ) (x : S) → i < length xs → x ≡ get_or xs i x → slice_get (f x) 0 ≡ Some 45 → All IsUndashed (map f xs) → ⊥
dashed_at f xs i x lt is dash all =
    let at : IsUndashed (get_or (map f xs) i (f x)) = All-get_or IsUndashed (map f xs) i (f x) (subst (λ n. i < n) (sym (length-map xs f)) lt) all in
    let same : get_or (map f xs) i (f x) ≡ f x = get_or-map f xs i x (f x) lt ∙ ap f (sym is) in
    at (ap (λ (w : List ℕ). slice_get w 0) same ∙ dash)

undashed_at : (x : ℕ) (xs : List ℕ) → (x ≡ 45 → ⊥) → IsUndashed (x ∷ xs)
undashed_at x xs h e = let is : x ≡ 45 = cc in h is

session_undashed : IsUndashed (codes "session")
session_undashed = undashed_at 115 (codes "ession") (λ e. omega (arith, e))

imap_undashed : IsUndashed (codes "imap")
imap_undashed = undashed_at 105 (codes "map") (λ e. omega (arith, e))

policy_undashed : IsUndashed (codes "policy")
policy_undashed = undashed_at 112 (codes "olicy") (λ e. omega (arith, e))

check_undashed : IsUndashed (codes "check")
check_undashed = undashed_at 99 (codes "heck") (λ e. omega (arith, e))

workload_undashed : IsUndashed (codes "workload")
workload_undashed = undashed_at 119 (codes "orkload") (λ e. omega (arith, e))

one : (word : List ℕ) → IsUndashed word → All IsUndashed (word ∷ [])
one word h = All-cons IsUndashed word [] h (All-nil IsUndashed)

two : (name word : List ℕ) → IsUndashed name → IsUndashed word → All IsUndashed (name ∷ word ∷ [])
two name word h i = All-cons IsUndashed name (word ∷ []) h (one word i)

-- words of which one begins with `-` have no form
pub dashed_no_form : (words : List (List ℕ)) → (All IsUndashed words → ⊥) → IsNoForm words
dashed_no_form words dashed = record {
  no_session = λ n form. are form.words_are (two (codes "session") (decimal n) session_undashed (decimal_undashed n form.some (omega (arith, form.bounded))));
  no_imap = no_imap;
  no_policy = λ e. are e (one (codes "policy") policy_undashed);
  no_check = λ e. are e (one (codes "check") check_undashed);
  no_workload = λ n form. are form.words_are (two (codes "workload") (decimal n) workload_undashed (decimal_undashed n form.some (omega (arith, form.bounded))));
}
  where
    are : {line : List (List ℕ)} → words ≡ line → All IsUndashed line → ⊥
    are e all = dashed (subst (All IsUndashed) (sym e) all)

    no_imap : (account : Option (List ℕ)) → IsImapForm words account → ⊥
    no_imap None e = are e (one (codes "imap") imap_undashed)
    no_imap (Some name) e = are e.0 (two (codes "imap") name imap_undashed e.1)
