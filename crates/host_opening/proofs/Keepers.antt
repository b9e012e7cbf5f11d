-- Accounts by name, before and after one of them was opened or closed.
use Rattle.std.proofs.Common.{◌≡◌, ◌≢◌, ℕ, ◌+◌, ◌<◌, ◌≤◌, Bool, true, false, ◌||◌, cond, List, [], ◌∷◌, ◌++◌, length, map, get_or, length-append, Option, Some, None, arith, refl, ◌∙◌, sym, ap, subst, bytes_eq, inl, inr}
use Rattle.std.specs.List.{All, list_any}
use Rattle.std.proofs.lemmas.Bool.{cases_Bool}
use Rattle.std.proofs.lemmas.List.{get_or_append_left, get_or-append-add}
use Rattle.std.proofs.lemmas.List.Elements.{All-nil, All-cons}
use Rattle.std.proofs.lemmas.Slice.Eq.{bytes_eq-Decides}
use Rattle.keeper.specs.Accounts.{keeper_in, with_keeper}
use Rattle.host_opening.specs.Telling.{names_in, has_account, IsOpen, OthersStay}

same_bytes : (bytes : List ℕ) → bytes_eq bytes bytes ≡ true
same_bytes bytes = (bytes_eq-Decides bytes bytes).1 refl

other_bytes : (a b : List ℕ) → a ≢ b → bytes_eq a b ≡ false
other_bytes a b apart = elim (cases_Bool (bytes_eq a b)) [
  | inl is ↦ absurd (apart ((bytes_eq-Decides a b).0 is))
  | inr not_so ↦ not_so
]

-- what is none of the names of two lists is none of either
pub all_left : (P : List ℕ → Type 0) (xs ys : List (List ℕ)) → All P (xs ++ ys) → All P xs
all_left P xs ys all k d lt =
    let more : k < length (xs ++ ys) = grind (arith, length-append) in
    subst P (get_or_append_left xs ys d k lt) (all k d more)

pub all_right : (P : List ℕ → Type 0) (xs ys : List (List ℕ)) → All P (xs ++ ys) → All P ys
all_right P xs ys all k d lt =
    let more : length xs + k < length (xs ++ ys) = grind (arith, length-append) in
    subst P (get_or-append-add xs ys k d) (all (length xs + k) d more)

module _ {K : Type 0} where
  names_step : (b : Bool) (kept : Option K) (x : List ℕ × Option K) (xs rest : List (List ℕ × Option K)) → names_in rest ≡ names_in xs
      → names_in (cond b ((x.0, kept) ∷ xs) (x ∷ rest)) ≡ names_in (x ∷ xs)
  names_step true kept x xs rest h = refl
  names_step false kept x xs rest h = ap (λ (names : List (List ℕ)). x.0 ∷ names) h

  names_with : (name : List ℕ) (kept : Option K) (accounts : List (List ℕ × Option K)) → names_in (with_keeper name kept accounts) ≡ names_in accounts
  names_with name kept [] = refl
  names_with name kept (x ∷ xs) = names_step (bytes_eq x.0 name) kept x xs (with_keeper name kept xs) (names_with name kept xs)

  other_step : (name other : List ℕ) (kept : Option K) (x : List ℕ × Option K) (xs rest : List (List ℕ × Option K)) → name ≢ other → keeper_in other rest ≡ keeper_in other xs
      → (b : Bool) → bytes_eq x.0 name ≡ b → keeper_in other (cond b ((x.0, kept) ∷ xs) (x ∷ rest)) ≡ keeper_in other (x ∷ xs)
  other_step name other kept x xs rest apart h true is =
      let same : x.0 ≡ name = (bytes_eq-Decides x.0 name).0 is in
      let away : bytes_eq x.0 other ≡ false = other_bytes x.0 other (λ e. apart (sym same ∙ e)) in
      ap (λ (b : Bool). cond b kept (keeper_in other xs)) away ∙ sym (ap (λ (b : Bool). cond b x.1 (keeper_in other xs)) away)
  other_step name other kept x xs rest apart h false is = ap (λ (k : Option K). cond (bytes_eq x.0 other) x.1 k) h

  other_with : (name other : List ℕ) (kept : Option K) (accounts : List (List ℕ × Option K)) → name ≢ other → keeper_in other (with_keeper name kept accounts) ≡ keeper_in other accounts
  other_with name other kept [] apart = refl
  other_with name other kept (x ∷ xs) apart = other_step name other kept x xs (with_keeper name kept xs) apart (other_with name other kept xs apart) (bytes_eq x.0 name) refl

  same_step : (name : List ℕ) (kept : Option K) (x : List ℕ × Option K) (xs rest : List (List ℕ × Option K)) → (has_account name xs ≡ true → keeper_in name rest ≡ kept)
      → (b : Bool) → bytes_eq x.0 name ≡ b → (b || has_account name xs) ≡ true → keeper_in name (cond b ((x.0, kept) ∷ xs) (x ∷ rest)) ≡ kept
  same_step name kept x xs rest h true is there = ap (λ (b : Bool). cond b kept (keeper_in name xs)) is
  same_step name kept x xs rest h false is there = ap (λ (b : Bool). cond b x.1 (keeper_in name rest)) is ∙ h there

  pub same_with : (name : List ℕ) (kept : Option K) (accounts : List (List ℕ × Option K)) → has_account name accounts ≡ true → keeper_in name (with_keeper name kept accounts) ≡ kept
  same_with name kept [] there = absurd (cc)
  same_with name kept (x ∷ xs) there = same_step name kept x xs (with_keeper name kept xs) (same_with name kept xs) (bytes_eq x.0 name) refl there

  there_step : (b : Bool) (k : K) (x later : Option K) (rest : Bool) → (later ≡ Some k → rest ≡ true) → cond b x later ≡ Some k → (b || rest) ≡ true
  there_step true k x later rest h is = refl
  there_step false k x later rest h is = h is

  pub there : (name : List ℕ) (k : K) (accounts : List (List ℕ × Option K)) → keeper_in name accounts ≡ Some k → has_account name accounts ≡ true
  there name k [] is = absurd (cc)
  there name k (x ∷ xs) is = there_step (bytes_eq x.0 name) k x.1 (keeper_in name xs) (has_account name xs) (there name k xs) is

  -- the same accounts have the same names
  pub still_there : (name : List ℕ) (accounts accounts' : List (List ℕ × Option K)) → names_in accounts' ≡ names_in accounts → has_account name accounts' ≡ has_account name accounts
  still_there name accounts accounts' same = ap (λ (names : List (List ℕ)). list_any (λ other. bytes_eq other name) names) same

  -- a keeper is taken out, or put in its place
  pub others_with : (name : List ℕ) (kept : Option K) (accounts : List (List ℕ × Option K)) → OthersStay (name ∷ []) accounts (with_keeper name kept accounts)
  others_with name kept accounts = record {
    accounts_stay = names_with name kept accounts;
    others = λ other apart. other_with name other kept accounts (apart 0 name (omega arith));
  }

  pub others_same : (names : List (List ℕ)) (accounts : List (List ℕ × Option K)) → OthersStay names accounts accounts
  others_same names accounts = record { accounts_stay = refl; others = λ other apart. refl }

  -- first the accounts of some names change, and then those of others
  pub others_then : (names more : List (List ℕ)) (a b c : List (List ℕ × Option K)) → OthersStay names a b → OthersStay more b c → OthersStay (names ++ more) a c
  others_then names more a b c one two = record {
    accounts_stay = two.accounts_stay ∙ one.accounts_stay;
    others = λ other apart. two.others other (all_right (λ name. name ≢ other) names more apart) ∙ one.others other (all_left (λ name. name ≢ other) names more apart);
  }

  -- the account of one name is told as before if another's changes
  pub alone : (name other : List ℕ) (a b : List (List ℕ × Option K)) → OthersStay (name ∷ []) a b → name ≢ other → keeper_in other b ≡ keeper_in other a
  alone name other a b stay apart = stay.others other (All-cons (λ n. n ≢ other) name [] apart (All-nil (λ n. n ≢ other)))

  pub open_alone : (name other : List ℕ) (a b : List (List ℕ × Option K)) → OthersStay (name ∷ []) a b → name ≢ other → IsOpen other a → IsOpen other b
  open_alone name other a b stay apart is = record {
    there = still_there other a b stay.accounts_stay ∙ is.there;
    taken = alone name other a b stay apart ∙ is.taken;
  }
