-- Accounts are closed one after another, the last one first.
use Rattle.std.proofs.Common.{◌≡◌, ◌≢◌, ℕ, zero, suc, ◌+◌, ◌-◌, ◌^◌, ◌<◌, ◌≤◌, min, ◌⊎◌, true, List, [], ◌∷◌, ◌++◌, map, take, drop, slice_get, sum_by, Option, Some, arith, refl, ◌∙◌, sym, ap, subst, inl, inr}
use Rattle.std.specs.List.{All, AllZip}
use Rattle.std.proofs.lemmas.List.Elements.{All-cons, All-head, All-tail, All-nil}
use Rattle.std.proofs.lemmas.List.Sums.{sum_by-cons}
use Rattle.quota_units.specs.Causes.{HasCause, Rose}
use Rattle.keeper.specs.Calls.{Told}
use Rattle.keeper.specs.Accounts.{keeper_in, with_keeper, Closes}
use Rattle.account_ledger.specs.States.{State}
use Rattle.accounts_file.specs.declared.entry.AccountEntry.{AccountEntry}
use Rattle.host_opening.specs.Telling.{OthersStay, has_account}
use Rattle.host_opening.specs.Closing.{IsKeeperOf, IsClosed, ClosesOne, ClosesEach, faults_of}
use Rattle.host_opening.proofs.Keepers.{same_with, still_there, others_with, others_same, alone}
use Rattle.accounts_file.specs.Hosts.{AreAccounts}
use Rattle.host_opening.proofs.Entries.{zip_still, read_first, drop_next, after_apart}

module _ {K : Type 0} (told : K → Option Told) (faults append_faults lists : K → ℕ) where
  pub closes_one : (entry : AccountEntry) (s : State) (keeper : K) (a b : List (List ℕ × Option K)) → IsKeeperOf told faults append_faults lists s keeper → Closes entry.name keeper a b
      → ClosesOne told faults append_faults lists entry s a b
  closes_one entry s keeper a b is after =
      let stay : OthersStay (entry.name ∷ []) a b = subst (OthersStay (entry.name ∷ []) a) (sym after) (others_with entry.name (Some keeper) a) in
      record {
        closed = λ has. (keeper, ap (keeper_in entry.name) after ∙ same_with entry.name (Some keeper) a (sym (still_there entry.name a b stay.accounts_stay) ∙ has), is);
        others = stay;
      }

  pub closes_none : (a : List (List ℕ × Option K)) → ClosesEach told faults append_faults lists [] [] a a
  closes_none a = record { closed = tt; others = others_same [] a }

  still_closed : (e : AccountEntry) (b c : List (List ℕ × Option K)) → OthersStay (e.name ∷ []) b c → (x : AccountEntry) (s : State) → x.name ≢ e.name
      → IsClosed told faults append_faults lists b x s → IsClosed told faults append_faults lists c x s
  still_closed e b c stay x s apart closed has =
      let (keeper, found, is) = closed (sym (still_there x.name b c stay.accounts_stay) ∙ has) in
      (keeper, alone e.name x.name b c stay (λ same. apart (sym same)) ∙ found, is)

  pub closes_before : (es : List AccountEntry) (ss : List State) (e : AccountEntry) (s : State) (a b c : List (List ℕ × Option K)) → All (λ (x : AccountEntry). x.name ≢ e.name) es
      → ClosesEach told faults append_faults lists es ss a b → ClosesOne told faults append_faults lists e s b c → ClosesEach told faults append_faults lists (e ∷ es) (s ∷ ss) a c
  closes_before es ss e s a b c apart each one = record {
    closed = (
      one.closed,
      zip_still (IsClosed told faults append_faults lists b) (IsClosed told faults append_faults lists c) (λ (x : AccountEntry). x.name ≢ e.name) (still_closed e b c one.others) es ss apart each.closed,
    );
    others = record {
      accounts_stay = one.others.accounts_stay ∙ each.others.accounts_stay;
      others = λ other none. one.others.others other (All-cons (λ (n : List ℕ). n ≢ other) e.name [] (All-head (λ (n : List ℕ). n ≢ other) e.name (map (λ (x : AccountEntry). x.name) es) none) (All-nil (λ (n : List ℕ). n ≢ other)))
          ∙ each.others.others other (All-tail (λ (n : List ℕ). n ≢ other) e.name (map (λ (x : AccountEntry). x.name) es) none);
    };
  }

  pub closes_end : (es : List AccountEntry) (a : List (List ℕ × Option K)) → es ≡ [] → ClosesEach told faults append_faults lists es [] a a
  closes_end es a none = subst (λ (xs : List AccountEntry). ClosesEach told faults append_faults lists xs [] a a) (sym none) (closes_none a)

  -- the accounts after this one, up to number n, were closed, and now this one is
  pub closes_next : (entries : List AccountEntry) → AreAccounts entries → (n m k : ℕ) (e : AccountEntry) (gone : List State) (s : State) (a b c : List (List ℕ × Option K)) → slice_get entries k ≡ Some e → k < n → m ≡ k + 1
      → ClosesEach told faults append_faults lists (drop m (take n entries)) gone a b → ClosesOne told faults append_faults lists e s b c
      → ClosesEach told faults append_faults lists (drop k (take n entries)) (s ∷ gone) a c
  closes_next entries are n m k e gone s a b c read within next each one =
      let after : ClosesEach told faults append_faults lists (drop (k + 1) (take n entries)) gone a b = subst (λ (j : ℕ). ClosesEach told faults append_faults lists (drop j (take n entries)) gone a b) next each in
      subst (λ (es : List AccountEntry). ClosesEach told faults append_faults lists es (s ∷ gone) a c) (sym (drop_next (take n entries) k e (read_first entries n k e within read)))
      (closes_before (drop (k + 1) (take n entries)) gone e s a b c (after_apart entries are n k e read) after one)

rose_then : (a b c : ℕ) → a ≤ b → Rose b c → Rose a c
rose_then a b c later rose = omega (arith, later, rose)

-- a fault is counted for the accounts that were closed, and then for one more
pub cause_more : (total more a b c : ℕ) → HasCause (0 < total) a b → HasCause (0 < more) b c → HasCause (0 < more + total) a c
cause_more total more a b c one two =
    let first : a ≤ b = one.later in
    let second : b ≤ c = two.later in
    record {
      later = omega arith;
      rose = by total more one two;
      kept = λ none. two.kept (λ some. none (omega (arith, some))) ∙ one.kept (λ some. none (omega (arith, some)));
    }
  where
    by : (t m : ℕ) → HasCause (0 < t) a b → HasCause (0 < m) b c → 0 < m + t → Rose a c
    by t zero one two some =
        let up : Rose a b = one.rose (omega (arith, some)) in
        let second : b ≤ c = two.later in
        omega arith
    by t (suc m) one two some = rose_then a b c one.later (two.rose (omega arith))

pub faults_cons : (s : State) (ss : List State) → faults_of (s ∷ ss) ≡ s.store.faults + faults_of ss
faults_cons s ss = sum_by-cons (λ (x : State). x.store.faults) s ss

pub cause_none : (a : ℕ) → HasCause (0 < faults_of []) a a
cause_none a = record { later = omega arith; rose = λ some. absurd (omega (arith, some)); kept = λ none. refl }

pub cause_next : (gone : List State) (s : State) (a b c : ℕ) → HasCause (0 < faults_of gone) a b → HasCause (0 < s.store.faults) b c → HasCause (0 < faults_of (s ∷ gone)) a c
cause_next gone s a b c one two = subst (λ (total : ℕ). HasCause (0 < total) a c) (sym (faults_cons s gone)) (cause_more (faults_of gone) s.store.faults a b c one two)

-- the same cause, if nothing is counted before and after
pub cause_within : (failed failed' : Type 0) → (failed' → failed) → (failed → failed') → (a b c d : ℕ) → b ≡ a → HasCause failed b c → d ≡ c → HasCause failed' a d
cause_within failed failed' to from a b c d before cause after =
    let kept_back : (failed' → ⊥) → c ≡ b = λ none. cause.kept (λ f. none (from f)) in
    let up : b ≤ c = cause.later in
    record {
      later = omega (arith, before, after);
      rose = λ f. rose_then a b d (omega (arith, before)) (subst (Rose b) (sym after) (cause.rose (to f)));
      kept = λ none. after ∙ kept_back none ∙ before;
    }
