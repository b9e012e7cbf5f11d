-- An account is refused, and those that were opened before it are closed again.
use Rattle.std.proofs.Common.{◌≡◌, ◌≢◌, ℕ, ◌+◌, ◌<◌, ◌≤◌, List, [], ◌∷◌, ◌++◌, length, map, get_or, take, true, slice_get, Option, Some, None, Result, Ok, Err, IfSome, IsErrOf, arith, refl, ◌∙◌, sym, ap, subst, inl, inr}
use Rattle.std.specs.List.{All, AllZip}
use Rattle.std.proofs.lemmas.List.{map_push}
use Rattle.std.proofs.lemmas.List.Elements.{All-nil, All-cons, All-push, All-map}
use Rattle.std.proofs.lemmas.Option.{slice_get-get_or}
use Rattle.quota_roots.specs.declared.setup.Setup.{Setup}
use Rattle.keeper.specs.Files.{Files}
use Rattle.keeper.specs.Calls.{Told, Changes, OnFiles, Due, Spends}
use Rattle.keeper.specs.Accounts.{keeper_in, with_keeper, Opens, Closes}
use Rattle.keeper.proofs.Changing.{changes_same}
use Rattle.account_opening.specs.Admitting.{CanOpen, HasReason, IsRefused, MayOpen}
use Rattle.account_opening.specs.declared.error.OpenError.{OpenError}
use Rattle.account_opening.specs.declared.error.OpenError.TheVariants.{Store, NoMemory}
use Rattle.account_ledger.specs.States.{State}
use Rattle.accounts_file.specs.declared.entry.AccountEntry.{AccountEntry}
use Rattle.host_opening.specs.Telling.{SameFiles, UsesUpDue, OthersStay, names_in, HasFiles, KeepsFiles, has_account}
use Rattle.host_opening.specs.Opening.{IsOpenedWith, IsOpenedFrom, OpensEach, names_of}
use Rattle.host_opening.specs.Refusing.{MayBeOpened, GivesCause, RefusesOne, RefusesFirst}
use Rattle.host_opening.specs.Closing.{IsKeeperOf, IsClosed, ClosesEach}
use Rattle.host_opening.proofs.Keepers.{same_with, there, still_there, others_with, others_same, others_then, all_left, all_right}
use Rattle.host_opening.proofs.Entries.{zip_first, take_next}

-- an account that was opened has the files that it had
same_files : (setup : Setup) (epoch faults appends : ℕ) (t t' : Option Told) → Changes (OnFiles (MayOpen setup epoch)) t t' → Due ⊥ 0 0 faults appends t t' → Changes SameFiles t t'
same_files setup epoch faults appends None None may due = tt
same_files setup epoch faults appends None (Some t') may due = absurd may
same_files setup epoch faults appends (Some t) None may due = absurd may
same_files setup epoch faults appends (Some t) (Some t') may due =
    let bounded : (faults + appends) + t'.due ≤ (0 + 0) + t.due = due.bounded in
    record { files = may.0; due = omega arith }

-- so has one that was refused
same_refused : (setup : Setup) (epoch : ℕ) (cause : OpenError) (failed : Type 0) (before now : ℕ) (t t' : Option Told) → before ≡ 0 → Changes (OnFiles (IsRefused setup epoch cause)) t t'
    → Changes (Spends failed before now) t t' → Changes SameFiles t t'
same_refused setup epoch cause failed before now None None none is due = tt
same_refused setup epoch cause failed before now None (Some t') none is due = absurd is
same_refused setup epoch cause failed before now (Some t) None none is due = absurd is
same_refused setup epoch cause failed before now (Some t) (Some t') none is due =
    let bounded : now + t'.due ≤ before + t.due = due.bounded in
    record { files = is.0; due = omega (arith, none) }

can_open : (setup : Setup) (epoch : ℕ) (t t' : Option Told) → Changes (OnFiles (MayOpen setup epoch)) t t' → IfSome t (λ u. CanOpen setup epoch u.files)
can_open setup epoch None t' may = tt
can_open setup epoch (Some t) None may = absurd may
can_open setup epoch (Some t) (Some t') may = may.1

-- one that was refused for the store's sake used up a failure that was due
used_up : (cause : OpenError) (before now : ℕ) (t t' : Option Told) → cause ≡ Store → Changes (Spends (cause ≡ Store) before now) t t' → Changes UsesUpDue t t'
used_up cause before now None None is due = tt
used_up cause before now None (Some t') is due = absurd due
used_up cause before now (Some t) None is due = absurd due
used_up cause before now (Some t) (Some t') is due = due.fewer is

has_reason : (setup : Setup) (epoch : ℕ) (cause : OpenError) (t t' : Option Told) → Changes (OnFiles (IsRefused setup epoch cause)) t t' → IfSome t (λ u. HasReason setup epoch cause u.files)
has_reason setup epoch cause None t' is = tt
has_reason setup epoch cause (Some t) None is = absurd is
has_reason setup epoch cause (Some t) (Some t') is = is.1

-- a cause is the same in the results of two calls
pub same_err : (T U : Type 0) (cause other : OpenError) → IsErrOf {T = T} (Err cause) other → IsErrOf {T = U} (Err cause) other
same_err T U cause other is = let e : cause ≡ other = cc in ap Err e

module _ {K : Type 0} (told : K → Option Told) where
  keeps_itself : (name : List ℕ) (a : List (List ℕ × Option K)) → KeepsFiles told name a a
  keeps_itself name a =
      changes_same (λ (k k' : K). Changes SameFiles (told k) (told k'))
      (λ k. changes_same SameFiles (λ t. record { files = refl; due = omega arith }) (told k)) (keeper_in name a)

  -- memory ran out, or the stores did not give the keeper out
  pub refuses_ungiven : (epoch : ℕ) (cause : OpenError) (entry : AccountEntry) (a : List (List ℕ × Option K)) → (cause ≢ Store → cause ≢ NoMemory → ⊥) → RefusesOne told epoch cause entry a a
  refuses_ungiven epoch cause entry a known = record {
    reason = λ no_store memory. absurd (known no_store memory);
    store = λ is. inl refl;
    files = keeps_itself entry.name a;
    others = others_same (entry.name ∷ []) a;
  }

  -- the keeper was given out, and is given back
  pub refuses_given : (E : Type 0) (Same : K → K → Type 0) → ((kept keeper : K) → Same kept keeper → told keeper ≡ told kept)
      → (epoch : ℕ) (cause : OpenError) (setup : Setup) (entry : AccountEntry) (before now : ℕ) (keeper keeper' : K) (a b c : List (List ℕ × Option K))
      → setup ≡ entry.setup → before ≡ 0 → Changes (OnFiles (IsRefused setup epoch cause)) (told keeper) (told keeper') → Changes (Spends (cause ≡ Store) before now) (told keeper) (told keeper')
      → Opens {E = E} Same entry.name (Ok keeper) a b → Closes entry.name keeper' b c → RefusesOne told epoch cause entry a c
  refuses_given E Same tells epoch cause setup entry before now keeper keeper' a b c is none refused due (kept, found, same, opened) closed =
      let tell = tells kept keeper same in
      let files : Changes SameFiles (told kept) (told keeper') = subst (λ (t : Option Told). Changes SameFiles t (told keeper')) tell (same_refused setup epoch cause (cause ≡ Store) before now (told keeper) (told keeper') none refused due) in
      let reason : IfSome (told kept) (λ u. HasReason entry.setup epoch cause u.files) =
      subst (λ (t : Option Told). IfSome t (λ u. HasReason entry.setup epoch cause u.files)) tell
      (subst (λ (u : Setup). IfSome (told keeper) (λ v. HasReason u epoch cause v.files)) is (has_reason setup epoch cause (told keeper) (told keeper') refused)) in
      let first : OthersStay (entry.name ∷ []) a b = subst (OthersStay (entry.name ∷ []) a) (sym opened) (others_with entry.name None a) in
      let second : OthersStay (entry.name ∷ []) b c = subst (OthersStay (entry.name ∷ []) b) (sym closed) (others_with entry.name (Some keeper') b) in
      let has : has_account entry.name b ≡ true = still_there entry.name a b first.accounts_stay ∙ there entry.name kept a found in
      let back : keeper_in entry.name c ≡ Some keeper' = ap (keeper_in entry.name) closed ∙ same_with entry.name (Some keeper') b has in
      record {
        reason = λ no_store memory. (kept, found, reason);
        store = λ is_store.
            let used : Changes UsesUpDue (told kept) (told keeper') = subst (λ (t : Option Told). Changes UsesUpDue t (told keeper')) tell (used_up cause before now (told keeper) (told keeper') is_store due) in
            inr (rw (found, back) used);
        files = rw (found, back) files;
        others = record {
          accounts_stay = second.accounts_stay ∙ first.accounts_stay;
          others = λ other apart. second.others other apart ∙ first.others other apart;
        };
      }

  pub refuses_all : (epoch : ℕ) (entries : List AccountEntry) (a : List (List ℕ × Option K)) → 1 ≤ length entries → RefusesFirst told epoch NoMemory entries a a
  refuses_all epoch [] a some = absurd (omega arith)
  refuses_all epoch (entry ∷ entries) a some = record {
    number = 0;
    refused = entry;
    is_there = refl;
    before = All-nil (MayBeOpened told epoch a);
    reason = λ no_store memory. absurd (memory refl);
    store = λ is. inl refl;
    files = λ k d lt. keeps_itself (get_or (take (0 + 1) (entry ∷ entries)) k d).name a;
    others = others_same (names_of (take (0 + 1) (entry ∷ entries))) a;
  }

  module _ (faults append_faults lists : K → ℕ) where
    -- an account that was opened and closed again
    reopened : (epoch : ℕ) (a d : List (List ℕ × Option K)) → (names_stay : names_in d ≡ names_in a) → (x : AccountEntry) (s : State) → IsOpenedFrom told epoch a x s
        → IsClosed told faults append_faults lists d x s → KeepsFiles told x.name a d
    reopened epoch a d names_stay x s (keeper, found, is) closed =
        let (keeper', back, of) = closed (still_there x.name a d names_stay ∙ there x.name keeper a found) in
        let files : Changes SameFiles (told keeper) s.store.told = same_files x.setup epoch s.store.faults s.store.append_faults (told keeper) s.store.told is.admitted is.due in
        let again : Changes SameFiles (told keeper) (told keeper') = subst (λ (t : Option Told). Changes SameFiles (told keeper) t) (sym of.told_is) files in
        rw (found, back) again

    pub refuses_first : (epoch : ℕ) (cause : OpenError) (entries : List AccountEntry) (i : ℕ) (e : AccountEntry) (ss : List State) (a b c d : List (List ℕ × Option K)) → slice_get entries i ≡ Some e
        → All (λ (x : AccountEntry). x.name ≢ e.name) (take i entries) → OpensEach told epoch (take i entries) ss a b → RefusesOne told epoch cause e b c
        → ClosesEach told faults append_faults lists (take i entries) ss c d → RefusesFirst told epoch cause entries a d
    refuses_first epoch cause entries i e ss a b c d read apart opens refuses closes =
        let es = take i entries in
        let none : All (λ (n : List ℕ). n ≢ e.name) (names_of es) = All-map (λ (n : List ℕ). n ≢ e.name) (λ (x : AccountEntry). x.name) es apart in
        let at_first : keeper_in e.name b ≡ keeper_in e.name a = opens.others.others e.name none in
        let at_last : keeper_in e.name d ≡ keeper_in e.name c = closes.others.others e.name none in
        let names_stay : names_in d ≡ names_in a = closes.others.accounts_stay ∙ refuses.others.accounts_stay ∙ opens.others.accounts_stay in
        let next : take (i + 1) entries ≡ es ++ e ∷ [] = take_next entries i e read in
        record {
          number = i;
          refused = e;
          is_there = read;
          before = zip_first (IsOpenedFrom told epoch a) (IsOpenedFrom told epoch a) (MayBeOpened told epoch a) (may epoch a) es ss opens.kept opens.kept;
          reason = λ no_store memory.
              let (keeper, found, is) = refuses.reason no_store memory in (keeper, sym at_first ∙ found, is);
          store = λ is. rw (sym at_first, at_last) (refuses.store is);
          files = subst (All (λ (x : AccountEntry). KeepsFiles told x.name a d)) (sym next)
              (All-push (λ (x : AccountEntry). KeepsFiles told x.name a d) es e
              (zip_first (IsOpenedFrom told epoch a) (IsClosed told faults append_faults lists d) (λ (x : AccountEntry). KeepsFiles told x.name a d) (reopened epoch a d names_stay) es ss opens.kept closes.closed)
              (rw (sym at_first, at_last) refuses.files));
          others = subst (λ (names : List (List ℕ)). OthersStay names a d) (sym (ap names_of next ∙ map_push (λ (x : AccountEntry). x.name) es e))
              (record {
                accounts_stay = names_stay;
                others = λ other away.
                    let first = all_left (λ (n : List ℕ). n ≢ other) (names_of es) (e.name ∷ []) away in
                    let last = all_right (λ (n : List ℕ). n ≢ other) (names_of es) (e.name ∷ []) away in
                    closes.others.others other first ∙ refuses.others.others other last ∙ opens.others.others other first;
              });
        }
      where
        may : (epoch : ℕ) (a : List (List ℕ × Option K)) (x : AccountEntry) (s : State) → IsOpenedFrom told epoch a x s → IsOpenedFrom told epoch a x s → MayBeOpened told epoch a x
        may epoch a x s (keeper, found, is) again = (keeper, found, can_open x.setup epoch (told keeper) s.store.told is.admitted)
