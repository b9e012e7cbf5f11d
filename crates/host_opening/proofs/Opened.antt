-- Accounts are opened one after another.
use Rattle.std.proofs.Common.{◌≡◌, ◌≢◌, ℕ, ◌+◌, List, [], ◌∷◌, ◌++◌, map, get_or, take, slice_get, Option, Some, None, Result, Ok, Err, arith, refl, ◌∙◌, sym, ap, subst}
use Rattle.std.specs.List.{All, AllZip}
use Rattle.std.proofs.lemmas.List.{map_push}
use Rattle.std.proofs.lemmas.List.Elements.{All-nil, All-push, All-map}
use Rattle.quota_roots.specs.declared.setup.Setup.{Setup}
use Rattle.keeper.specs.Calls.{Told, Changes, OnFiles, Due}
use Rattle.keeper.specs.Accounts.{keeper_in, with_keeper, Opens}
use Rattle.account_opening.specs.Admitting.{MayOpen}
use Rattle.account_ledger.specs.States.{State, IsInOrder, IsOpened}
use Rattle.accounts_file.specs.declared.entry.AccountEntry.{AccountEntry}
use Rattle.host_opening.specs.Telling.{IsOpen, OthersStay, has_account}
use Rattle.host_opening.specs.Opening.{IsOpenedWith, IsOpenedFrom, OpensOne, OpensEach, WasOpened, names_of}
use Rattle.host_opening.specs.Closing.{faults_of}
use Rattle.host_opening.proofs.Closed.{faults_cons}
use Rattle.host_opening.proofs.Keepers.{same_with, there, still_there, others_with, others_same, others_then, open_alone}
use Rattle.accounts_file.specs.Hosts.{AreAccounts}
use Rattle.host_opening.proofs.Entries.{zip_push, take_next, before_apart}

-- over a keeper that has counted no fault yet
pub opened_with : (told : Option Told) (faults appends epoch : ℕ) (setup : Setup) (entry : AccountEntry) (s : State) → setup ≡ entry.setup → faults ≡ 0 → appends ≡ 0
    → IsOpened told faults setup epoch s → Changes (OnFiles (MayOpen setup epoch)) told s.store.told
    → Due ⊥ faults appends s.store.faults s.store.append_faults told s.store.told → s.store.append_faults ≡ appends → IsInOrder s → IsOpenedWith told epoch entry s
opened_with told faults appends epoch setup entry s is none no_appends opened admitted due appends_are order = record {
  opened = subst (λ (f : ℕ). IsOpened told f entry.setup epoch s) none (subst (λ (u : Setup). IsOpened told faults u epoch s) is opened);
  admitted = subst (λ (u : Setup). Changes (OnFiles (MayOpen u epoch)) told s.store.told) is admitted;
  due = subst (λ (f : ℕ). Due ⊥ f 0 s.store.faults s.store.append_faults told s.store.told) none
      (subst (λ (a : ℕ). Due ⊥ faults a s.store.faults s.store.append_faults told s.store.told) no_appends due);
  no_append_fault = appends_are ∙ no_appends;
  order = order;
}

module _ {K : Type 0} (told : K → Option Told) where
  pub opens_one : (E : Type 0) (Same : K → K → Type 0) → ((kept keeper : K) → Same kept keeper → told keeper ≡ told kept)
      → (epoch : ℕ) (entry : AccountEntry) (s : State) (keeper : K) (a b : List (List ℕ × Option K))
      → IsOpenedWith (told keeper) epoch entry s → Opens {E = E} Same entry.name (Ok keeper) a b → OpensOne told epoch entry s a b
  opens_one E Same tells epoch entry s keeper a b is (kept, found, same, after) = record {
    kept = (kept, found, subst (λ (t : Option Told). IsOpenedWith t epoch entry s) (tells kept keeper same) is);
    open_now = subst (IsOpen entry.name) (sym after) (record {
      there = still_there entry.name a (with_keeper entry.name None a) (others_with entry.name None a).accounts_stay ∙ there entry.name kept a found;
      taken = same_with entry.name None a (there entry.name kept a found);
    });
    others = subst (OthersStay (entry.name ∷ []) a) (sym after) (others_with entry.name None a);
  }

  pub opens_none : (epoch : ℕ) (a : List (List ℕ × Option K)) → OpensEach told epoch [] [] a a
  opens_none epoch a = record { kept = tt; open_now = All-nil (λ (e : AccountEntry). IsOpen e.name a); others = others_same [] a }

  pub opens_next : (epoch : ℕ) (es : List AccountEntry) (ss : List State) (e : AccountEntry) (s : State) (a b c : List (List ℕ × Option K)) → All (λ (x : AccountEntry). x.name ≢ e.name) es
      → OpensEach told epoch es ss a b → OpensOne told epoch e s b c → OpensEach told epoch (es ++ e ∷ []) (ss ++ s ∷ []) a c
  opens_next epoch es ss e s a b c apart each one =
      let (keeper, found, is) = one.kept in
      let as_before : keeper_in e.name b ≡ keeper_in e.name a = each.others.others e.name (All-map (λ (n : List ℕ). n ≢ e.name) (λ (x : AccountEntry). x.name) es apart) in
      record {
        kept = zip_push (IsOpenedFrom told epoch a) es ss e s each.kept (keeper, sym as_before ∙ found, is);
        open_now = All-push (λ (x : AccountEntry). IsOpen x.name c) es e
            (λ k d lt. open_alone e.name (get_or es k d).name b c one.others (λ same. apart k d lt (sym same)) (each.open_now k d lt)) one.open_now;
        others = subst (λ (names : List (List ℕ)). OthersStay names a c) (sym (map_push (λ (x : AccountEntry). x.name) es e)) (others_then (names_of es) (e.name ∷ []) a b c each.others one.others);
      }

  -- the accounts before this one were opened, and now this one is
  pub opens_so_far : (epoch : ℕ) (entries : List AccountEntry) → AreAccounts entries → (i : ℕ) (e : AccountEntry) (ss : List State) (s : State) (a b c : List (List ℕ × Option K)) → slice_get entries i ≡ Some e
      → OpensEach told epoch (take i entries) ss a b → OpensOne told epoch e s b c → OpensEach told epoch (take (i + 1) entries) (ss ++ s ∷ []) a c
  opens_so_far epoch entries are i e ss s a b c read each one =
      subst (λ (es : List AccountEntry). OpensEach told epoch es (ss ++ s ∷ []) a c) (sym (take_next entries i e read)) (opens_next epoch (take i entries) ss e s a b c (before_apart entries are i e read) each one)

-- no fault is counted yet of accounts that were just opened
pub none_counted : (epoch : ℕ) (es : List AccountEntry) (ss : List State) → AllZip (WasOpened epoch) es ss → faults_of ss ≡ 0
none_counted epoch [] [] all = refl
none_counted epoch [] (s ∷ ss) all = absurd all
none_counted epoch (e ∷ es) [] all = absurd all
none_counted epoch (e ∷ es) (s ∷ ss) all =
    let (told, is) = all.0 in
    let here : s.store.faults ≡ 0 = is.opened.faults_are in
    let rest : faults_of ss ≡ 0 = none_counted epoch es ss all.1 in
    let sum : faults_of (s ∷ ss) ≡ s.store.faults + faults_of ss = faults_cons s ss in
    omega arith
