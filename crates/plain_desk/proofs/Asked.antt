-- What the owner's calls do to the account that is asked.
use Rattle.std.proofs.Common.{◌≡◌, ◌≢◌, ◌<◌, ◌≤◌, ◌+◌, ◌-◌, ◌^◌, ℕ, min, List, [], ◌∷◌, ◌++◌, length, map, set, get_or, get_or-set_same, length-set, refl, sym, ap, ◌∙◌, subst, append-nil, arith}
use Rattle.std.specs.Prelude.{Option, Some, None, Result, Ok, Err, IfSome}
use Rattle.std.specs.List.{All}
use Rattle.std.proofs.lemmas.List.Elements.{All-map, All-set, All-weaker, AllZip-get_or}
use Rattle.std.proofs.lemmas.Slice.Zip.{AllZip-long}
use Rattle.std.proofs.lemmas.List.{get_or_default}
use Rattle.keeper.specs.Calls.{Told, Due}
use Rattle.account_core.specs.declared.calls.Call.{Call}
use Rattle.account_core.specs.declared.calls.Entry.{Entry}
use Rattle.account_core.specs.declared.calls.Reply.{Reply}
use Rattle.account_core.specs.declared.calls.StepError.{StepError}
use Rattle.account_core.specs.declared.calls.StepError.TheVariants.{NoMemory, Store, JournalFull}
use Rattle.account_core.specs.History.{Answer, replied, store, journal_full}
use Rattle.account_core.specs.Histories.{calls_by}
use Rattle.account_core.specs.Legality.{fault_count}
use Rattle.account_core.specs.Logs.{Serves, Sits, AreOthers, Logged, entries_of}
use Rattle.account_core.proofs.Logging.{logs_are_own, sits_next}
use Rattle.account_ledger.specs.States.{State, IsInOrder, Opened}
use Rattle.account_ledger.specs.Stores.{NoneFalls}
use Rattle.account_ledger.specs.Performing.{UsesDue}
use Rattle.desk.specs.Shares.{HasNoFailure, IsWithinJournal, AreWithinJournals}
use Rattle.desk.specs.Asking.{Asks}
use Rattle.plain_desk.specs.Owning.{no_state, state_at, share_of, IsFresh, IsOwned, AreOwned}
use Rattle.plain_desk.specs.Continuing.{Continues, EachContinues, HasNoneDue, HasRoom, NoneDueNoFailures, NoneDueNoFault}

-- accounts without entries are the owner's
pub fresh_owned : (states : List State) → All IsFresh states → All IsInOrder states → All IsOwned states
fresh_owned states fresh order k d lt = record {
  order = order k d lt;
  whole = ap (calls_by 0) (fresh k d lt) ∙ sym (fresh k d lt);
}

-- no history is longer than its journal
pub within_journals : (states : List State) → All IsOwned states → AreWithinJournals (map share_of states)
within_journals states each = All-map IsWithinJournal share_of states (All-weaker IsOwned (λ s. IsWithinJournal (share_of s)) (λ s is. is.order.legal.within) states each)

module _ (s s' : State) (call : Call) where
  -- the history stays the owner's
  sits_whole : (answer : Answer) → Sits s.origin 0 s.history call answer s'.history → calls_by 0 s.history ≡ s.history → calls_by 0 s'.history ≡ s'.history
  sits_whole answer sits whole =
      let sits_so : Sits s.origin 0 (s.history ++ []) call answer s'.history = subst (λ (h : List Entry). Sits s.origin 0 h call answer s'.history) (sym (append-nil s.history)) sits in
      let logged : Logged (AreOthers 0) s.origin 0 s.history ((call, answer) ∷ []) s'.history = ([], s'.history, tt, sits_so, ([], tt, sym (append-nil s'.history))) in
      logs_are_own s.origin 0 s.history s'.history ((call, answer) ∷ []) logged
      ∙ ap (λ (h : List Entry). h ++ entries_of 0 ((call, answer) ∷ [])) whole
      ∙ sym (sits_next s.origin 0 s.history s'.history call answer sits)

  serves_whole : (result : Result Reply StepError) → Serves s.origin 0 s.history call result s'.history → calls_by 0 s.history ≡ s.history → calls_by 0 s'.history ≡ s'.history
  serves_whole (Ok given) serves whole = sits_whole (replied given) serves whole
  serves_whole (Err Store) serves whole = sits_whole store serves whole
  serves_whole (Err (JournalFull most)) serves whole = sits_whole journal_full serves.1 whole
  serves_whole (Err NoMemory) serves whole = ap (calls_by 0) serves ∙ whole ∙ sym serves

  pub still_owned : (result : Result Reply StepError) → IsOwned s → Serves s.origin 0 s.history call result s'.history → IsInOrder s' → IsOwned s'
  still_owned result owned serves order = record { order = order; whole = serves_whole result serves owned.whole }

  -- the owner's share has seen the whole history, so nobody else's entry came between
  pub owner_asks : (result : Result Reply StepError) → Opened s s' → Serves s.origin 0 s.history call result s'.history → Asks (share_of s) call result (share_of s')
  owner_asks result opened serves = record {
    origin = opened.origin;
    caller = refl;
    others = [];
    apart = tt;
    serves = subst (λ (h : List Entry). Serves s.origin 0 h call result s'.history) (sym (append-nil s.history)) serves;
  }

  due_bounded : (failed : Type 0) (f a f' a' : ℕ) (told told' : Option Told) → Due failed f a f' a' told told' → Due ⊥ f a f' a' told told'
  due_bounded failed f a f' a' None None due = due
  due_bounded failed f a f' a' None (Some t') due = absurd due
  due_bounded failed f a f' a' (Some t) None due = absurd due
  due_bounded failed f a f' a' (Some t) (Some t') due = record { fewer = λ no. absurd no; bounded = due.bounded }

  pub continues : (result : Result Reply StepError) → Opened s s' → NoneFalls s.store s'.store → UsesDue result s.store s'.store → Continues s s'
  continues result opened later due = record {
    opened = opened;
    later = later;
    due = due_bounded (result ≡ Err Store) s.store.faults s.store.append_faults s'.store.faults s'.store.append_faults s.store.told s'.store.told due;
  }

none_told : (failed : Type 0) (f a f' a' : ℕ) (told told' : Option Told) → Due failed f a f' a' told told' → IfSome told (λ t. t.due ≡ 0 → ¬ failed)
none_told failed f a f' a' None told' due = tt
none_told failed f a f' a' (Some t) None due = absurd due
none_told failed f a f' a' (Some t) (Some t') due = λ none is.
    let fewer : t'.due < t.due = due.fewer is in
    omega arith

-- a keeper none of whose failures is due does not fail
pub none_due : (result : Result Reply StepError) (s s' : State) → UsesDue result s.store s'.store → IfSome s.store.told (λ told. told.due ≡ 0 → result ≢ Err Store)
none_due result s s' due = none_told (result ≡ Err Store) s.store.faults s.store.append_faults s'.store.faults s'.store.append_faults s.store.told s'.store.told due

-- the account that a call is on, before it and after it
module _ (states : List State) (account : ℕ) (there : account < length states) where
  pub state_here : (s : State) → get_or states account s ≡ s → state_at states account ≡ s
  state_here s is = get_or_default states account no_state s there ∙ is

  pub state_there : (s' : State) → state_at (set states account s') account ≡ s'
  state_there s' = get_or-set_same states account s' no_state there

  pub set_owned : (s : State) → get_or states account s ≡ s → (s' : State) (call : Call) (result : Result Reply StepError) → AreOwned states
      → Serves s.origin 0 s.history call result s'.history → IsInOrder s' → AreOwned (set states account s')
  set_owned s is s' call result owned serves order =
      let before : IsOwned s = subst IsOwned is (owned.each account s there) in
      let few : length states ≤ 32 = owned.few in
      record {
        each = All-set IsOwned states account s' (still_owned s s' call result before serves order) owned.each;
        few = omega (arith, length-set states account s');
      }

pub none_due_no_fault : NoneDueNoFault
none_due_no_fault opened now continues order fresh small = by opened.store.told now.store.told continues.due
  where
    by : (told told' : Option Told) → Due ⊥ opened.store.faults opened.store.append_faults now.store.faults now.store.append_faults told told' → IfSome told (λ t. t.due ≡ 0 → fault_count now.history ≡ 0)
    by None told' due = tt
    by (Some t) None due = absurd due
    by (Some t) (Some t') due = λ none.
        let bounded : (now.store.faults + now.store.append_faults) + t'.due ≤ (opened.store.faults + opened.store.append_faults) + t.due = due.bounded in
        let appends : opened.store.append_faults ≤ now.store.append_faults = continues.later.appends in
        let first : now.first_faults ≡ opened.first_faults = continues.opened.first_faults in
        let excused : min (now.first_faults + fault_count now.history) (2 ^ 64 - 1) ≤ now.store.faults = order.legal.excused in
        omega arith

no_failure : (s s' : State) → Continues s s' → IsOwned s' → HasNoneDue s → HasRoom s' → HasNoFailure (share_of s')
no_failure s s' continues owned none room = record {
  no_fault = by s.store.told none.is_told (none_due_no_fault s s' continues owned.order none.none_yet none.countable);
  room = room;
}
  where
    by : (told : Option Told) → told ≡ Some none.told → IfSome told (λ t. t.due ≡ 0 → fault_count s'.history ≡ 0) → fault_count s'.history ≡ 0
    by None is fact = absurd cc
    by (Some t) is fact =
        let same : t ≡ none.told = cc in
        fact (ap (λ (u : Told). u.due) same ∙ none.none_due)

pub none_due_no_failures : NoneDueNoFailures
none_due_no_failures states states' continues owned none room =
    All-map HasNoFailure share_of states' (each states states' continues owned.each none room)
  where
    each : (xs ys : List State) → EachContinues xs ys → All IsOwned ys → All HasNoneDue xs → All HasRoom ys → All (λ (s : State). HasNoFailure (share_of s)) ys
    each xs ys all own due free k d lt =
        no_failure (get_or xs k d) (get_or ys k d) (AllZip-get_or Continues xs ys k d d all (subst (λ (n : ℕ). k < n) (AllZip-long Continues xs ys all) lt))
        (own k d lt) (due k d (subst (λ (n : ℕ). k < n) (AllZip-long Continues xs ys all) lt)) (free k d lt)
