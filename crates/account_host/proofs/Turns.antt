-- What a call in a turn does to the view of its pass.
use Rattle.std.proofs.Common.{◌≡◌, ◌≢◌, ◌<◌, ◌≤◌, ◌+◌, ◌↔◌, ℕ, Bool, true, false, List, [], ◌∷◌, ◌++◌, length, length-append, append-nil, refl, sym, ap, ◌∙◌, subst, arith}
use Rattle.std.specs.Prelude.{Result, Ok, Err}
use Rattle.std.proofs.lemmas.List.{append_cancel_left}
use mathlib.Core.Logic.{dite}
use native.Mathlib.Decide.{ℕ_discrete}
use Rattle.account_core.specs.declared.calls.Call.{Call}
use Rattle.account_core.specs.declared.calls.Entry.{Entry}
use Rattle.account_core.specs.declared.calls.Reply.{Reply}
use Rattle.account_core.specs.declared.calls.StepError.{StepError}
use Rattle.account_core.specs.declared.calls.StepError.TheVariants.{NoMemory, Store, JournalFull}
use Rattle.account_core.specs.History.{entry_of}
use Rattle.account_core.specs.Histories.{Origin, Begins, calls_by}
use Rattle.account_core.specs.Logs.{AreOthers, Serves}
use Rattle.account_core.proofs.Histories.{calls_by_both, first_own, first_other}
use Rattle.account_ledger.specs.States.{State, IsInOrder, Opened}
use Rattle.account_lock.specs.Known.{View}
use Rattle.account_lock.specs.Ties.{own_seen}
use Rattle.account_lock.specs.Passes.{IsSame}
use Rattle.desk.specs.Shares.{IsWithinJournal}
use Rattle.desk.specs.Asking.{Asks}
use Rattle.account_host.specs.Seating.{Goes, HasRoom, has_entry, share_of}

-- a call with an entry adds it
pub entry_served : (origin : Origin) (number : ℕ) (seen seen' : List Entry) (call : Call) (result : Result Reply StepError) → has_entry result ≡ true
    → Serves origin number seen call result seen' → (e : Entry) × (e.caller ≡ number) × (seen' ≡ seen ++ e ∷ [])
entry_served origin number seen seen' call (Ok given) has serves = (entry_of number call false, refl, serves.2)
entry_served origin number seen seen' call (Err Store) has serves = (entry_of number call true, refl, serves.1)
entry_served origin number seen seen' call (Err (JournalFull most)) has serves = absurd cc
entry_served origin number seen seen' call (Err NoMemory) has serves = absurd cc

-- and a call without one adds nothing
pub none_served : (origin : Origin) (number : ℕ) (seen seen' : List Entry) (call : Call) (result : Result Reply StepError) → has_entry result ≡ false
    → Serves origin number seen call result seen' → seen' ≡ seen
none_served origin number seen seen' call (Ok given) has serves = absurd cc
none_served origin number seen seen' call (Err Store) has serves = absurd cc
none_served origin number seen seen' call (Err (JournalFull most)) has serves = serves.1.1
none_served origin number seen seen' call (Err NoMemory) has serves = serves

no_calls : (number : ℕ) (entries : List Entry) → calls_by number entries ≡ [] → AreOthers number entries
no_calls number [] none = tt
no_calls number (e ∷ entries) none = dite (ℕ_discrete e.caller number)
    (λ is. absurd (let own : e ∷ calls_by number entries ≡ [] = sym (first_own number e entries is) ∙ none in cc))
    (λ not. (not, no_calls number entries (sym (first_other number e entries not) ∙ none)))

-- the entries that came since are others'
pub others_since : (number : ℕ) (seen rest history : List Entry) → seen ++ rest ≡ history → calls_by number history ≡ calls_by number seen → AreOthers number rest
others_since number seen rest history is same =
    no_calls number rest (append_cancel_left (calls_by number seen) (calls_by number rest) []
    (sym (calls_by_both number seen rest) ∙ ap (calls_by number) is ∙ same ∙ sym (append-nil (calls_by number seen))))

-- a pass that has seen v asks, over a value that was s and is s', and has seen w then
module _ (v w : View) (s s' : State) (call : Call) (result : Result Reply StepError) where
  pub asked : Begins v.seen s.history → calls_by v.number s.history ≡ v.mine → own_seen v ≡ v.mine → s.origin ≡ v.origin
      → Serves s.origin v.number s.history call result s'.history → w.seen ≡ s'.history → w.origin ≡ v.origin → w.number ≡ v.number → Asks (share_of v) call result (share_of w)
  asked (rest, is) mine own origin serves seen same number = record {
    origin = same;
    caller = number;
    others = rest;
    apart = others_since v.number v.seen rest s.history is (mine ∙ sym own);
    serves = subst (λ (z : List Entry × List Entry). Serves v.origin v.number z.0 call result z.1) (λ i. (sym is i, sym seen i))
        (subst (λ (o : Origin). Serves o v.number s.history call result s'.history) origin serves);
  }

  pub stays_within : s.origin ≡ v.origin → Opened s s' → IsInOrder s' → w.seen ≡ s'.history → w.origin ≡ v.origin → IsWithinJournal (share_of w)
  stays_within origin opened order seen same =
      let journal : w.origin.journal ≡ s'.origin.journal = ap (λ (o : Origin). o.journal) (same ∙ sym origin ∙ sym opened.origin) in
      let long : length w.seen ≡ length s'.history = ap length seen in
      let within : length s'.history ≤ s'.origin.journal = order.legal.within in
      omega arith

  pub has_room : s.origin ≡ v.origin → Opened s s' → IsInOrder s' → s'.history ≡ s.history
      → ((limit : ℕ) → (result ≡ Err (JournalFull limit)) ↔ ((length s.history ≡ s.origin.journal) × (limit ≡ s.origin.journal)))
      → w.seen ≡ s'.history → w.origin ≡ v.origin → result ≡ Err NoMemory → HasRoom (share_of w)
  has_room origin opened order kept full seen same none =
      let journal : w.origin.journal ≡ s'.origin.journal = ap (λ (o : Origin). o.journal) (same ∙ sym origin ∙ sym opened.origin) in
      let before : s'.origin.journal ≡ s.origin.journal = ap (λ (o : Origin). o.journal) opened.origin in
      let long : length w.seen ≡ length s'.history = ap length seen in
      let as_long : length s'.history ≡ length s.history = ap length kept in
      let within : length s'.history ≤ s'.origin.journal = order.legal.within in
      let not_full : length s.history ≢ s.origin.journal = λ e. let is : result ≡ Err (JournalFull s.origin.journal) = (full s.origin.journal).1 (e, refl) in
      let no : Err NoMemory ≡ Err (JournalFull s.origin.journal) = sym none ∙ is in absurd cc in
      omega arith

-- a turn that ends with an entry
pub goes_with : (v u w : View) (e : Entry) → IsSame v u → w.origin ≡ u.origin → w.number ≡ u.number → w.held ≡ u.held → w.olds ≡ u.olds → w.made ≡ u.made
    → w.own ≡ u.own + 1 → w.mine ≡ u.mine ++ e ∷ [] → Goes v w
goes_with v u w e same origin number held olds made own mine =
    let grown : length w.mine ≡ length u.mine + 1 = ap length mine ∙ length-append u.mine (e ∷ []) in
    let long : length u.mine ≡ length v.mine = ap length same.2 in
    let before : u.own ≡ v.own = same.4 in
    record {
      origin = origin ∙ same.0;
      number = number ∙ same.1;
      held = held ∙ same.3;
      olds = olds ∙ same.5;
      made = made ∙ same.6;
      own = omega arith;
    }

-- and one that ends without
pub goes_without : (v u w : View) → IsSame v u → IsSame u w → Goes v w
goes_without v u w same also =
    let mine : length w.mine ≡ length v.mine = ap length (also.2 ∙ same.2) in
    let own : w.own ≡ v.own = also.4 ∙ same.4 in
    record {
      origin = also.0 ∙ same.0;
      number = also.1 ∙ same.1;
      held = also.3 ∙ same.3;
      olds = also.5 ∙ same.5;
      made = also.6 ∙ same.6;
      own = omega arith;
    }
