-- Moves that are answered that a root would be over, and what becomes of the usages where a message is moved.
use Rattle.std.proofs.Common.{◌≡◌, ◌≢◌, ℕ, ◌+◌, ◌<◌, Bool, true, false, cond, List, [], ◌∷◌, ◌++◌, length, get_or, Option, Some, None, is_some, arith, refl, sym, ◌∙◌, ap, subst, inl, inr, bytes_eq}
use Rattle.std.proofs.lemmas.Bool.{false≢true, cases_Bool}
use Rattle.std.proofs.lemmas.List.Elements.{All-contains}
use Rattle.std.proofs.lemmas.Slice.Eq.{bytes_eq-Decides}
use Rattle.quota_units.specs.declared.resource.Resource.{Resource}
use Rattle.quota_roots.specs.declared.root.RootSpec.{RootSpec}
use Rattle.quota_roots.specs.Governing.{gaining, governs, governs_at}
use Rattle.quota_roots.proofs.GoverningLemmas.{gaining_members, governs_at_get_or, governed_inside}
use Rattle.admission.specs.Fitting.{limits_at, totals_at, fits_root}
use Rattle.quota_units.proofs.SumLemmas.{same_totals}
use Rattle.account_core.specs.declared.calls.Call.TheVariants.{Move}
use Rattle.account_core.specs.declared.calls.Entry.{Entry}
use Rattle.account_core.specs.declared.calls.Reply.{Reply}
use Rattle.account_core.specs.declared.calls.Reply.TheVariants.{NoMailbox, NoMessage, NameTaken, Moved}
use Rattle.account_core.specs.Account.{Account, Message, counted, usage}
use Rattle.account_core.specs.Messages.{named_message, changed, with_mailbox}
use Rattle.account_core.specs.Machine.{usages, over_of, over_or, moving_reply, move_between_reply, move_reply, moved_after, has_mailbox}
use Rattle.account_core.specs.History.{replay, reply, entry_of}
use Rattle.account_core.specs.Legality.{AreWithin, IsOver, MayMove, NoneBrokenByMoves, MoveOverWhereNoFit}
use Rattle.account_core.proofs.Replaying.{replay_more}
use Rattle.account_core.proofs.MessageSums.{counted_moved}
use Rattle.account_core.proofs.Admitting.{fits_all, none_over, totals_at-usages, within_from, over_is}

-- An answer that is none of the refusals: what it says of each thing that is looked at, in their order.
module _ (Is : Reply → Type 0) (mailbox : Is NoMailbox → ⊥) (no_message : Is NoMessage → ⊥) (taken : Is NameTaken → ⊥) (roots : List RootSpec) (account : Account) (from base to : List ℕ) where
  in_mailbox : (b : Bool) (given : Reply) → Is (cond b given NoMailbox) → (b ≡ true) × Is given
  in_mailbox true given is = (refl, is)
  in_mailbox false given is = absurd (mailbox is)

  not_taken : (o : Option Message) (given : Reply) → Is (cond (is_some o) NameTaken given) → (o ≡ None) × Is given
  not_taken None given is = (refl, is)
  not_taken (Some message) given is = absurd (taken is)

  with_message : (o : Option Message) → Is (moving_reply roots account from base to o)
      → (message : Message) × (o ≡ Some message) × Is (cond (bytes_eq from to) Moved (move_between_reply roots account from base to message))
  with_message None is = absurd (no_message is)
  with_message (Some message) is = (message, refl, is)

  looked_at : Is (move_reply roots account from base to)
      → (message : Message) × (has_mailbox account from ≡ true) × (has_mailbox account to ≡ true) × (named_message from base account.messages ≡ Some message)
      × Is (cond (bytes_eq from to) Moved (move_between_reply roots account from base to message))
  looked_at is =
      let source = in_mailbox (has_mailbox account from) _ is in
      let target = in_mailbox (has_mailbox account to) _ source.1 in
      let there = with_message (named_message from base account.messages) target.1 in
      (there.0, source.0, target.0, there.1, there.2)

not_mailbox : IsOver NoMailbox → ⊥
not_mailbox (root, resource, e) = cc

not_no_message : IsOver NoMessage → ⊥
not_no_message (root, resource, e) = cc

not_name_taken : IsOver NameTaken → ⊥
not_name_taken (root, resource, e) = cc

not_moved : IsOver Moved → ⊥
not_moved (root, resource, e) = cc

another : (same : Bool) (given : Reply) → IsOver (cond same Moved given) → (same ≡ false) × IsOver given
another true given is = absurd (not_moved is)
another false given is = (refl, is)

differ : (from to : List ℕ) → bytes_eq from to ≡ false → from ≢ to
differ from to apart e = false≢true (sym apart ∙ (bytes_eq-Decides from to).1 e)

differ_back : (from to : List ℕ) → from ≢ to → bytes_eq from to ≡ false
differ_back from to apart = elim (cases_Bool (bytes_eq from to)) [
  | inl e ↦ absurd (apart ((bytes_eq-Decides from to).0 e))
  | inr e ↦ e
]

-- what a move is answered where nothing but a limit can keep the message from the target
pub move_is : (roots : List RootSpec) (account : Account) (from base to : List ℕ) (message : Message) → MayMove account from base to message
    → move_reply roots account from base to ≡ over_or (over_of roots account (gaining roots from to) message.octets) Moved
move_is roots account from base to message may =
    ap (λ b. cond b (cond (has_mailbox account to) (moving_reply roots account from base to (named_message from base account.messages)) NoMailbox) NoMailbox) may.source
    ∙ ap (λ b. cond b (moving_reply roots account from base to (named_message from base account.messages)) NoMailbox) may.target
    ∙ ap (λ o. moving_reply roots account from base to o) may.there
    ∙ ap (λ b. cond b Moved (move_between_reply roots account from base to message)) (differ_back from to may.apart)
    ∙ ap (λ (o : Option Message). cond (is_some o) NameTaken (over_or (over_of roots account (gaining roots from to) message.octets) Moved)) may.free

pub move_over_where_no_fit : MoveOverWhereNoFit
move_over_where_no_fit roots opening history from base to =
    let account = replay roots opening history in
    let gains = gaining roots from to in (
      λ over. let seen = looked_at IsOver not_mailbox not_no_message not_name_taken roots account from base to over in
          let message = seen.0 in
          let apart = another (bytes_eq from to) _ seen.4 in
          let free = not_taken IsOver not_mailbox not_no_message not_name_taken roots account from base to (named_message to base account.messages) _ apart.1 in
          let both = over_is (over_of roots account gains message.octets) Moved not_moved in (
            message,
            record { source = seen.1; target = seen.2; there = seen.3; apart = differ from to apart.0; free = free.0 },
            λ fits. both.0 free.1 (none_over account.limits (usages roots account) gains message.octets fits),
          ),
      λ (message, may, none). let both = over_is (over_of roots account gains message.octets) Moved not_moved in
          subst IsOver (sym (move_is roots account from base to message may)) (both.1 (λ first. none (fits_all account.limits (usages roots account) gains message.octets first))),
    )

into : (x y w w' : ℕ) (source target : Bool) → x + cond source w 0 ≡ y + cond target w' 0 → source ≡ false → target ≡ true → x ≡ y + w'
into x y w w' true target e free governed = absurd (cc)
into x y w w' false true e free governed = omega arith
into x y w w' false false e free governed = absurd (cc)

-- what a root that governs the target and not the source has, once the message is moved
pub usage_moved : (root : RootSpec) (account account' : Account) (message : Message) (from base to : List ℕ) → account'.messages ≡ changed from base (with_mailbox to) account.messages
    → named_message from base account.messages ≡ Some message → governs root from ≡ false → governs root to ≡ true
    → usage root account' ≡ record { octets = (usage root account).octets + message.octets; count = (usage root account).count + 1 }
usage_moved root account account' message from base to is named free governed =
    same_totals
    (ap (counted root (λ m. m.octets)) is ∙ into _ _ _ _ _ _ (counted_moved root (λ m. m.octets) message from base to account.messages named) free governed)
    (ap (counted root (λ m. 1)) is ∙ into _ _ _ _ _ _ (counted_moved root (λ m. 1) message from base to account.messages named) free governed)

none_first : (o : Option (ℕ × Resource)) → over_or o Moved ≡ Moved → o ≡ None
none_first None e = refl
none_first (Some place) e = absurd (cc)

placed_is : (same : Bool) (given : Reply) → same ≡ false → cond same Moved given ≡ Moved → given ≡ Moved
placed_is true given apart e = absurd (cc)
placed_is false given apart e = e

module _ (roots : List RootSpec) (opening : Account) (history : List Entry) (caller : ℕ) (from base to : List ℕ) where
  abbrev before : Account
  before = replay roots opening history

  abbrev after : Account
  after = replay roots opening (history ++ entry_of caller (Move from base to) false ∷ [])

  abbrev IsMoved : Reply → Type 0
  IsMoved given = given ≡ Moved

  apart_of : (root : ℕ) → governs_at roots root to ≡ true → governs_at roots root from ≡ false → bytes_eq from to ≡ false
  apart_of root governed free = differ_back from to (λ e. false≢true (sym free ∙ ap (governs_at roots root) e ∙ governed))

  after_is : reply roots opening history (Move from base to) ≡ Moved → bytes_eq from to ≡ false
      → after ≡ record before { messages = changed from base (with_mailbox to) before.messages; generation = before.generation + 1 }
  after_is given apart =
      replay_more roots opening history (entry_of caller (Move from base to) false)
      ∙ ap (λ r. moved_after before from base to r) given
      ∙ ap (λ b. cond b before (record before { messages = changed from base (with_mailbox to) before.messages; generation = before.generation + 1 })) apart

  -- the message of a move that was made, and that it fits
  moved_fits : reply roots opening history (Move from base to) ≡ Moved → bytes_eq from to ≡ false
      → (message : Message) × (named_message from base before.messages ≡ Some message) × (over_of roots before (gaining roots from to) message.octets ≡ None)
  moved_fits given apart =
      let seen = looked_at IsMoved (λ e. cc) (λ e. cc) (λ e. cc) roots before from base to given in
      let over = over_of roots before (gaining roots from to) seen.0.octets in
      let placed = placed_is (bytes_eq from to) (move_between_reply roots before from base to seen.0) apart seen.4 in
      let fitting = not_taken IsMoved (λ e. cc) (λ e. cc) (λ e. cc) roots before from base to (named_message to base before.messages) (over_or over Moved) placed in
      (seen.0, seen.3, none_first over fitting.1)

  root_within : (root : ℕ) → reply roots opening history (Move from base to) ≡ Moved → governs_at roots root to ≡ true → governs_at roots root from ≡ false
      → (inside : root < length roots)
      → AreWithin (limits_at after.limits root) (totals_at (usages roots after) root)
  root_within root given governed free inside =
      let d : RootSpec = record { name = []; prefix = None } in
      let spec = get_or roots root d in
      let apart = apart_of root governed free in
      let moved = moved_fits given apart in
      let message = moved.0 in
      let gains = gaining roots from to in
      let each = fits_all before.limits (usages roots before) gains message.octets moved.2 in
      let fits = All-contains (λ r. fits_root (limits_at before.limits r) (totals_at (usages roots before) r) message.octets ≡ true) gains root each ((gaining_members roots from to root).1 (governed, free)) in
      let had = totals_at-usages roots before root d inside in
      let now_is = after_is given apart in
      let has : totals_at (usages roots after) root ≡ record { octets = (usage spec before).octets + message.octets; count = (usage spec before).count + 1 } =
      totals_at-usages roots after root d inside
      ∙ usage_moved spec before after message from base to (ap (λ (a : Account). a.messages) now_is) moved.1
      (sym (governs_at_get_or roots from root d inside) ∙ free) (sym (governs_at_get_or roots to root d inside) ∙ governed) in
      let kept : after.limits ≡ before.limits = ap (λ (a : Account). a.limits) now_is in
      within_from _ _ _ _ _ message.octets had (ap (λ ls. limits_at ls root) kept) has fits

pub none_broken_by_moves : NoneBrokenByMoves
none_broken_by_moves roots opening history caller from base to given root governed free =
    root_within roots opening history caller from base to root given governed free (governed_inside roots to root governed)
