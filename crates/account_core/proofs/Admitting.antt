-- Messages that fit, and what becomes of the usages where one is accepted.
use Rattle.std.proofs.Common.{◌≡◌, ℕ, zero, suc, ◌+◌, ◌<◌, ◌↔◌, Bool, true, false, cond, not, ◌&&◌, List, [], ◌∷◌, ◌++◌, length, get_or, Option, Some, None, arith, refl, sym, ◌∙◌, ap, codes}
use Rattle.std.specs.List.{Contains, filter_map, cons_option, slice_get}
use Rattle.std.specs.Option.{option_map}
use Rattle.std.proofs.lemmas.Bool.{and_parts, false≢true}
use Rattle.std.proofs.lemmas.List.Elements.{All-contains, Contains-get_or}
use Rattle.quota_units.specs.Limiting.{LimitNumbers}
use Rattle.quota_units.specs.declared.flags.Flags.{Flags}
use Rattle.quota_units.specs.declared.resource.Resource.{Resource}
use Rattle.quota_units.specs.declared.resource.Resource.TheVariants.{Storage, Message as MessageCount}
use Rattle.quota_units.specs.declared.totals.Totals.{Totals}
use Rattle.quota_roots.specs.declared.root.RootSpec.{RootSpec}
use Rattle.quota_roots.specs.Governing.{governs, governs_at, governing}
use Rattle.quota_roots.proofs.GoverningLemmas.{governing_members, governs_at_get_or, governed_inside}
use Rattle.admission.specs.Fitting.{allows, over, first_over, limits_at, totals_at, fits_root, FitsEach}
use Rattle.admission.proofs.FirstLemmas.{named, no_first}
use Rattle.quota_units.proofs.SumLemmas.{same_totals}
use Rattle.account_core.specs.declared.calls.Call.TheVariants.{Deliver}
use Rattle.account_core.specs.declared.calls.Entry.{Entry}
use Rattle.account_core.specs.declared.calls.Reply.{Reply}
use Rattle.account_core.specs.declared.calls.Reply.TheVariants.{Delivered, NoMailbox, Fits}
use Rattle.account_core.specs.Account.{Account, Message, usage}
use Rattle.account_core.specs.Machine.{usages, over_in, over_or, delivered_message, delivered_after}
use Rattle.account_core.specs.History.{replay, reply, entry_of}
use Rattle.account_core.specs.Legality.{AreWithin, FitsIn, NoneBroken, IsOver, OverWhereNoFit}
use Rattle.account_core.proofs.Replaying.{replay_more}
use Rattle.account_core.proofs.MessageSums.{counted_push}

none_of : (h : ℕ → Option Resource) (x : ℕ) (xs : List ℕ) (o : Option Resource) → h x ≡ o → slice_get (filter_map (named h) (x ∷ xs)) 0 ≡ None
    → (h x ≡ None) × (slice_get (filter_map (named h) xs) 0 ≡ None)
none_of h x xs None e none = (e, sym (ap (λ p. slice_get (cons_option (option_map (λ resource. (x, resource)) p) (filter_map (named h) xs)) 0) e) ∙ none)
none_of h x xs (Some resource) e none =
    absurd (let k : Some (x, resource) ≡ None = sym (ap (λ p. slice_get (cons_option (option_map (λ r. (x, r)) p) (filter_map (named h) xs)) 0) e) ∙ none in cc)

-- where none is the first, there is none
none_at : (h : ℕ → Option Resource) (roots : List ℕ) → slice_get (filter_map (named h) roots) 0 ≡ None → (k : ℕ) → Contains roots k → h k ≡ None
none_at h [] none k has = absurd (omega (arith, has.1))
none_at h (x ∷ xs) none k (zero, inside, same) = ap h (sym same) ∙ (none_of h x xs (h x) refl none).0
none_at h (x ∷ xs) none k (suc i, inside, same) = none_at h xs (none_of h x xs (h x) refl none).1 k (i, omega arith, same)

choice_fits : (storage number : Bool) → cond (not storage) (Some Storage) (cond (not number) (Some MessageCount) None) ≡ None → (storage && number) ≡ true
choice_fits true true none = refl
choice_fits true false none = cc
choice_fits false number none = cc

fits_choice : (storage number : Bool) → (storage && number) ≡ true → cond (not storage) (Some Storage) (cond (not number) (Some MessageCount) None) ≡ None
fits_choice true true fits = refl
fits_choice true false fits = absurd (false≢true fits)
fits_choice false number fits = absurd (false≢true fits)

pub fits_all : (limits : List LimitNumbers) (totals : List Totals) (roots : List ℕ) (octets : ℕ) → first_over limits totals roots octets ≡ None → FitsEach limits totals roots octets
fits_all limits totals roots octets none k d inside =
    let root = get_or roots k d in
    choice_fits _ _ (none_at (λ r. over (limits_at limits r) (totals_at totals r) octets) roots none root (Contains-get_or roots k d inside))

pub none_over : (limits : List LimitNumbers) (totals : List Totals) (roots : List ℕ) (octets : ℕ) → FitsEach limits totals roots octets → first_over limits totals roots octets ≡ None
none_over limits totals roots octets fits =
    no_first (λ r. over (limits_at limits r) (totals_at totals r) octets) roots
    (λ k has. fits_choice _ _ (All-contains (λ root. fits_root (limits_at limits root) (totals_at totals root) octets ≡ true) roots k fits has))

-- a list's usages, at a root
pub totals_at-usages : (roots : List RootSpec) (account : Account) (root : ℕ) (d : RootSpec) → root < length roots → totals_at (usages roots account) root ≡ usage (get_or roots root d) account
totals_at-usages [] account root d inside = absurd (omega arith)
totals_at-usages (x ∷ roots) account zero d inside = refl
totals_at-usages (x ∷ roots) account (suc root) d inside = totals_at-usages roots account root d (omega arith)

-- what a root that governs the mailbox has, once the message stands at the end
usage_push : (root : RootSpec) (account : Account) (message : Message) → governs root message.mailbox ≡ true
    → usage root (record account { messages = account.messages ++ message ∷ [] }) ≡ record { octets = (usage root account).octets + message.octets; count = (usage root account).count + 1 }
usage_push root account message governed =
    same_totals (counted_push root (λ m. m.octets) account.messages message true governed) (counted_push root (λ m. 1) account.messages message true governed)

pub within_from : (limits limits' : LimitNumbers) (had had' has : Totals) (octets : ℕ) → had ≡ had' → limits' ≡ limits → has ≡ record { octets = had'.octets + octets; count = had'.count + 1 }
    → fits_root limits had octets ≡ true → AreWithin limits' has
within_from limits limits' had had' has octets same kept more fits =
    let both : fits_root limits had' octets ≡ true = rw (← same) fits in
    let parts = and_parts (allows limits.octets (had'.octets + octets)) (allows limits.count (had'.count + 1)) both in
    record { octets = rw (kept, more) parts.0; count = rw (kept, more) parts.1 }

module _ (roots : List RootSpec) (opening : Account) (history : List Entry) (caller : ℕ) (mailbox : List ℕ) (octets : ℕ) (flags : Flags) where
  abbrev before : Account
  before = replay roots opening history

  abbrev after : Account
  after = replay roots opening (history ++ entry_of caller (Deliver mailbox octets flags) false ∷ [])

  abbrev place : Option (ℕ × Resource)
  place = over_in roots before mailbox octets

  -- what an accepted delivery was answered by
  accepted : (number : ℕ) (b : Bool) (o : Option (ℕ × Resource)) → cond b (over_or o (Delivered (before.deliveries + 1))) NoMailbox ≡ Delivered number → (b ≡ true) × (o ≡ None) × (number ≡ before.deliveries + 1)
  accepted number true None e = (refl, refl, cc)
  accepted number true (Some at) e = absurd (cc)
  accepted number false o e = absurd (cc)

  after_is : (number : ℕ) → reply roots opening history (Deliver mailbox octets flags) ≡ Delivered number
      → after ≡ record before { messages = before.messages ++ delivered_message before.epoch number mailbox octets flags ∷ []; deliveries = number; generation = before.generation + 1 }
  after_is number given =
      replay_more roots opening history (entry_of caller (Deliver mailbox octets flags) false)
      ∙ ap (λ r. delivered_after before mailbox octets flags r) given

  root_within : (number root : ℕ) → reply roots opening history (Deliver mailbox octets flags) ≡ Delivered number → governs_at roots root mailbox ≡ true
      → (inside : root < length roots)
      → AreWithin (limits_at after.limits root) (totals_at (usages roots after) root)
  root_within number root given governed inside =
      let d : RootSpec = record { name = []; prefix = None } in
      let message = delivered_message before.epoch number mailbox octets flags in
      let spec = get_or roots root d in
      let none = (accepted number _ _ given).1 in
      let each = fits_all before.limits (usages roots before) (governing roots mailbox) octets none in
      let fits = All-contains (λ r. fits_root (limits_at before.limits r) (totals_at (usages roots before) r) octets ≡ true) (governing roots mailbox) root each ((governing_members roots mailbox root).1 governed) in
      let had = totals_at-usages roots before root d inside in
      let has : totals_at (usages roots after) root ≡ record { octets = (usage spec before).octets + octets; count = (usage spec before).count + 1 } =
      totals_at-usages roots after root d inside ∙ ap (λ (a : Account). usage spec a) (after_is number given)
      ∙ usage_push spec before message (sym (governs_at_get_or roots mailbox root d inside) ∙ governed) in
      let kept : after.limits ≡ before.limits = ap (λ (a : Account). a.limits) (after_is number given) in
      within_from _ _ _ _ _ octets had (ap (λ ls. limits_at ls root) kept) has fits

pub none_broken : NoneBroken
none_broken roots opening history caller mailbox octets flags number given root governed =
    root_within roots opening history caller mailbox octets flags number root given governed (governed_inside roots mailbox root governed)

pub over_is : (o : Option (ℕ × Resource)) (given : Reply) → (IsOver given → ⊥) → (IsOver (over_or o given) ↔ (o ≡ None → ⊥))
over_is None given other = (λ is. absurd (other is), λ no. absurd (no refl))
over_is (Some place) given other = (λ is none. cc, λ no. (place.0, place.1, refl))

not_delivered : (number : ℕ) → IsOver (Delivered number) → ⊥
not_delivered number (root, resource, e) = cc

not_fits : IsOver Fits → ⊥
not_fits (root, resource, e) = cc

fits_or_not : (roots : List RootSpec) (account : Account) (mailbox : List ℕ) (octets : ℕ) (given : Reply) → (IsOver given → ⊥)
    → (IsOver (over_or (over_in roots account mailbox octets) given) ↔ (FitsIn roots account mailbox octets → ⊥))
fits_or_not roots account mailbox octets given other =
    let both = over_is (over_in roots account mailbox octets) given other in
    let totals = usages roots account in
    let numbers = governing roots mailbox in
    (λ is fits. both.0 is (none_over account.limits totals numbers octets fits), λ no. both.1 (λ none. no (fits_all account.limits totals numbers octets none)))

pub over_where_no_fit : OverWhereNoFit
over_where_no_fit roots opening history octets = (
  λ mailbox flags there. let account = replay roots opening history in
      let both = fits_or_not roots account mailbox octets (Delivered (account.deliveries + 1)) (not_delivered _) in
      rw there both,
  fits_or_not roots (replay roots opening history) (codes "INBOX") octets Fits not_fits,
)
