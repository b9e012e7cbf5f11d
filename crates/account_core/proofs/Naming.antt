-- Messages that a mailbox and a base name stay apart.
use Rattle.std.proofs.Common.{◌≡◌, ◌≤◌, ◌<◌, ◌^◌, ℕ, ◌+◌, Bool, true, false, cond, List, [], ◌∷◌, ◌++◌, length, Option, Some, None, is_some, refl, sym, ap, ◌∙◌, arith, subst, inl, inr, bytes_eq}
use Rattle.std.proofs.lemmas.Bool.{and_parts, and_right, cases_Bool}
use Rattle.std.proofs.lemmas.List.Sums.{sum_by_push}
use Rattle.std.proofs.lemmas.Slice.Eq.{bytes_eq-Decides}
use Rattle.quota_units.specs.declared.flags.Flags.{Flags}
use Rattle.quota_units.specs.declared.resource.Resource.{Resource}
use Rattle.quota_roots.specs.Governing.{gaining}
use Rattle.quota_roots.specs.declared.root.RootSpec.{RootSpec}
use Rattle.account_core.specs.declared.calls.Call.{Call}
use Rattle.account_core.specs.declared.calls.Call.TheVariants.{Deliver, Check, Remove, Mark, Move, Quota, SetLimits, Roots, Status, ScanBegin, ScanPart, Install}
use Rattle.account_core.specs.declared.calls.Entry.{Entry}
use Rattle.account_core.specs.declared.calls.Reply.TheVariants.{NoMailbox, Delivered, Removed, Marked, NameTaken, Moved}
use Rattle.account_core.specs.Account.{Account, Message}
use Rattle.account_core.specs.Delivering.{delivered_base}
use Rattle.account_core.specs.Messages.{is_message, named_message, how_many, changed, with_mailbox}
use Rattle.account_core.specs.Machine.{has_mailbox, if_message, over_of, over_in, over_or, step, delivered_message, delivered_after, removed_after, marked_after, moving_reply, moved_after}
use Rattle.account_core.specs.History.{replay, account_after}
use Rattle.account_core.specs.Naming.{AreApart, AreUnused, NamesStayApart}
use Rattle.account_core.proofs.DeliveredLemmas.{bases_differ}
use Rattle.account_core.proofs.Apart.{how_many_removed, how_many_marked, apart_moved, fresh_moved}

-- what stays, and that a call delivers one message at most
pub record IsNamed (account : Account) : Type 0 where
  pub apart : AreApart account.messages
  pub unused : AreUnused account

pub record Names (account account' : Account) : Type 0 where
  pub named : IsNamed account'
  pub few : account'.deliveries ≤ account.deliveries + 1

stays : (account : Account) → IsNamed account → Names account account
stays account is = record { named = is; few = omega arith }

one_more : (is : Bool) (before after : ℕ) → after ≡ before + cond is 1 0 → before ≤ 1 → (is ≡ true → before ≡ 0) → after ≤ 1
one_more true before after e few none = let zero = none refl in omega arith
one_more false before after e few none = omega arith

none_more : (is : Bool) (before after : ℕ) → after ≡ before + cond is 1 0 → before ≡ 0 → is ≡ false → after ≡ 0
none_more true before after e none other = absurd (cc)
none_more false before after e none other = omega arith

module _ (account : Account) (is : IsNamed account) (mailbox : List ℕ) (octets : ℕ) (flags : Flags) (small : account.deliveries + 1 < 2 ^ 64) where
  abbrev number : ℕ
  number = account.deliveries + 1

  abbrev brought : Message
  brought = delivered_message account.epoch number mailbox octets flags

  pushed : (other base : List ℕ) → how_many other base (account.messages ++ brought ∷ []) ≡ how_many other base account.messages + cond (is_message other base brought) 1 0
  pushed other base = sum_by_push (λ (m : Message). cond (is_message other base m) 1 0) account.messages brought

  -- another delivery's base is not this one's
  another_base : (later : ℕ) → number < later → later < 2 ^ 64 → bytes_eq brought.base (delivered_base account.epoch later) ≡ false
  another_base later above below = elim (cases_Bool (bytes_eq brought.base (delivered_base account.epoch later))) [
    | inl same ↦ absurd (let e : number ≡ later = bases_differ account.epoch number later small below ((bytes_eq-Decides brought.base (delivered_base account.epoch later)).0 same) in omega arith)
    | inr differs ↦ differs
  ]

  delivered_named : Names account (delivered_after account mailbox octets flags (Delivered number))
  delivered_named = record {
    named = record {
      apart = λ other base. one_more (is_message other base brought) (how_many other base account.messages) _ (pushed other base) (is.apart other base)
          (λ same. ap (λ b. how_many other b account.messages) (sym ((bytes_eq-Decides brought.base base).0 (and_parts _ _ same).1)) ∙ is.unused number (omega arith) small other);
      unused = λ later above below other. none_more (is_message other (delivered_base account.epoch later) brought) (how_many other (delivered_base account.epoch later) account.messages) _
          (pushed other (delivered_base account.epoch later)) (is.unused later (omega arith) below other) (and_right _ _ (another_base later above below));
    };
    few = omega arith;
  }

  delivery_named : (b : Bool) (o : Option (ℕ × Resource)) → Names account (delivered_after account mailbox octets flags (cond b (over_or o (Delivered number)) NoMailbox))
  delivery_named true None = delivered_named
  delivery_named true (Some place) = stays account is
  delivery_named false o = stays account is

module _ (account : Account) (is : IsNamed account) where
  removed_named : (message : Message) (mailbox base : List ℕ) → named_message mailbox base account.messages ≡ Some message → Names account (removed_after account mailbox base Removed)
  removed_named message mailbox base named = record {
    named = record {
      apart = λ other b. let fewer = how_many_removed message mailbox base account.messages named other b in let few = is.apart other b in omega arith;
      unused = λ later above below other. let fewer = how_many_removed message mailbox base account.messages named other (delivered_base account.epoch later) in
          let none = is.unused later above below other in omega arith;
    };
    few = omega arith;
  }

  removal_named : (mailbox base : List ℕ) (b : Bool) (o : Option Message) → named_message mailbox base account.messages ≡ o → Names account (removed_after account mailbox base (cond b (if_message o Removed) NoMailbox))
  removal_named mailbox base true None named = stays account is
  removal_named mailbox base true (Some message) named = removed_named message mailbox base named
  removal_named mailbox base false o named = stays account is

  mark_named : (mailbox base : List ℕ) (flags : Flags) (b : Bool) (o : Option Message) → Names account (marked_after account mailbox base flags (cond b (if_message o Marked) NoMailbox))
  mark_named mailbox base flags true None = stays account is
  mark_named mailbox base flags true (Some message) = record {
    named = record {
      apart = λ other b. subst (λ n. n ≤ 1) (sym (how_many_marked flags mailbox base account.messages other b)) (is.apart other b);
      unused = λ later above below other. how_many_marked flags mailbox base account.messages other (delivered_base account.epoch later) ∙ is.unused later above below other;
    };
    few = omega arith;
  }
  mark_named mailbox base flags false o = stays account is

  -- the account after a move to another mailbox, which has no such base
  moved_named : (message : Message) (from base to : List ℕ) → named_message from base account.messages ≡ Some message → named_message to base account.messages ≡ None
      → Names account (record account { messages = changed from base (with_mailbox to) account.messages; generation = account.generation + 1 })
  moved_named message from base to named free = record {
    named = record {
      apart = apart_moved message from base to account.messages named free is.apart;
      unused = λ later above below. fresh_moved message from base to (delivered_base account.epoch later) account.messages named (is.unused later above below);
    };
    few = omega arith;
  }

  placing_named : (roots : List RootSpec) (message : Message) (from base to : List ℕ) (same : Bool) (o : Option Message) (first : Option (ℕ × Resource))
      → named_message from base account.messages ≡ Some message → bytes_eq from to ≡ false → named_message to base account.messages ≡ o
      → Names account (moved_after account from base to (cond (is_some o) NameTaken (over_or first Moved)))
  placing_named roots message from base to same (Some other) first named apart free = stays account is
  placing_named roots message from base to same None (Some place) named apart free = stays account is
  placing_named roots message from base to same None None named apart free = rw apart (moved_named message from base to named free)

  moving_named : (roots : List RootSpec) (from base to : List ℕ) (same : Bool) (o : Option Message) → bytes_eq from to ≡ same → named_message from base account.messages ≡ o
      → Names account (moved_after account from base to (moving_reply roots account from base to o))
  moving_named roots from base to same None apart named = stays account is
  moving_named roots from base to true (Some message) apart named = rw (apart, apart) (stays account is)
  moving_named roots from base to false (Some message) apart named =
      rw apart (placing_named roots message from base to false (named_message to base account.messages) (over_of roots account (gaining roots from to) message.octets) named apart refl)

  move_named : (roots : List RootSpec) (from base to : List ℕ) (b c : Bool) (o : Option Message) → named_message from base account.messages ≡ o
      → Names account (moved_after account from base to (cond b (cond c (moving_reply roots account from base to o) NoMailbox) NoMailbox))
  move_named roots from base to true true o named = moving_named roots from base to (bytes_eq from to) o refl named
  move_named roots from base to true false o named = stays account is
  move_named roots from base to false c o named = stays account is

-- one call keeps them apart
pub step_named : (roots : List RootSpec) (account : Account) (call : Call) → account.deliveries + 1 < 2 ^ 64 → IsNamed account → Names account (step roots account call)
step_named roots account (Deliver mailbox octets flags) small is = delivery_named account is mailbox octets flags small (has_mailbox account mailbox) (over_in roots account mailbox octets)
step_named roots account (Check octets) small is = stays account is
step_named roots account (Remove mailbox base) small is = removal_named account is mailbox base (has_mailbox account mailbox) (named_message mailbox base account.messages) refl
step_named roots account (Mark mailbox base flags) small is = mark_named account is mailbox base flags (has_mailbox account mailbox) (named_message mailbox base account.messages)
step_named roots account (Move from base to) small is =
    move_named account is roots from base to (has_mailbox account from) (has_mailbox account to) (named_message from base account.messages) refl
step_named roots account (Quota name) small is = stays account is
step_named roots account (SetLimits name limits) small is = record { named = record { apart = is.apart; unused = is.unused }; few = omega arith }
step_named roots account (Roots mailbox) small is = stays account is
step_named roots account (Status mailbox) small is = stays account is
step_named roots account ScanBegin small is = stays account is
step_named roots account (ScanPart index) small is = stays account is
step_named roots account (Install generation) small is = stays account is

after_named : (roots : List RootSpec) (account : Account) (call : Call) (fault : Bool) → account.deliveries + 1 < 2 ^ 64 → IsNamed account → Names account (cond fault account (step roots account call))
after_named roots account call true small is = stays account is
after_named roots account call false small is = step_named roots account call small is

pub replay_named : (roots : List RootSpec) (account : Account) (history : List Entry) → account.deliveries + length history < 2 ^ 64 → IsNamed account → IsNamed (replay roots account history)
replay_named roots account [] small is = is
replay_named roots account (entry ∷ history) small is =
    let one = after_named roots account entry.call entry.fault (omega arith) is in
    replay_named roots (account_after roots account entry) history (omega (arith, one.few)) one.named

pub names_stay_apart : NamesStayApart
names_stay_apart roots opening history small apart unused = (replay_named roots opening history small (record { apart = apart; unused = unused })).apart
