-- What a call leaves of an account, what it adds at most, and the bound on the sums after a history.
use Rattle.std.proofs.Common.{◌≡◌, ◌≤◌, ◌<◌, ◌^◌, ℕ, ◌+◌, Bool, true, false, cond, List, [], ◌∷◌, length, sum_by, Option, Some, None, is_some, refl, ◌∙◌, arith, subst, sym, add-zero, zero-add, bytes_eq, length-append}
use Rattle.std.proofs.lemmas.List.Sums.{sum_by_push}
use Rattle.quota_units.specs.declared.flags.Flags.{Flags}
use Rattle.quota_units.specs.declared.resource.Resource.{Resource}
use Rattle.quota_roots.specs.declared.root.RootSpec.{RootSpec}
use Rattle.account_core.specs.declared.calls.Call.{Call}
use Rattle.account_core.specs.declared.calls.Call.TheVariants.{Deliver, Check, Remove, Mark, Move, Quota, SetLimits, Roots, Status, ScanBegin, ScanPart, Install}
use Rattle.account_core.specs.declared.calls.Entry.{Entry}
use Rattle.account_core.specs.declared.calls.Reply.TheVariants.{NoMailbox, Delivered, Removed, Marked, NameTaken, Moved}
use Rattle.account_core.specs.Account.{Account, Message}
use Rattle.account_core.specs.Messages.{named_message, changed, with_flags, with_mailbox}
use Rattle.account_core.specs.Machine.{has_mailbox, if_message, gaining, over_of, over_in, over_or, reply_of, step, delivered_message, delivered_after, removed_after, marked_after, moving_reply, moved_after}
use Rattle.account_core.specs.History.{replay, account_after}
use Rattle.account_core.specs.Generations.{is_change}
use Rattle.account_core.specs.Legality.{MayBeServed, AreServed}
use Rattle.account_core.specs.Orderly.{IsOrderly, AccountsStayOrderly}
use Rattle.account_core.proofs.MessageSums.{removed_sum, marked_sum}
use Rattle.account_core.proofs.Apart.{removed_length, changed_length, moved_sum}
use Rattle.account_core.proofs.Generations.{call_counts}
use Rattle.account_core.proofs.Naming.{step_named}

abbrev octets_in : List Message → ℕ
octets_in messages = sum_by (λ (m : Message). m.octets) messages

-- the octets that a call may add
abbrev added : Call → ℕ
added (Deliver mailbox octets flags) = octets
added call = 0

-- the epoch and the mailboxes stay, and there is at most one message more, of at most this many octets
record Grows (octets : ℕ) (account account' : Account) : Type 0 where
  pub epoch : account'.epoch ≡ account.epoch
  pub mailboxes : account'.mailboxes ≡ account.mailboxes
  pub more_octets : octets_in account'.messages ≤ octets_in account.messages + octets
  pub more_messages : length account'.messages ≤ length account.messages + 1

stays : (octets : ℕ) (account : Account) → Grows octets account account
stays octets account = record { epoch = refl; mailboxes = refl; more_octets = omega arith; more_messages = omega arith }

delivery_grows : (account : Account) (mailbox : List ℕ) (octets : ℕ) (flags : Flags) (number : ℕ) (b : Bool) (o : Option (ℕ × Resource))
    → Grows octets account (delivered_after account mailbox octets flags (cond b (over_or o (Delivered number)) NoMailbox))
delivery_grows account mailbox octets flags number true None =
    let message = delivered_message account.epoch number mailbox octets flags in
    let sum = sum_by_push (λ (m : Message). m.octets) account.messages message in
    let long = length-append account.messages (message ∷ []) in
    record { epoch = refl; mailboxes = refl; more_octets = omega arith; more_messages = omega arith }
delivery_grows account mailbox octets flags number true (Some place) = stays octets account
delivery_grows account mailbox octets flags number false o = stays octets account

removal_grows : (account : Account) (mailbox base : List ℕ) (b : Bool) (o : Option Message) → named_message mailbox base account.messages ≡ o
    → Grows 0 account (removed_after account mailbox base (cond b (if_message o Removed) NoMailbox))
removal_grows account mailbox base true None named = stays 0 account
removal_grows account mailbox base true (Some message) named =
    let sum = removed_sum (λ (m : Message). m.octets) message mailbox base account.messages named in
    let fewer = removed_length mailbox base account.messages in
    record { epoch = refl; mailboxes = refl; more_octets = omega arith; more_messages = omega arith }
removal_grows account mailbox base false o named = stays 0 account

mark_grows : (account : Account) (mailbox base : List ℕ) (flags : Flags) (b : Bool) (o : Option Message)
    → Grows 0 account (marked_after account mailbox base flags (cond b (if_message o Marked) NoMailbox))
mark_grows account mailbox base flags true None = stays 0 account
mark_grows account mailbox base flags true (Some message) =
    let sum = marked_sum (λ (m : Message). m.octets) flags (λ m. refl) mailbox base account.messages in
    let long = changed_length (with_flags flags) mailbox base account.messages in
    record { epoch = refl; mailboxes = refl; more_octets = omega arith; more_messages = omega arith }
mark_grows account mailbox base flags false o = stays 0 account

-- a move to another mailbox
moved_grows : (account : Account) (message : Message) (from base to : List ℕ) → named_message from base account.messages ≡ Some message
    → Grows 0 account (record account { messages = changed from base (with_mailbox to) account.messages; generation = account.generation + 1 })
moved_grows account message from base to named =
    let sum = moved_sum (λ (m : Message). m.octets) message from base to account.messages named refl in
    let long = changed_length (with_mailbox to) from base account.messages in
    record { epoch = refl; mailboxes = refl; more_octets = omega arith; more_messages = omega arith }

placing_grows : (account : Account) (message : Message) (from base to : List ℕ) (taken : Bool) (first : Option (ℕ × Resource))
    → named_message from base account.messages ≡ Some message → bytes_eq from to ≡ false
    → Grows 0 account (moved_after account from base to (cond taken NameTaken (over_or first Moved)))
placing_grows account message from base to true first named apart = stays 0 account
placing_grows account message from base to false (Some place) named apart = stays 0 account
placing_grows account message from base to false None named apart = rw apart (moved_grows account message from base to named)

moving_grows : (roots : List RootSpec) (account : Account) (from base to : List ℕ) (same : Bool) (o : Option Message)
    → bytes_eq from to ≡ same → named_message from base account.messages ≡ o
    → Grows 0 account (moved_after account from base to (moving_reply roots account from base to o))
moving_grows roots account from base to same None apart named = stays 0 account
moving_grows roots account from base to true (Some message) apart named = rw (apart, apart) (stays 0 account)
moving_grows roots account from base to false (Some message) apart named =
    rw apart (placing_grows account message from base to (is_some (named_message to base account.messages)) (over_of roots account (gaining roots from to) message.octets) named apart)

move_grows : (roots : List RootSpec) (account : Account) (from base to : List ℕ) (b c : Bool) (o : Option Message) → named_message from base account.messages ≡ o
    → Grows 0 account (moved_after account from base to (cond b (cond c (moving_reply roots account from base to o) NoMailbox) NoMailbox))
move_grows roots account from base to true true o named = moving_grows roots account from base to (bytes_eq from to) o refl named
move_grows roots account from base to true false o named = stays 0 account
move_grows roots account from base to false c o named = stays 0 account

step_grows : (roots : List RootSpec) (account : Account) (call : Call) → Grows (added call) account (step roots account call)
step_grows roots account (Deliver mailbox octets flags) =
    delivery_grows account mailbox octets flags (account.deliveries + 1) (has_mailbox account mailbox) (over_in roots account mailbox octets)
step_grows roots account (Check octets) = stays 0 account
step_grows roots account (Remove mailbox base) = removal_grows account mailbox base (has_mailbox account mailbox) (named_message mailbox base account.messages) refl
step_grows roots account (Mark mailbox base flags) = mark_grows account mailbox base flags (has_mailbox account mailbox) (named_message mailbox base account.messages)
step_grows roots account (Move from base to) =
    move_grows roots account from base to (has_mailbox account from) (has_mailbox account to) (named_message from base account.messages) refl
step_grows roots account (Quota name) = stays 0 account
step_grows roots account (SetLimits name limits) = record { epoch = refl; mailboxes = refl; more_octets = omega arith; more_messages = omega arith }
step_grows roots account (Roots mailbox) = stays 0 account
step_grows roots account (Status mailbox) = stays 0 account
step_grows roots account ScanBegin = stays 0 account
step_grows roots account (ScanPart index) = stays 0 account
step_grows roots account (Install generation) = stays 0 account

-- no call changes the epoch or the mailboxes
pub step_epoch : (roots : List RootSpec) (account : Account) (call : Call) → (step roots account call).epoch ≡ account.epoch
step_epoch roots account call = (step_grows roots account call).epoch

pub step_mailboxes : (roots : List RootSpec) (account : Account) (call : Call) → (step roots account call).mailboxes ≡ account.mailboxes
step_mailboxes roots account call = (step_grows roots account call).mailboxes

after_epoch : (roots : List RootSpec) (account : Account) (call : Call) (fault : Bool) → (cond fault account (step roots account call)).epoch ≡ account.epoch
after_epoch roots account call true = refl
after_epoch roots account call false = step_epoch roots account call

pub epoch_stays : (roots : List RootSpec) (account : Account) (history : List Entry) → (replay roots account history).epoch ≡ account.epoch
epoch_stays roots account [] = refl
epoch_stays roots account (entry ∷ history) = epoch_stays roots (account_after roots account entry) history ∙ after_epoch roots account entry.call entry.fault

added_few : (call : Call) → MayBeServed call → added call ≤ 67108864
added_few (Deliver mailbox octets flags) served = served
added_few (Check octets) served = omega arith
added_few (Remove mailbox base) served = omega arith
added_few (Mark mailbox base flags) served = omega arith
added_few (Move from base to) served = omega arith
added_few (Quota name) served = omega arith
added_few (SetLimits name limits) served = omega arith
added_few (Roots mailbox) served = omega arith
added_few (Status mailbox) served = omega arith
added_few ScanBegin served = omega arith
added_few (ScanPart index) served = omega arith
added_few (Install generation) served = omega arith

one_more : (is : Bool) (before after entries : ℕ) → after ≡ before + cond is 1 0 → before ≤ entries → after ≤ entries + 1
one_more true before after entries e few = omega arith
one_more false before after entries e few = omega arith

-- one call more
step_orderly : (roots : List RootSpec) (account : Account) (call : Call) (entries : ℕ) → MayBeServed call → entries < 2 ^ 63 → IsOrderly entries account
    → IsOrderly (entries + 1) (step roots account call)
step_orderly roots account call entries served small is =
    let few = added_few call served in
    let grows = step_grows roots account call in
    let names = step_named roots account call (omega (arith, is.deliveries)) (record { apart = is.apart; unused = is.unused }) in
    let counts = call_counts roots account call in
    record {
      octets = omega (arith, is.octets, grows.more_octets);
      count = omega (arith, is.count, grows.more_messages);
      apart = names.named.apart;
      unused = names.named.unused;
      deliveries = omega (arith, is.deliveries, names.few);
      generation = one_more (is_change call (reply_of roots account call)) account.generation _ entries counts.generation_is is.generation;
    }

-- one entry more
after_orderly : (roots : List RootSpec) (account : Account) (call : Call) (fault : Bool) (entries : ℕ) → MayBeServed call → entries < 2 ^ 63 → IsOrderly entries account
    → IsOrderly (entries + 1) (cond fault account (step roots account call))
after_orderly roots account call true entries served small is = record {
  octets = omega (arith, is.octets);
  count = omega (arith, is.count);
  apart = is.apart;
  unused = is.unused;
  deliveries = omega (arith, is.deliveries);
  generation = omega (arith, is.generation);
}
after_orderly roots account call false entries served small is = step_orderly roots account call entries served small is

-- a history after so many entries
orderly_from : (roots : List RootSpec) (account : Account) (history : List Entry) (entries : ℕ) → AreServed history → entries + length history < 2 ^ 63 → IsOrderly entries account
    → IsOrderly (entries + length history) (replay roots account history)
orderly_from roots account [] entries served small is = subst (λ n. IsOrderly n account) (sym (add-zero entries)) is
orderly_from roots account (entry ∷ history) entries served small is =
    let after = account_after roots account entry in
    let long : entries + 1 + length history ≡ entries + length (entry ∷ history) = omega arith in
    subst (λ n. IsOrderly n (replay roots after history)) long
    (orderly_from roots after history (entries + 1) served.1 (omega arith) (after_orderly roots account entry.call entry.fault entries served.0 (omega arith) is))

pub replay_orderly : (roots : List RootSpec) (opening : Account) (history : List Entry) → AreServed history → length history < 2 ^ 63 → IsOrderly 0 opening
    → IsOrderly (length history) (replay roots opening history)
replay_orderly roots opening history served small is =
    subst (λ n. IsOrderly n (replay roots opening history)) (zero-add (length history)) (orderly_from roots opening history 0 served (omega arith) is)

pub accounts_stay_orderly : AccountsStayOrderly
accounts_stay_orderly = replay_orderly
