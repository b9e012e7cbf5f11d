-- The generation of a history, and what equal generations tell.
use Rattle.std.proofs.Common.{◌≡◌, ◌≤◌, length, ℕ, ◌+◌, Bool, true, false, cond, not, List, [], ◌∷◌, ◌++◌, map, Option, Some, None, refl, sym, ap, ◌∙◌, arith, add-zero, zero-add, sum_by, bytes_eq, is_some, codes, slice_get, nat_eq}
use Rattle.std.proofs.lemmas.List.Sums.{sum_by-cons}
use Rattle.quota_units.specs.declared.flags.Flags.{Flags}
use Rattle.quota_units.specs.declared.resource.Resource.{Resource}
use Rattle.quota_roots.specs.declared.root.RootSpec.{RootSpec}
use Rattle.quota_roots.specs.Governing.{gaining, governs}
use Rattle.quota_units.proofs.SumLemmas.{same_totals}
use Rattle.account_core.specs.declared.calls.Call.{Call}
use Rattle.account_core.specs.declared.calls.Call.TheVariants.{Deliver, Check, Remove, Mark, Move, Quota, SetLimits, Roots, Status, ScanBegin, ScanPart, Install}
use Rattle.account_core.specs.declared.calls.Entry.{Entry}
use Rattle.account_core.specs.declared.calls.Reply.{Reply}
use Rattle.account_core.specs.declared.calls.Reply.TheVariants.{NoMailbox, Fits, Delivered, Removed, Marked, NameTaken, Moved, Changed, Installed}
use Rattle.account_core.specs.declared.calls.RootRow.{RootRow}
use Rattle.quota_units.specs.Limiting.{LimitNumbers}
use Rattle.account_core.specs.Account.{Account, Message, usage}
use Rattle.account_core.specs.Messages.{is_message, named_message, changed, with_flags}
use Rattle.account_core.specs.Machine.{has_mailbox, if_message, usages, over_of, over_in, over_or, named, quota_reply, limits_reply, reply_of, step, delivered_after, removed_after, marked_after, moved_after, moving_reply}
use Rattle.account_core.specs.Scanning.{status_of, part_of}
use Rattle.account_core.specs.History.{replay, account_after}
use Rattle.account_core.specs.Generations.{is_change, changes, generation, unflagged, GenerationIsCounted, EqualGenerationEqualUsage}

-- the mark of a message leaves all but its flags
unflagged_marked_step : (flags : Flags) (b : Bool) (first : Message) (rest rest' : List Message) → map unflagged rest' ≡ map unflagged rest
    → map unflagged (cond b (with_flags flags first ∷ rest) (first ∷ rest')) ≡ unflagged first ∷ map unflagged rest
unflagged_marked_step flags true first rest rest' more = refl
unflagged_marked_step flags false first rest rest' more = ap (λ ms. unflagged first ∷ ms) more

unflagged_marked : (flags : Flags) (mailbox base : List ℕ) (messages : List Message) → map unflagged (changed mailbox base (with_flags flags) messages) ≡ map unflagged messages
unflagged_marked flags mailbox base [] = refl
unflagged_marked flags mailbox base (first ∷ messages) =
    unflagged_marked_step flags (is_message mailbox base first) first messages (changed mailbox base (with_flags flags) messages) (unflagged_marked flags mailbox base messages)

-- What one call does, where it is answered so: the number of changes rises by one for a change, and else the messages stay but for flags.
pub record Counts (call : Call) (given : Reply) (account account' : Account) : Type 0 where
  pub generation_is : account'.generation ≡ account.generation + cond (is_change call given) 1 0
  pub messages_are : is_change call given ≡ false → map unflagged account'.messages ≡ map unflagged account.messages

stays : (call : Call) (given : Reply) (account : Account) → is_change call given ≡ false → Counts call given account account
stays call given account none = record {
  generation_is = sym (ap (λ b. account.generation + cond b 1 0) none ∙ add-zero account.generation);
  messages_are = λ _. refl;
}

delivery_counts : (account : Account) (mailbox : List ℕ) (octets : ℕ) (flags : Flags) (number : ℕ) (b : Bool) (o : Option (ℕ × Resource))
    → Counts (Deliver mailbox octets flags) (cond b (over_or o (Delivered number)) NoMailbox) account (delivered_after account mailbox octets flags (cond b (over_or o (Delivered number)) NoMailbox))
delivery_counts account mailbox octets flags number true None = record { generation_is = refl; messages_are = λ e. absurd (cc) }
delivery_counts account mailbox octets flags number true (Some place) = stays _ _ account refl
delivery_counts account mailbox octets flags number false o = stays _ _ account refl

removal_counts : (account : Account) (mailbox base : List ℕ) (b : Bool) (o : Option Message)
    → Counts (Remove mailbox base) (cond b (if_message o Removed) NoMailbox) account (removed_after account mailbox base (cond b (if_message o Removed) NoMailbox))
removal_counts account mailbox base true None = stays _ _ account refl
removal_counts account mailbox base true (Some message) = record { generation_is = refl; messages_are = λ e. absurd (cc) }
removal_counts account mailbox base false o = stays _ _ account refl

mark_counts : (account : Account) (mailbox base : List ℕ) (flags : Flags) (b : Bool) (o : Option Message)
    → Counts (Mark mailbox base flags) (cond b (if_message o Marked) NoMailbox) account (marked_after account mailbox base flags (cond b (if_message o Marked) NoMailbox))
mark_counts account mailbox base flags true None = stays _ _ account refl
mark_counts account mailbox base flags true (Some message) =
    record { generation_is = sym (add-zero account.generation); messages_are = λ _. unflagged_marked flags mailbox base account.messages }
mark_counts account mailbox base flags false o = stays _ _ account refl

-- a move, by what decides its answer: the mailboxes, the message, whether they are one mailbox, the name there, and the limits
moved_as : (account : Account) (from base to : List ℕ) (same : Bool) → bytes_eq from to ≡ same → Counts (Move from base to) Moved account (moved_after account from base to Moved)
moved_as account from base to true is = record {
  generation_is = ap (λ b. (let a : Account = cond b account (record account { messages = changed from base (λ m. record m { mailbox = to }) account.messages; generation = account.generation + 1 }) in a).generation) is
      ∙ sym (ap (λ b. account.generation + cond (not b) 1 0) is ∙ add-zero account.generation);
  messages_are = λ _. ap (λ b. map unflagged (let a : Account = cond b account (record account { messages = changed from base (λ m. record m { mailbox = to }) account.messages; generation = account.generation + 1 }) in a).messages) is;
}
moved_as account from base to false is = record {
  generation_is = ap (λ b. (let a : Account = cond b account (record account { messages = changed from base (λ m. record m { mailbox = to }) account.messages; generation = account.generation + 1 }) in a).generation) is
      ∙ sym (ap (λ b. account.generation + cond (not b) 1 0) is);
  messages_are = λ none. absurd (let e : true ≡ false = sym (ap not is) ∙ none in cc);
}

placing_counts : (account : Account) (from base to : List ℕ) (taken : Bool) (o : Option (ℕ × Resource))
    → Counts (Move from base to) (cond taken NameTaken (over_or o Moved)) account (moved_after account from base to (cond taken NameTaken (over_or o Moved)))
placing_counts account from base to true o = stays _ _ account refl
placing_counts account from base to false None = moved_as account from base to (bytes_eq from to) refl
placing_counts account from base to false (Some place) = stays _ _ account refl

moving_counts : (roots : List RootSpec) (account : Account) (from base to : List ℕ) (same : Bool) (o : Option Message) → bytes_eq from to ≡ same
    → Counts (Move from base to) (moving_reply roots account from base to o) account (moved_after account from base to (moving_reply roots account from base to o))
moving_counts roots account from base to same None is = stays _ _ account refl
moving_counts roots account from base to true (Some message) is = rw is (moved_as account from base to true is)
moving_counts roots account from base to false (Some message) is =
    rw is (placing_counts account from base to (is_some (named_message to base account.messages)) (over_of roots account (gaining roots from to) message.octets))

move_counts : (roots : List RootSpec) (account : Account) (from base to : List ℕ) (b c : Bool) (o : Option Message)
    → Counts (Move from base to) (cond b (cond c (moving_reply roots account from base to o) NoMailbox) NoMailbox) account
    (moved_after account from base to (cond b (cond c (moving_reply roots account from base to o) NoMailbox) NoMailbox))
move_counts roots account from base to true true o = moving_counts roots account from base to (bytes_eq from to) o refl
move_counts roots account from base to true false o = stays _ _ account refl
move_counts roots account from base to false c o = stays _ _ account refl

check_no : (call : Call) (given : Reply) (o : Option (ℕ × Resource)) → is_change call given ≡ false → is_change call (over_or o given) ≡ false
check_no call given None none = none
check_no call given (Some place) none = refl

quota_no : (call : Call) (o : Option (RootSpec × RootRow)) → is_change call (quota_reply o) ≡ false
quota_no call None = refl
quota_no call (Some (root, row)) = refl

limits_no : (call : Call) (limits : LimitNumbers) (o : Option (RootSpec × RootRow)) → is_change call (limits_reply limits o) ≡ false
limits_no call limits None = refl
limits_no call limits (Some (root, row)) = refl

cond_no : (call : Call) (b : Bool) (given other : Reply) → is_change call given ≡ false → is_change call other ≡ false → is_change call (cond b given other) ≡ false
cond_no call true given other none none' = none
cond_no call false given other none none' = none'

part_no : (call : Call) (account : Account) (o : Option (List ℕ)) → is_change call (part_of account o) ≡ false
part_no call account None = refl
part_no call account (Some mailbox) = refl

pub call_counts : (roots : List RootSpec) (account : Account) (call : Call) → Counts call (reply_of roots account call) account (step roots account call)
call_counts roots account (Deliver mailbox octets flags) =
    delivery_counts account mailbox octets flags (account.deliveries + 1) (has_mailbox account mailbox) (over_in roots account mailbox octets)
call_counts roots account (Check octets) = stays _ _ account (check_no (Check octets) Fits (over_in roots account (codes "INBOX") octets) refl)
call_counts roots account (Remove mailbox base) = removal_counts account mailbox base (has_mailbox account mailbox) (named_message mailbox base account.messages)
call_counts roots account (Mark mailbox base flags) = mark_counts account mailbox base flags (has_mailbox account mailbox) (named_message mailbox base account.messages)
call_counts roots account (Move from base to) =
    move_counts roots account from base to (has_mailbox account from) (has_mailbox account to) (named_message from base account.messages)
call_counts roots account (Quota name) = stays _ _ account (quota_no (Quota name) (named roots account name))
call_counts roots account (SetLimits name limits) = record {
  generation_is = sym (ap (λ b. account.generation + cond b 1 0) (limits_no (SetLimits name limits) limits (named roots account name)) ∙ add-zero account.generation);
  messages_are = λ _. refl;
}
call_counts roots account (Roots mailbox) = stays _ _ account refl
call_counts roots account (Status mailbox) = stays _ _ account (cond_no (Status mailbox) (has_mailbox account mailbox) (status_of mailbox account.messages) NoMailbox refl refl)
call_counts roots account ScanBegin = stays _ _ account refl
call_counts roots account (ScanPart index) = stays _ _ account (part_no (ScanPart index) account (slice_get account.mailboxes index))
call_counts roots account (Install generation) =
    stays _ _ account (cond_no (Install generation) (nat_eq generation account.generation) (Installed (usages roots account)) (Changed generation account.generation) refl refl)

after_generation : (roots : List RootSpec) (account : Account) (call : Call) (fault : Bool)
    → (let a : Account = cond fault account (step roots account call) in a).generation
    ≡ account.generation + cond (cond fault false (is_change call (reply_of roots account call))) 1 0
after_generation roots account call true = sym (add-zero account.generation)
after_generation roots account call false = (call_counts roots account call).generation_is

after_messages : (roots : List RootSpec) (account : Account) (call : Call) (fault : Bool) → cond fault false (is_change call (reply_of roots account call)) ≡ false
    → map unflagged (let a : Account = cond fault account (step roots account call) in a).messages ≡ map unflagged account.messages
after_messages roots account call true none = refl
after_messages roots account call false none = (call_counts roots account call).messages_are none

-- the account's number of changes, after these entries
pub generation_kept : (roots : List RootSpec) (account : Account) (entries : List Entry) → (replay roots account entries).generation ≡ account.generation + generation roots account entries
generation_kept roots account [] = sym (add-zero account.generation)
generation_kept roots account (entry ∷ entries) =
    let one = after_generation roots account entry.call entry.fault in
    let more = generation_kept roots (account_after roots account entry) entries in
    omega arith

no_more : (b : Bool) (n : ℕ) → cond b 1 0 + n ≡ 0 → (b ≡ false) × (n ≡ 0)
no_more true n none = absurd (omega arith)
no_more false n none = (refl, omega arith)

-- without a change the messages stay, but for flags
pub messages_kept : (roots : List RootSpec) (account : Account) (entries : List Entry) → generation roots account entries ≡ 0
    → map unflagged (replay roots account entries).messages ≡ map unflagged account.messages
messages_kept roots account [] none = refl
messages_kept roots account (entry ∷ entries) none =
    let parts = no_more (changes roots account entry) (generation roots (account_after roots account entry) entries) none in
    messages_kept roots (account_after roots account entry) entries parts.1 ∙ after_messages roots account entry.call entry.fault parts.0

replay_both : (roots : List RootSpec) (account : Account) (entries more : List Entry) → replay roots account (entries ++ more) ≡ replay roots (replay roots account entries) more
replay_both roots account [] more = refl
replay_both roots account (entry ∷ entries) more = replay_both roots (account_after roots account entry) entries more

changes_both : (roots : List RootSpec) (account : Account) (entries more : List Entry)
    → generation roots account (entries ++ more) ≡ generation roots account entries + generation roots (replay roots account entries) more
changes_both roots account [] more = sym (zero-add (generation roots account more))
changes_both roots account (entry ∷ entries) more = let rest = changes_both roots (account_after roots account entry) entries more in omega arith

-- one entry more
pub generation_push : (roots : List RootSpec) (opening : Account) (history : List Entry) (entry : Entry)
    → generation roots opening (history ++ entry ∷ []) ≡ generation roots opening history + cond (changes roots (replay roots opening history) entry) 1 0
generation_push roots opening history entry =
    changes_both roots opening history (entry ∷ [])
    ∙ ap (λ n. generation roots opening history + n) (add-zero (cond (changes roots (replay roots opening history) entry) 1 0))

few_step : (b : Bool) (n entries : ℕ) → n ≤ entries → cond b 1 0 + n ≤ entries + 1
few_step true n entries few = omega arith
few_step false n entries few = omega arith

-- no more changes than entries
pub changes_few : (roots : List RootSpec) (account : Account) (entries : List Entry) → generation roots account entries ≤ length entries
changes_few roots account [] = omega arith
changes_few roots account (entry ∷ entries) =
    let one = few_step (changes roots account entry) (generation roots (account_after roots account entry) entries) (length entries) (changes_few roots (account_after roots account entry) entries) in
    omega arith

sum_unflagged : (f : List ℕ × List ℕ × ℕ → ℕ) (messages : List Message) → sum_by f (map unflagged messages) ≡ sum_by (λ (m : Message). f (unflagged m)) messages
sum_unflagged f [] = refl
sum_unflagged f (m ∷ messages) =
    sum_by-cons f (unflagged m) (map unflagged messages) ∙ ap (λ n. f (unflagged m) + n) (sum_unflagged f messages) ∙ sym (sum_by-cons (λ (x : Message). f (unflagged x)) m messages)

-- what a root counts is told by the messages without their flags
counted_same : (f : List ℕ × List ℕ × ℕ → ℕ) (messages others : List Message) → map unflagged messages ≡ map unflagged others
    → sum_by (λ (m : Message). f (unflagged m)) messages ≡ sum_by (λ (m : Message). f (unflagged m)) others
counted_same f messages others same = sym (sum_unflagged f messages) ∙ ap (sum_by f) same ∙ sum_unflagged f others

pub usage_same : (root : RootSpec) (account other : Account) → map unflagged account.messages ≡ map unflagged other.messages → usage root account ≡ usage root other
usage_same root account other same =
    same_totals (counted_same (λ k. cond (governs root k.0) k.2 0) account.messages other.messages same) (counted_same (λ k. cond (governs root k.0) 1 0) account.messages other.messages same)

pub generation_is_counted : GenerationIsCounted
generation_is_counted roots opening history = generation_kept roots opening history

same_messages : (roots : List RootSpec) (account : Account) (earlier rest later : List Entry) → earlier ++ rest ≡ later → generation roots account earlier ≡ generation roots account later
    → map unflagged (replay roots account earlier).messages ≡ map unflagged (replay roots account later).messages
same_messages roots account earlier rest later e same =
    let both = changes_both roots account earlier rest in
    let whole : generation roots account (earlier ++ rest) ≡ generation roots account later = ap (generation roots account) e in
    let none : generation roots (replay roots account earlier) rest ≡ 0 = omega arith in
    sym (messages_kept roots (replay roots account earlier) rest none)
    ∙ ap (λ (a : Account). map unflagged a.messages) (sym (replay_both roots account earlier rest) ∙ ap (replay roots account) e)

pub equal_generation_equal_usage : EqualGenerationEqualUsage
equal_generation_equal_usage roots opening earlier later (rest, e) same =
    let agree = same_messages roots opening earlier rest later e same in
    (agree, λ root. usage_same root (replay roots opening earlier) (replay roots opening later) agree)
