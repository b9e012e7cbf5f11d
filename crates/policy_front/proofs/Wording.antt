-- Each answer is one action.
use Rattle.std.proofs.Common.{◌≡◌, ◌≢◌, ℕ, zero, suc, ◌+◌, ◌/◌, ◌%◌, Bool, true, false, not, eqb, ltb, cond, List, [], ◌∷◌, ◌++◌, length, codes, decimal, Option, Some, None, option_and_then, refl, subst, arith, if◌then◌else◌}
use Rattle.std.specs.List.{list_all}
use Rattle.std.specs.Fmt.{digits, digits_onto, digit_glyph}
use Rattle.std.proofs.lemmas.Bool.Decides.{nat_tests}
use Rattle.std.proofs.lemmas.Bool.{and_parts}
use Rattle.wire_io.specs.Lines.{HasNoEnd}
use Rattle.wire_io.specs.declared.ends.After.{After}
use Rattle.wire_io.specs.declared.ends.After.TheVariants.{Open, Closing, Stopping}
use Rattle.wire_io.specs.Work.{Work, say, Does}
use Rattle.wire_io.proofs.LineLemmas.{HasNoEnd-append}
use Rattle.quota_units.specs.declared.resource.Resource.{Resource}
use Rattle.quota_units.specs.declared.resource.Resource.TheVariants.{Storage, Message}
use Rattle.quota_roots.specs.MailboxNames.{canonical}
use Rattle.accounts_file.specs.Hosts.{Hosts, named, receiver}
use Rattle.account_core.specs.Delivering.{delivered_base}
use Rattle.account_core.specs.declared.calls.Call.{Call}
use Rattle.account_core.specs.declared.calls.Call.TheVariants.{Check as CheckCall, Deliver as DeliverCall, Remove as RemoveCall, Mark as MarkCall, Move as MoveCall}
use Rattle.account_core.specs.declared.calls.Reply.TheVariants.{NoMailbox, Over, Delivered, Fits, NoMessage, Removed, Marked, NameTaken, Moved}
use Rattle.account_core.specs.History.{Answer, replied, store, journal_full}
use Rattle.desk.specs.Asking.{DeskCall}
use Rattle.policy_front.specs.Requests.{Request, check, deliver, remove, mark, move, stop, other, bad}
use Rattle.policy_front.specs.Answers.{action, dunno, no_account, no_mailbox, no_message, over, resource_word, answer_words}
use Rattle.front_core.specs.Works.{is_too_long}
use Rattle.policy_front.specs.Policy.{answers, if_mailbox, if_message, on_account, asks, work}
use Rattle.policy_front.specs.Policy.{check_work, deliver_work, remove_work, mark_work, move_work}
use Rattle.policy_front.specs.Wording.{IsAction, RequestsHaveActions}
use Rattle.policy_front.specs.declared.kind.Kind.{Kind}
use Rattle.policy_front.specs.declared.kind.Kind.TheVariants.{Check, Deliver, Remove, Mark, Move}

-- texts that are written out
abbrev is_other : ℕ → Bool
is_other b = not (eqb b 10)

is_no_end : (b : ℕ) → is_other b ≡ true → b ≢ 10
is_no_end b e = grind (arith, nat_tests)

fixed : (text : List ℕ) → list_all is_other text ≡ true → HasNoEnd text
fixed [] e = tt
fixed (b ∷ bs) e = let parts = and_parts (is_other b) (list_all is_other bs) e in (is_no_end b parts.0, fixed bs parts.1)

-- numbers
glyph_no_end : (d : ℕ) → digit_glyph false d ≢ 10
glyph_no_end d = go (ltb d 10)
  where
    go : (c : Bool) → cond c (48 + d) (87 + d) ≢ 10
    go true = λ e. absurd (omega arith)
    go false = λ e. absurd (omega arith)

digits_no_end : (k n : ℕ) (acc : List ℕ) → HasNoEnd acc → HasNoEnd (digits_onto k 10 false n acc)
digits_no_end zero n acc none = none
digits_no_end (suc k) n acc none = go (eqb (n / 10) 0) (digits_no_end k (n / 10) (digit_glyph false (n % 10) ∷ acc) (glyph_no_end (n % 10), none))
  where
    go : (c : Bool) → HasNoEnd (digits_onto k 10 false (n / 10) (digit_glyph false (n % 10) ∷ acc))
        → HasNoEnd (if c then digit_glyph false (n % 10) ∷ acc else digits_onto k 10 false (n / 10) (digit_glyph false (n % 10) ∷ acc))
    go true later = (glyph_no_end (n % 10), none)
    go false later = later

digits_are : (n : ℕ) → digits_onto 64 10 false n [] ≡ decimal n
unfolding digits
digits_are n = refl

decimal_no_end : (n : ℕ) → HasNoEnd (decimal n)
decimal_no_end n = subst HasNoEnd (digits_are n) (digits_no_end 64 n [] tt)

-- the words of each answer
resource_no_end : (resource : Resource) → HasNoEnd (resource_word resource)
resource_no_end Storage = fixed (codes "STORAGE") refl
resource_no_end Message = fixed (codes "MESSAGE") refl

over_no_end : (root : ℕ) (resource : Resource) → HasNoEnd (over root resource)
over_no_end root resource =
    HasNoEnd-append (codes "over ") (decimal root ++ (codes " " ++ resource_word resource)) (fixed (codes "over ") refl)
    (HasNoEnd-append (decimal root) (codes " " ++ resource_word resource) (decimal_no_end root)
    (HasNoEnd-append (codes " ") (resource_word resource) (fixed (codes " ") refl) (resource_no_end resource)))

base_no_end : (epoch number : ℕ) → HasNoEnd (delivered_base epoch number)
base_no_end epoch number =
    HasNoEnd-append ((decimal epoch ++ codes ".") ++ decimal number) (codes ".quotad")
    (HasNoEnd-append (decimal epoch ++ codes ".") (decimal number)
    (HasNoEnd-append (decimal epoch) (codes ".") (decimal_no_end epoch) (fixed (codes ".") refl)) (decimal_no_end number)) (fixed (codes ".quotad") refl)

unavailable_no_end : HasNoEnd (codes "unavailable")
unavailable_no_end = fixed (codes "unavailable") refl

full_no_end : HasNoEnd (codes "journal-full")
full_no_end = fixed (codes "journal-full") refl

no_mailbox_no_end : HasNoEnd no_mailbox
no_mailbox_no_end = fixed no_mailbox refl

no_message_no_end : HasNoEnd no_message
no_message_no_end = fixed no_message refl

done_no_end : HasNoEnd (codes "done")
done_no_end = fixed (codes "done") refl

words_no_end : (epoch : ℕ) (kind : Kind) (answer : Answer) → HasNoEnd (answer_words epoch kind answer)
words_no_end epoch Check (replied Fits) = fixed dunno refl
words_no_end epoch Check (replied (Over root resource)) = fixed (codes "552 5.2.2 Mailbox full") refl
words_no_end epoch Check (replied given) = fixed (codes "451 4.3.0 Store unavailable") refl
words_no_end epoch Check store = fixed (codes "451 4.3.0 Store unavailable") refl
words_no_end epoch Check journal_full = fixed (codes "452 4.3.1 Journal full") refl
words_no_end epoch Deliver (replied NoMailbox) = no_mailbox_no_end
words_no_end epoch Deliver (replied (Over root resource)) = over_no_end root resource
words_no_end epoch Deliver (replied (Delivered number)) =
    HasNoEnd-append (codes "delivered ") (delivered_base epoch number) (fixed (codes "delivered ") refl) (base_no_end epoch number)
words_no_end epoch Deliver (replied given) = unavailable_no_end
words_no_end epoch Deliver store = unavailable_no_end
words_no_end epoch Deliver journal_full = full_no_end
words_no_end epoch Remove (replied NoMailbox) = no_mailbox_no_end
words_no_end epoch Remove (replied NoMessage) = no_message_no_end
words_no_end epoch Remove (replied Removed) = done_no_end
words_no_end epoch Remove (replied given) = unavailable_no_end
words_no_end epoch Remove store = unavailable_no_end
words_no_end epoch Remove journal_full = full_no_end
words_no_end epoch Mark (replied NoMailbox) = no_mailbox_no_end
words_no_end epoch Mark (replied NoMessage) = no_message_no_end
words_no_end epoch Mark (replied Marked) = done_no_end
words_no_end epoch Mark (replied given) = unavailable_no_end
words_no_end epoch Mark store = unavailable_no_end
words_no_end epoch Mark journal_full = full_no_end
words_no_end epoch Move (replied NoMailbox) = no_mailbox_no_end
words_no_end epoch Move (replied NoMessage) = no_message_no_end
words_no_end epoch Move (replied NameTaken) = fixed (codes "name-taken") refl
words_no_end epoch Move (replied (Over root resource)) = over_no_end root resource
words_no_end epoch Move (replied Moved) = done_no_end
words_no_end epoch Move (replied given) = unavailable_no_end
words_no_end epoch Move store = unavailable_no_end
words_no_end epoch Move journal_full = full_no_end

-- work that ends in an action, whatever the answers
abbrev IsActing : Work DeskCall Answer → Type 0
IsActing work = (log : List (DeskCall × Answer)) (text : List ℕ) (after : After) → Does work log text after → IsAction text

said : (words : List ℕ) (word : After) → HasNoEnd words → IsActing (say (action words) word)
said words word none [] text after does = (words, none, does.0)
said words word none (entry ∷ log) text after does = absurd does

asked : (epoch : ℕ) (kind : Kind) (account : ℕ) (call : Call) (octets : List ℕ) → IsActing (asks epoch kind account call octets)
asked epoch kind account call octets [] text after does = absurd does
asked epoch kind account call octets (entry ∷ []) text after does = (answer_words epoch kind entry.1, words_no_end epoch kind entry.1, does.1.0)
asked epoch kind account call octets (entry ∷ more ∷ log) text after does = absurd does.1

short_or_said : (long : Bool) (words : List ℕ) (own : Work DeskCall Answer) → HasNoEnd words → IsActing own → IsActing (if long then answers words else own)
short_or_said true words own none acts = said words Open none
short_or_said false words own none acts = acts

mailbox_short : (name : List ℕ) (own : Work DeskCall Answer) → IsActing own → IsActing (if_mailbox name own)
mailbox_short name own acts = short_or_said (is_too_long name) no_mailbox own no_mailbox_no_end acts

name_short : (name : List ℕ) (own : Work DeskCall Answer) → IsActing own → IsActing (if_message name own)
name_short name own acts = short_or_said (is_too_long name) no_message own no_message_no_end acts

found : (words : List ℕ) (next : ℕ → Work DeskCall Answer) → HasNoEnd words → ((account : ℕ) → IsActing (next account)) → (account : Option ℕ) → IsActing (on_account words next account)
found words next none acts (Some account) = acts account
found words next none acts None = said words Open none

named_found : (hosts : Hosts) (owner : List ℕ) (next : ℕ → Work DeskCall Answer) → ((account : ℕ) → IsActing (next account)) → IsActing (on_account no_account next (named hosts.accounts owner))
named_found hosts owner next acts = found no_account next (fixed no_account refl) acts (named hosts.accounts owner)

acting : (hosts : Hosts) (request : Request) → IsActing (work hosts request)
acting hosts (check recipient size) =
    found dunno (λ account. check_work hosts.epoch account size) (fixed dunno refl)
    (λ account. asked hosts.epoch Check account (CheckCall size) []) (option_and_then (receiver hosts.accounts) recipient)
acting hosts (deliver owner mailbox flags message) =
    let folder = canonical mailbox in
    named_found hosts owner (λ account. deliver_work hosts.epoch account folder flags message) (λ account.
    let call = DeliverCall folder (length message) flags in
    mailbox_short folder (asks hosts.epoch Deliver account call message) (asked hosts.epoch Deliver account call message))
acting hosts (remove owner mailbox name) =
    let folder = canonical mailbox in
    named_found hosts owner (λ account. remove_work hosts.epoch account folder name) (λ account.
    let call = RemoveCall folder name in
    let own = asks hosts.epoch Remove account call [] in
    mailbox_short folder (if_message name own) (name_short name own (asked hosts.epoch Remove account call [])))
acting hosts (mark owner mailbox name flags) =
    let folder = canonical mailbox in
    named_found hosts owner (λ account. mark_work hosts.epoch account folder name flags) (λ account.
    let call = MarkCall folder name flags in
    let own = asks hosts.epoch Mark account call [] in
    mailbox_short folder (if_message name own) (name_short name own (asked hosts.epoch Mark account call [])))
acting hosts (move owner mailbox name to) =
    let folder = canonical mailbox in
    let goal = canonical to in
    named_found hosts owner (λ account. move_work hosts.epoch account folder name goal) (λ account.
    let call = MoveCall folder name goal in
    let own = asks hosts.epoch Move account call [] in
    mailbox_short folder (if_mailbox goal (if_message name own)) (mailbox_short goal (if_message name own) (name_short name own (asked hosts.epoch Move account call []))))
acting hosts stop = said (codes "stopping") Stopping (fixed (codes "stopping") refl)
acting hosts other = said dunno Open (fixed dunno refl)
acting hosts bad = said (codes "bad request") Closing (fixed (codes "bad request") refl)

pub requests_have_actions : RequestsHaveActions
requests_have_actions hosts request log text after does = acting hosts request log text after does
