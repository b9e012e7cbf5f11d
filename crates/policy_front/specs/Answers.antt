-- The answers of a session (Postfix, SMTPD_POLICY_README). The words for smtpd_access_policy are
-- replies of access(5) with the enhanced codes of RFC 3463; the others are this project's own.
use Rattle.std.specs.Prelude.{ℕ, List, ◌++◌, codes}
use Rattle.std.specs.Fmt.{decimal}
use Rattle.quota_units.specs.declared.resource.Resource.{Resource}
use Rattle.quota_units.specs.declared.resource.Resource.TheVariants.{Storage, Message}
use Rattle.account_core.specs.Delivering.{delivered_base}
use Rattle.account_core.specs.declared.calls.Reply.TheVariants.{NoMailbox, Over, Delivered, Fits, NoMessage, Removed, Marked, NameTaken, Moved}
use Rattle.account_core.specs.History.{Answer, replied, journal_full}
use Rattle.policy_front.specs.declared.kind.Kind.{Kind}
use Rattle.policy_front.specs.declared.kind.Kind.TheVariants.{Check, Deliver, Remove, Mark, Move}

-- the answer in these words: one line, and an empty line
abbrev pub action : List ℕ → List ℕ
action words = codes "action=" ++ (words ++ codes "\n\n")

abbrev pub dunno : List ℕ
dunno = codes "DUNNO"

abbrev pub no_account : List ℕ
no_account = codes "no-account"

abbrev pub no_mailbox : List ℕ
no_mailbox = codes "no-mailbox"

abbrev pub no_message : List ℕ
no_message = codes "no-message"

abbrev pub done : List ℕ
done = codes "done"

-- the store failed
abbrev pub unavailable : List ℕ
unavailable = codes "unavailable"

-- the account's history is full
abbrev pub full : List ℕ
full = codes "journal-full"

abbrev pub resource_word : Resource → List ℕ
resource_word Storage = codes "STORAGE"
resource_word Message = codes "MESSAGE"

-- this resource of the root of this number would be above its limit
abbrev pub over : ℕ → Resource → List ℕ
over root resource = codes "over " ++ (decimal root ++ (codes " " ++ resource_word resource))

-- the words that answer a request by the answer to its call. A request's call gets no reply of
-- another kind than its own; such a reply is written as a failed store.
abbrev pub check_words : Answer → List ℕ
check_words (replied Fits) = dunno
check_words (replied (Over root resource)) = codes "552 5.2.2 Mailbox full"
check_words journal_full = codes "452 4.3.1 Journal full"
check_words answer = codes "451 4.3.0 Store unavailable"

abbrev pub deliver_words : (epoch : ℕ) → Answer → List ℕ
deliver_words epoch (replied NoMailbox) = no_mailbox
deliver_words epoch (replied (Over root resource)) = over root resource
deliver_words epoch (replied (Delivered number)) =
    codes "delivered " ++ delivered_base epoch number
deliver_words epoch journal_full = full
deliver_words epoch answer = unavailable

abbrev pub remove_words : Answer → List ℕ
remove_words (replied NoMailbox) = no_mailbox
remove_words (replied NoMessage) = no_message
remove_words (replied Removed) = done
remove_words journal_full = full
remove_words answer = unavailable

abbrev pub mark_words : Answer → List ℕ
mark_words (replied NoMailbox) = no_mailbox
mark_words (replied NoMessage) = no_message
mark_words (replied Marked) = done
mark_words journal_full = full
mark_words answer = unavailable

abbrev pub move_words : Answer → List ℕ
move_words (replied NoMailbox) = no_mailbox
move_words (replied NoMessage) = no_message
move_words (replied NameTaken) = codes "name-taken"
move_words (replied (Over root resource)) = over root resource
move_words (replied Moved) = done
move_words journal_full = full
move_words answer = unavailable

-- the words that answer a request of this kind; deliveries are named after the table's epoch
abbrev pub answer_words : (epoch : ℕ) → Kind → Answer → List ℕ
answer_words epoch Check answer = check_words answer
answer_words epoch Deliver answer = deliver_words epoch answer
answer_words epoch Remove answer = remove_words answer
answer_words epoch Mark answer = mark_words answer
answer_words epoch Move answer = move_words answer

abbrev pub answer_text : (epoch : ℕ) → Kind → Answer → List ℕ
answer_text epoch kind answer = action (answer_words epoch kind answer)
