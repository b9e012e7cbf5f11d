-- Commands that are answered without a call.
use Rattle.std.proofs.Common.{◌≡◌, ◌<◌, ℕ, true, false, List, [], length, Option, Result, Ok, Err, IfOk, ◌⊎◌, inl, inr, lt-ltb, refl, sym, ap, ◌∙◌, subst}
use Rattle.std.proofs.lemmas.Bool.{cond-true, cond-false}
use Rattle.wire_io.specs.declared.ends.After.{After}
use Rattle.wire_io.specs.declared.ends.After.TheVariants.{Open}
use Rattle.wire_io.specs.Work.{Work, say, Does}
use Rattle.quota_units.specs.declared.memory.NoMemory.{NoMemory as OutOfMemory}
use Rattle.quota_units.specs.declared.name.NameError.{NameError}
use Rattle.quota_units.specs.declared.name.NameError.TheVariants.{TooLong as NameTooLong, NoMemory as NoNameMemory}
use Rattle.quota_units.specs.Limiting.{LimitNumbers}
use Rattle.imap_grammar.specs.declared.command.Command.TheVariants.{SetQuota, Status}
use Rattle.imap_grammar.specs.declared.command.CommandFault.{CommandFault}
use Rattle.imap_grammar.specs.declared.command.CommandFault.TheVariants.{TooLong, InvalidTag, Unknown, NotAuthenticated, AlreadyAuthenticated, Syntax, LiteralTooLarge, MessageTooLarge, NoMemory}
use Rattle.imap_grammar.specs.Faults.{tag_in}
use Rattle.imap_grammar.specs.Requests.{fault_tag}
use Rattle.imap_grammar.specs.declared.limits.AskedLimit.{AskedLimit}
use Rattle.imap_grammar.specs.declared.status.StatusItem.{StatusItem}
use Rattle.quota_roots.specs.MailboxNames.{canonical}
use Rattle.accounts_file.specs.declared.entry.AccountEntry.{AccountEntry}
use Rattle.account_core.specs.declared.calls.Call.{Call}
use Rattle.account_core.specs.declared.calls.Call.TheVariants.{SetLimits, Status as StatusCall}
use Rattle.account_core.specs.History.{Answer}
use Rattle.desk.specs.Shares.{Share}
use Rattle.desk.specs.Asking.{DeskCall}
use Rattle.desk.proofs.Logging.{log_nothing}
use Rattle.imap_front.specs.declared.asked.Refusal.{Refusal}
use Rattle.imap_front.specs.AskedLimits.{limits_asked, refusal_words}
use Rattle.imap_front.specs.Answers.{CommandKind, set_quota, status}
use Rattle.imap_front.specs.Texts.{fault_text, tagged_line, not_permitted_text, no_root_text, no_item_text, no_mailbox_text}
use Rattle.front_core.specs.Works.{is_too_long, DoesWork, LeavesWork}
use Rattle.imap_front.specs.Imap.{has_no_item, ask_for, ask_by_name, set_root, work_of}

-- a text alone
module _ {T : Type 0} (text_of : T → List ℕ) where
  pub said : (shares : List Share) (work : Work DeskCall Answer) (words : List ℕ) (result : Result T OutOfMemory) → work ≡ say words Open → IfOk result (λ t. text_of t ≡ words)
      → IfOk result (λ t. DoesWork shares shares work (text_of t) Open)
  said shares work words (Ok t) e is = ([], subst (λ w. Does w [] (text_of t) Open) (sym e) (is, refl), log_nothing shares)
  said shares work words (Err e) is f = tt

-- the same of a text that is there
pub says : (shares : List Share) (work : Work DeskCall Answer) (text words : List ℕ) (after : After) → work ≡ say words after → text ≡ words → DoesWork shares shares work text after
says shares work text words after e is = ([], subst (λ w. Does w [] text after) (sym e) (is, refl), log_nothing shares)

-- no call was made
pub leaves_nothing : (shares : List Share) (work : Work DeskCall Answer) → LeavesWork shares shares work
leaves_nothing shares work = ([], log_nothing shares, tt)

module _ (account : ℕ) (entry : AccountEntry) (tag : List ℕ) where
  -- a name of more than 255 bytes
  pub long_name : (name refusal : List ℕ) (kind : CommandKind) (call : Call) (octets : List ℕ) → 255 < length name → ask_by_name account entry name refusal kind tag call octets ≡ say refusal Open
  long_name name refusal kind call octets lt = cond-true (is_too_long name) (say refusal Open) (ask_for account entry kind tag call octets) (lt-ltb 255 (length name) lt)

  -- limits that may not be set, that are refused, or that are set
  module _ (root : List ℕ) (asked : List AskedLimit) where
    pub not_permitted : entry.admin ≡ false → work_of account entry tag (SetQuota root asked) [] ≡ say (not_permitted_text tag) Open
    not_permitted refused = cond-false entry.admin (set_root account entry tag root (limits_asked asked)) (say (not_permitted_text tag) Open) refused

    permitted : entry.admin ≡ true → work_of account entry tag (SetQuota root asked) [] ≡ set_root account entry tag root (limits_asked asked)
    permitted allowed = cond-true entry.admin (set_root account entry tag root (limits_asked asked)) (say (not_permitted_text tag) Open) allowed

    pub refused_limits : entry.admin ≡ true → (refusal : Refusal) → limits_asked asked ≡ Err refusal → work_of account entry tag (SetQuota root asked) [] ≡ say (tagged_line tag (refusal_words refusal)) Open
    refused_limits allowed refusal e = permitted allowed ∙ ap (set_root account entry tag root) e

    pub limits_given : entry.admin ≡ true → (limits : LimitNumbers) → limits_asked asked ≡ Ok limits
        → work_of account entry tag (SetQuota root asked) [] ≡ ask_by_name account entry root (no_root_text tag) set_quota tag (SetLimits root limits) []
    limits_given allowed limits e = permitted allowed ∙ ap (set_root account entry tag root) e

  -- items that this service does not have, or has
  module _ (mailbox : List ℕ) (items : List (Option StatusItem)) where
    abbrev items_named : Work DeskCall Answer
    items_named = ask_by_name account entry (canonical mailbox) (no_mailbox_text tag) (status (canonical mailbox) items) tag (StatusCall (canonical mailbox)) []

    pub no_item : has_no_item items ≡ true → work_of account entry tag (Status mailbox items) [] ≡ say (no_item_text tag) Open
    no_item e = cond-true (has_no_item items) (say (no_item_text tag) Open) items_named e

    pub known_items : has_no_item items ≡ false → work_of account entry tag (Status mailbox items) []
        ≡ ask_by_name account entry (canonical mailbox) (no_mailbox_text tag) (status (canonical mailbox) items) tag (StatusCall (canonical mailbox)) []
    known_items e = cond-false (has_no_item items) (say (no_item_text tag) Open) items_named e

-- the line that answers a fault has the tag with which the text begins, or none
pub fault_said : (fault : CommandFault) (text : List ℕ) → fault_text (tag_in text) fault ≡ fault_text (fault_tag fault text) fault
fault_said TooLong text = refl
fault_said InvalidTag text = refl
fault_said Unknown text = refl
fault_said NotAuthenticated text = refl
fault_said AlreadyAuthenticated text = refl
fault_said (Syntax at) text = refl
fault_said LiteralTooLarge text = refl
fault_said MessageTooLarge text = refl
fault_said NoMemory text = refl

-- what makes a name too long is its length
pub too_long_by : (e : NameError) (n length : ℕ) → e ≡ NameTooLong n → (e ≡ NameTooLong length) ⊎ (e ≡ NoNameMemory) → e ≡ NameTooLong length
too_long_by e n length is (inl same) = same
too_long_by e n length is (inr other) = absurd cc
