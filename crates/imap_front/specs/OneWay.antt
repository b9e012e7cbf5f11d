-- What the session does after a request never depends on the answers to its calls.
use Rattle.std.proofs.Common.{ℕ, Bool, true, false, if◌then◌else◌, List, [], ◌∷◌, length, slice_get, Option, Some, None, Result, Ok, Err}
use Rattle.wire_io.specs.declared.ends.After.{After}
use Rattle.wire_io.specs.declared.ends.After.TheVariants.{Open, Closing}
use Rattle.wire_io.specs.Work.{ask, say, AlwaysEnds}
use Rattle.wire_io.specs.Session.{EndsOneWay}
use Rattle.quota_units.specs.Limiting.{LimitNumbers}
use Rattle.quota_roots.specs.MailboxNames.{canonical}
use Rattle.accounts_file.specs.Hosts.{Hosts, logged_in}
use Rattle.accounts_file.specs.declared.entry.AccountEntry.{AccountEntry}
use Rattle.account_core.specs.declared.calls.Call.{Call}
use Rattle.account_core.specs.declared.calls.Call.TheVariants.{Deliver, Quota, SetLimits, Roots, Status as StatusCall}
use Rattle.account_core.specs.History.{Answer}
use Rattle.desk.specs.Asking.{DeskCall}
use Rattle.imap_grammar.specs.declared.status.StatusItem.{StatusItem}
use Rattle.imap_grammar.specs.declared.command.Command.{Command}
use Rattle.imap_grammar.specs.declared.command.Command.TheVariants.{Capability, Noop, Logout, Login, GetQuota, GetQuotaRoot, SetQuota, Status, Append}
use Rattle.imap_grammar.specs.declared.command.CommandFault.TheVariants.{NotAuthenticated, AlreadyAuthenticated}
use Rattle.imap_grammar.specs.Requests.{command, refused}
use Rattle.imap_front.specs.declared.asked.Refusal.{Refusal}
use Rattle.imap_front.specs.AskedLimits.{limits_asked, refusal_words}
use Rattle.imap_front.specs.Answers.{CommandKind, get_quota, get_quota_root, set_quota, status, append, answer_text}
use Rattle.imap_front.specs.Texts.{tagged_line, no_root_text, no_mailbox_text, try_create_text}
use Rattle.imap_front.specs.Texts.{no_item_text, name_too_long_text, not_permitted_text}
use Rattle.imap_front.specs.Texts.{capability_text, noop_text, logout_text, login_text, fault_text}
use Rattle.front_core.specs.Works.{call_on, is_too_long}
use Rattle.imap_front.specs.Imap.{has_no_item, ask_by_name, set_root}
use Rattle.imap_front.specs.Imap.{work_of, work_of_nobody, work_of_entry, work_in}
use Rattle.imap_front.specs.Imap.{fault_after, imap}

said : (text : List ℕ) (after : After)
    → AlwaysEnds {Call = DeskCall} {Answer = Answer} (say text after) after
said text after [] written word does = does.1
said text after (entry ∷ log) written word does = absurd does

asked : (call : DeskCall) (text : Answer → List ℕ) (after : After)
    → AlwaysEnds (ask call (λ answer. say (text answer) after)) after
asked call text after [] written word does = absurd does
asked call text after (entry ∷ []) written word does = does.1.1
asked call text after (entry ∷ other ∷ log) written word does = absurd does.1

asked_or_said : (c : Bool) (refusal : List ℕ) (call : DeskCall) (text : Answer → List ℕ)
    → AlwaysEnds (if c then say refusal Open else ask call (λ answer. say (text answer) Open)) Open
asked_or_said true refusal call text = said refusal Open
asked_or_said false refusal call text = asked call text Open

module _ (account : ℕ) (entry : AccountEntry) (tag : List ℕ) where
  by_name : (name refusal : List ℕ) (kind : CommandKind) (call : Call) (octets : List ℕ)
      → AlwaysEnds (ask_by_name account entry name refusal kind tag call octets) Open
  by_name name refusal kind call octets = asked_or_said (is_too_long name) refusal
      (call_on account call octets) (answer_text entry.setup.roots kind tag)

  limits_one_way : (root : List ℕ) (limits : Result LimitNumbers Refusal)
      → AlwaysEnds (set_root account entry tag root limits) Open
  limits_one_way root (Ok limits) =
      by_name root (no_root_text tag) set_quota (SetLimits root limits) []
  limits_one_way root (Err refusal) = said (tagged_line tag (refusal_words refusal)) Open

  permitted_one_way : (admin : Bool) (root : List ℕ) (limits : Result LimitNumbers Refusal)
      → AlwaysEnds (if admin then set_root account entry tag root limits
      else say (not_permitted_text tag) Open) Open
  permitted_one_way true root limits = limits_one_way root limits
  permitted_one_way false root limits = said (not_permitted_text tag) Open

  items_one_way : (none : Bool) (mailbox : List ℕ) (items : List (Option StatusItem))
      → AlwaysEnds (if none then say (no_item_text tag) Open
      else ask_by_name account entry mailbox (no_mailbox_text tag) (status mailbox items) tag
      (StatusCall mailbox) []) Open
  items_one_way true mailbox items = said (no_item_text tag) Open
  items_one_way false mailbox items =
      by_name mailbox (no_mailbox_text tag) (status mailbox items) (StatusCall mailbox) []

  owner_one_way : (own : Command) (message : List ℕ)
      → (word : After) × AlwaysEnds (work_of account entry tag own message) word
  owner_one_way Capability message = (Open, said (capability_text tag) Open)
  owner_one_way Noop message = (Open, said (noop_text tag) Open)
  owner_one_way Logout message = (Closing, said (logout_text tag) Closing)
  owner_one_way (Login user password) message =
      (Open, said (fault_text tag AlreadyAuthenticated) Open)
  owner_one_way (GetQuota root) message =
      (Open, by_name root (no_root_text tag) get_quota (Quota root) [])
  owner_one_way (GetQuotaRoot mailbox) message = (
    Open,
    by_name (canonical mailbox) (name_too_long_text tag) (get_quota_root (canonical mailbox))
        (Roots (canonical mailbox)) [],
  )
  owner_one_way (SetQuota root limits) message =
      (Open, permitted_one_way entry.admin root (limits_asked limits))
  owner_one_way (Status mailbox items) message =
      (Open, items_one_way (has_no_item items) (canonical mailbox) items)
  owner_one_way (Append mailbox flags size) message = (
    Open,
    by_name (canonical mailbox) (try_create_text tag) append
        (Deliver (canonical mailbox) (length message) flags) message,
  )

module _ (hosts : Hosts) (tag : List ℕ) where
  not_allowed : AlwaysEnds {Call = DeskCall} {Answer = Answer}
      (say (fault_text tag NotAuthenticated) Open) Open
  not_allowed = said (fault_text tag NotAuthenticated) Open

  nobody_one_way : (own : Command)
      → (word : After) × AlwaysEnds (work_of_nobody hosts tag own) word
  nobody_one_way Capability = (Open, said (capability_text tag) Open)
  nobody_one_way Noop = (Open, said (noop_text tag) Open)
  nobody_one_way Logout = (Closing, said (logout_text tag) Closing)
  nobody_one_way (Login user password) =
      (Open, said (login_text tag (logged_in hosts.accounts user password)) Open)
  nobody_one_way (GetQuota root) = (Open, not_allowed)
  nobody_one_way (GetQuotaRoot mailbox) = (Open, not_allowed)
  nobody_one_way (SetQuota root limits) = (Open, not_allowed)
  nobody_one_way (Status mailbox items) = (Open, not_allowed)
  nobody_one_way (Append mailbox flags size) = (Open, not_allowed)

  entry_one_way : (account : ℕ) (entry : Option AccountEntry) (own : Command) (message : List ℕ)
      → (word : After) × AlwaysEnds (work_of_entry hosts account entry tag own message) word
  entry_one_way account (Some entry) own message = owner_one_way account entry tag own message
  entry_one_way account None own message = nobody_one_way own

  command_one_way : (login : Option ℕ) (own : Command) (message : List ℕ)
      → (word : After) × AlwaysEnds (work_in hosts login tag own message) word
  command_one_way (Some account) own message =
      entry_one_way account (slice_get hosts.accounts account) own message
  command_one_way None own message = nobody_one_way own

pub imap_one_way : (hosts : Hosts) → EndsOneWay (imap hosts)
imap_one_way hosts login (command tag own message) = command_one_way hosts tag login own message
imap_one_way hosts login (refused tag fault) =
    (fault_after fault, said (fault_text tag fault) (fault_after fault))
