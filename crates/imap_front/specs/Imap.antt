-- IMAP as a protocol over the accounts of a table: what is done for a request, and how it is
-- answered. What a request is, the grammar says.
use Rattle.std.specs.Prelude.{ℕ, Bool, if◌then◌else◌, List, [], length, slice_get, Option, Some, None, Result, Ok, Err}
use Rattle.std.specs.List.{list_any}
use Rattle.std.specs.Option.{is_none, is_some}
use Rattle.wire_io.specs.Work.{Work, ask, say}
use Rattle.wire_io.specs.Protocol.{Protocol, HasOneCut}
use Rattle.wire_io.specs.declared.ends.After.{After}
use Rattle.wire_io.specs.declared.ends.After.TheVariants.{Open, Closing}
use Rattle.imap_grammar.specs.declared.status.StatusItem.{StatusItem}
use Rattle.imap_grammar.specs.declared.command.Command.{Command}
use Rattle.imap_grammar.specs.declared.command.Command.TheVariants.{Capability, Noop, Logout, Login, GetQuota, GetQuotaRoot, SetQuota, Status, Append}
use Rattle.imap_grammar.specs.declared.command.CommandFault.{CommandFault}
use Rattle.imap_grammar.specs.declared.command.CommandFault.TheVariants.{TooLong, InvalidTag, Unknown, NotAuthenticated, AlreadyAuthenticated, Syntax, LiteralTooLarge, MessageTooLarge, NoMemory}
use Rattle.imap_grammar.specs.Requests.{Request, command, refused, whole_at, asked_later}
use Rattle.quota_units.specs.Limiting.{LimitNumbers}
use Rattle.quota_units.specs.declared.flags.Flags.{Flags}
use Rattle.quota_roots.specs.MailboxNames.{canonical}
use Rattle.accounts_file.specs.Hosts.{Hosts, logged_in}
use Rattle.accounts_file.specs.declared.entry.AccountEntry.{AccountEntry}
use Rattle.account_core.specs.declared.calls.Call.{Call}
use Rattle.account_core.specs.declared.calls.Call.TheVariants.{Deliver, Quota, SetLimits, Roots, Status as StatusCall}
use Rattle.account_core.specs.History.{Answer}
use Rattle.desk.specs.Asking.{DeskCall}
use Rattle.front_core.specs.Works.{call_on, is_too_long}
use Rattle.imap_front.specs.declared.asked.Refusal.{Refusal}
use Rattle.imap_front.specs.AskedLimits.{limits_asked, refusal_words}
use Rattle.imap_front.specs.Answers.{CommandKind, get_quota, get_quota_root, set_quota, status, append, answer_text}
use Rattle.imap_front.specs.Texts.{tagged_line, no_root_text, no_mailbox_text, try_create_text}
use Rattle.imap_front.specs.Texts.{no_item_text, name_too_long_text, not_permitted_text}
use Rattle.imap_front.specs.Texts.{capability_text, noop_text, logout_text, login_text, fault_text}

-- an item is none that this service has
abbrev pub has_no_item : List (Option StatusItem) → Bool
has_no_item items = list_any is_none items

-- What is done for the owner of the account of this number, which has this entry in the table.
module _ (account : ℕ) (entry : AccountEntry) where
  -- this call, and then the answer to the command of this kind and tag
  abbrev pub ask_for : CommandKind → (tag : List ℕ) → Call → (octets : List ℕ)
      → Work DeskCall Answer
  ask_for kind tag call octets = ask (call_on account call octets)
      (λ answer. say (answer_text entry.setup.roots kind tag answer) Open)

  -- the same, if the name that the command gives is not too long; else no call is made, and this
  -- is the answer
  abbrev pub ask_by_name : (name refusal : List ℕ) → CommandKind → (tag : List ℕ) → Call
      → (octets : List ℕ) → Work DeskCall Answer
  ask_by_name name refusal kind tag call octets =
      if is_too_long name then say refusal Open else ask_for kind tag call octets

  -- the limits are set, unless they are refused
  abbrev pub set_root : (tag root : List ℕ) → Result LimitNumbers Refusal → Work DeskCall Answer
  set_root tag root (Ok limits) =
      ask_by_name root (no_root_text tag) set_quota tag (SetLimits root limits) []
  set_root tag root (Err refusal) = say (tagged_line tag (refusal_words refusal)) Open

  -- the limits are set only if the account may set limits
  abbrev pub set_if_permitted : (tag root : List ℕ) → Result LimitNumbers Refusal
      → Work DeskCall Answer
  set_if_permitted tag root limits =
      if entry.admin then set_root tag root limits else say (not_permitted_text tag) Open

  -- the mailbox of this name is asked, if each item is one that this service has
  abbrev pub ask_status : (tag mailbox : List ℕ) → List (Option StatusItem) → Work DeskCall Answer
  ask_status tag mailbox items =
      if has_no_item items then say (no_item_text tag) Open
      else ask_by_name mailbox (no_mailbox_text tag) (status mailbox items) tag
      (StatusCall mailbox) []

  -- the message is delivered to the mailbox of this name
  abbrev pub deliver : (tag mailbox : List ℕ) → Flags → (octets : List ℕ) → Work DeskCall Answer
  deliver tag mailbox flags octets =
      ask_by_name mailbox (try_create_text tag) append tag
      (Deliver mailbox (length octets) flags) octets

  -- what is done for a command with this tag, and with this message if it is APPEND
  abbrev pub work_of : (tag : List ℕ) → Command → (message : List ℕ) → Work DeskCall Answer
  work_of tag Capability message = say (capability_text tag) Open
  work_of tag Noop message = say (noop_text tag) Open
  work_of tag Logout message = say (logout_text tag) Closing
  work_of tag (Login user password) message = say (fault_text tag AlreadyAuthenticated) Open
  work_of tag (GetQuota root) message =
      ask_by_name root (no_root_text tag) get_quota tag (Quota root) []
  work_of tag (GetQuotaRoot mailbox) message =
      ask_by_name (canonical mailbox) (name_too_long_text tag)
      (get_quota_root (canonical mailbox)) tag (Roots (canonical mailbox)) []
  work_of tag (SetQuota root limits) message = set_if_permitted tag root (limits_asked limits)
  work_of tag (Status mailbox items) message = ask_status tag (canonical mailbox) items
  work_of tag (Append mailbox flags size) message = deliver tag (canonical mailbox) flags message

-- what is done for a command if nobody is logged in
abbrev pub work_of_nobody : Hosts → (tag : List ℕ) → Command → Work DeskCall Answer
work_of_nobody hosts tag Capability = say (capability_text tag) Open
work_of_nobody hosts tag Noop = say (noop_text tag) Open
work_of_nobody hosts tag Logout = say (logout_text tag) Closing
work_of_nobody hosts tag (Login user password) =
    say (login_text tag (logged_in hosts.accounts user password)) Open
work_of_nobody hosts tag (GetQuota root) = say (fault_text tag NotAuthenticated) Open
work_of_nobody hosts tag (GetQuotaRoot mailbox) = say (fault_text tag NotAuthenticated) Open
work_of_nobody hosts tag (SetQuota root limits) = say (fault_text tag NotAuthenticated) Open
work_of_nobody hosts tag (Status mailbox items) = say (fault_text tag NotAuthenticated) Open
work_of_nobody hosts tag (Append mailbox flags size) = say (fault_text tag NotAuthenticated) Open

abbrev pub work_of_entry : Hosts → ℕ → Option AccountEntry → (tag : List ℕ) → Command
    → (message : List ℕ) → Work DeskCall Answer
work_of_entry hosts account (Some entry) tag own message = work_of account entry tag own message
work_of_entry hosts account None tag own message = work_of_nobody hosts tag own

-- what is done for a command if this account, or nobody, is logged in
abbrev pub work_in : Hosts → (login : Option ℕ) → (tag : List ℕ) → Command → (message : List ℕ)
    → Work DeskCall Answer
work_in hosts (Some account) tag own message =
    work_of_entry hosts account (slice_get hosts.accounts account) tag own message
work_in hosts None tag own message = work_of_nobody hosts tag own

-- the session closes after a command that is too long, and goes on after any other fault
abbrev pub fault_after : CommandFault → After
fault_after TooLong = Closing
fault_after InvalidTag = Open
fault_after Unknown = Open
fault_after NotAuthenticated = Open
fault_after AlreadyAuthenticated = Open
fault_after (Syntax at) = Open
fault_after LiteralTooLarge = Open
fault_after MessageTooLarge = Open
fault_after NoMemory = Open

abbrev pub work : Hosts → (login : Option ℕ) → Request → Work DeskCall Answer
work hosts login (command tag own message) = work_in hosts login tag own message
work hosts login (refused tag fault) = say (fault_text tag fault) (fault_after fault)

-- who is logged in after a command: if nobody was, the account that LOGIN names, if this is its
-- password
abbrev pub login_after : Hosts → (login : Option ℕ) → Command → Option ℕ
login_after hosts (Some account) own = Some account
login_after hosts None (Login user password) = logged_in hosts.accounts user password
login_after hosts None Capability = None
login_after hosts None Noop = None
login_after hosts None Logout = None
login_after hosts None (GetQuota root) = None
login_after hosts None (GetQuotaRoot mailbox) = None
login_after hosts None (SetQuota root limits) = None
login_after hosts None (Status mailbox items) = None
login_after hosts None (Append mailbox flags size) = None

abbrev pub next : Hosts → (login : Option ℕ) → Request → Option ℕ
next hosts login (command tag own message) = login_after hosts login own
next hosts login (refused tag fault) = login

-- Sessions of the accounts of this table. A session's state is the number of the account that is
-- logged in. It decides which commands are allowed, and so what a whole request is.
abbrev pub imap : Hosts → Protocol (Option ℕ) Request DeskCall Answer
imap hosts = record {
  whole = λ login. whole_at (is_some login);
  prompts = λ login come. asked_later (is_some login) [] come;
  work = work hosts;
  next = next hosts;
}

-- Whoever is logged in, each text can be continued to a whole request of IMAP, and so IMAP cuts
-- each text into requests in exactly one way.
abbrev pub ImapCutsOneWay : Type 0
ImapCutsOneWay = (hosts : Hosts) (login : Option ℕ) (text : List ℕ)
    → HasOneCut (imap hosts) login text
