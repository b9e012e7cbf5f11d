-- What answers the commands: replies that no call of theirs gets, and texts that are never empty.
use Rattle.std.proofs.Common.{◌≡◌, ◌≢◌, ℕ, Bool, true, false, if◌then◌else◌, List, [], ◌∷◌, ◌++◌, length, slice_get, Option, Some, None, Result, Ok, Err, codes, refl, sym, ◌∙◌, subst, append_assoc}
use Rattle.std.specs.List.{flat_map}
use Rattle.wire_io.specs.declared.ends.After.{After}
use Rattle.wire_io.specs.declared.ends.After.TheVariants.{Open}
use Rattle.wire_io.specs.Work.{Work, ask, say, Does}
use Rattle.quota_units.specs.Limiting.{LimitNumbers}
use Rattle.quota_units.specs.declared.resource.Resource.{Resource}
use Rattle.quota_roots.specs.declared.root.RootSpec.{RootSpec}
use Rattle.quota_roots.specs.MailboxNames.{canonical}
use Rattle.account_core.specs.declared.calls.RootRow.{RootRow}
use Rattle.account_core.specs.declared.calls.Call.{Call}
use Rattle.account_core.specs.declared.calls.Call.TheVariants.{Deliver, Quota as QuotaCall, SetLimits, Roots as RootsCall, Status as StatusCall}
use Rattle.account_core.specs.declared.calls.Reply.{Reply}
use Rattle.account_core.specs.declared.calls.Reply.TheVariants.{NoMailbox, Over, Delivered, NoRoot, Quota, LimitsSet, Roots, Status}
use Rattle.account_core.specs.History.{Answer, replied, store, journal_full}
use Rattle.accounts_file.specs.Hosts.{Hosts, logged_in}
use Rattle.accounts_file.specs.declared.entry.AccountEntry.{AccountEntry}
use Rattle.desk.specs.Asking.{DeskCall}
use Rattle.imap_grammar.specs.declared.status.StatusItem.{StatusItem}
use Rattle.imap_grammar.specs.declared.command.Command.{Command}
use Rattle.imap_grammar.specs.declared.command.Command.TheVariants.{Capability, Noop, Logout, Login, GetQuota, GetQuotaRoot, SetQuota, Status as StatusCommand, Append}
use Rattle.imap_grammar.specs.declared.command.CommandFault.TheVariants.{NotAuthenticated}
use Rattle.imap_grammar.specs.Requests.{command, refused}
use Rattle.imap_front.specs.declared.asked.Refusal.{Refusal}
use Rattle.imap_front.specs.AskedLimits.{limits_asked, refusal_words}
use Rattle.imap_front.specs.Texts.{tagged_line, crlf, root_line, quota_root_line, status_line, unavailable_text, journal_full_text, fault_text, fault_line_tag, fault_words, login_text}
use Rattle.imap_front.specs.Answers.{CommandKind, get_quota, get_quota_root, set_quota, status, append, get_quota_text, get_quota_root_text, set_quota_text, status_text, append_text, answer_text}
use Rattle.front_core.specs.Works.{call_on, is_too_long}
use Rattle.imap_front.specs.Imap.{has_no_item, ask_by_name, set_root, work_of, work_of_nobody, work_of_entry, work_in, work}
use Rattle.imap_front.specs.Wording.{EndsTagged, RequestsHaveTexts, CommandsEndTagged}

module _ (roots : List RootSpec) (tag : List ℕ) where
  pub other_quota : (given : Reply) → given ≢ NoRoot → ((row : RootRow) → given ≢ Quota row) → get_quota_text roots tag (replied given) ≡ unavailable_text tag
  other_quota NoRoot p q = absurd (p refl)
  other_quota (Quota row) p q = absurd (q row refl)
  other_quota given p q = refl

  pub other_limits : (given : Reply) → given ≢ NoRoot → ((row : RootRow) → given ≢ LimitsSet row) → set_quota_text roots tag (replied given) ≡ unavailable_text tag
  other_limits NoRoot p q = absurd (p refl)
  other_limits (LimitsSet row) p q = absurd (q row refl)
  other_limits given p q = refl

  pub other_status : (mailbox : List ℕ) (items : List (Option StatusItem)) (given : Reply) → given ≢ NoMailbox
      → ((messages unseen deleted deleted_octets octets : ℕ) → given ≢ Status messages unseen deleted deleted_octets octets) → status_text mailbox items tag (replied given) ≡ unavailable_text tag
  other_status mailbox items NoMailbox p q = absurd (p refl)
  other_status mailbox items (Status messages unseen deleted deleted_octets octets) p q = absurd (q messages unseen deleted deleted_octets octets refl)
  other_status mailbox items given p q = refl

  pub other_append : (given : Reply) → given ≢ NoMailbox → ((root : ℕ) (resource : Resource) → given ≢ Over root resource) → ((number : ℕ) → given ≢ Delivered number)
      → append_text tag (replied given) ≡ unavailable_text tag
  other_append NoMailbox p q r = absurd (p refl)
  other_append (Over root resource) p q r = absurd (q root resource refl)
  other_append (Delivered number) p q r = absurd (r number refl)
  other_append given p q r = refl

  -- every command says alike that the store failed
  pub store_text : (kind : CommandKind) → answer_text roots kind tag store ≡ unavailable_text tag
  store_text get_quota = refl
  store_text (get_quota_root mailbox) = refl
  store_text set_quota = refl
  store_text (status mailbox items) = refl
  store_text append = refl

  -- every command says alike that the history is full
  pub full_text : (kind : CommandKind) → answer_text roots kind tag journal_full ≡ journal_full_text tag
  full_text get_quota = refl
  full_text (get_quota_root mailbox) = refl
  full_text set_quota = refl
  full_text (status mailbox items) = refl
  full_text append = refl

-- a line with a tag
line_alone : (tag words : List ℕ) → EndsTagged tag (tagged_line tag words)
line_alone tag words = ([], words, refl)

-- lines, and then one with a tag
line_last : (tag before words : List ℕ) → EndsTagged tag (before ++ tagged_line tag words)
line_last tag before words = (before, words, refl)

quota_ends : (roots : List RootSpec) (tag : List ℕ) (answer : Answer) → EndsTagged tag (get_quota_text roots tag answer)
quota_ends roots tag (replied NoRoot) = line_alone tag (codes "NO No such quota root")
quota_ends roots tag (replied (Quota row)) = line_last tag (root_line roots row) (codes "OK GETQUOTA completed")
quota_ends roots tag journal_full = line_alone tag (codes "NO [LIMIT] Journal full")
quota_ends roots tag answer = line_alone tag (codes "NO [UNAVAILABLE] Store unavailable")

limits_end : (roots : List RootSpec) (tag : List ℕ) (answer : Answer) → EndsTagged tag (set_quota_text roots tag answer)
limits_end roots tag (replied NoRoot) = line_alone tag (codes "NO No such quota root")
limits_end roots tag (replied (LimitsSet row)) = line_last tag (root_line roots row) (codes "OK SETQUOTA completed")
limits_end roots tag journal_full = line_alone tag (codes "NO [LIMIT] Journal full")
limits_end roots tag answer = line_alone tag (codes "NO [UNAVAILABLE] Store unavailable")

roots_end : (roots : List RootSpec) (mailbox tag : List ℕ) (answer : Answer) → EndsTagged tag (get_quota_root_text roots mailbox tag answer)
roots_end roots mailbox tag (replied (Roots rows)) = (
  quota_root_line roots mailbox rows ++ flat_map (root_line roots) rows,
  codes "OK GETQUOTAROOT completed",
  sym (append_assoc (quota_root_line roots mailbox rows) (flat_map (root_line roots) rows) (tagged_line tag (codes "OK GETQUOTAROOT completed"))),
)
roots_end roots mailbox tag journal_full = line_alone tag (codes "NO [LIMIT] Journal full")
roots_end roots mailbox tag answer = line_alone tag (codes "NO [UNAVAILABLE] Store unavailable")

status_ends : (mailbox : List ℕ) (items : List (Option StatusItem)) (tag : List ℕ) (answer : Answer) → EndsTagged tag (status_text mailbox items tag answer)
status_ends mailbox items tag (replied NoMailbox) = line_alone tag (codes "NO No such mailbox")
status_ends mailbox items tag (replied (Status messages unseen deleted deleted_octets octets)) =
    line_last tag (status_line mailbox items (record { messages = messages; unseen = unseen; deleted = deleted; deleted_octets = deleted_octets; octets = octets })) (codes "OK STATUS completed")
status_ends mailbox items tag journal_full = line_alone tag (codes "NO [LIMIT] Journal full")
status_ends mailbox items tag answer = line_alone tag (codes "NO [UNAVAILABLE] Store unavailable")

append_ends : (tag : List ℕ) (answer : Answer) → EndsTagged tag (append_text tag answer)
append_ends tag (replied NoMailbox) = line_alone tag (codes "NO [TRYCREATE] No such mailbox")
append_ends tag (replied (Over root resource)) = line_alone tag (codes "NO [OVERQUOTA] Quota exceeded")
append_ends tag (replied (Delivered number)) = line_alone tag (codes "OK APPEND completed")
append_ends tag journal_full = line_alone tag (codes "NO [LIMIT] Journal full")
append_ends tag answer = line_alone tag (codes "NO [UNAVAILABLE] Store unavailable")

answer_ends : (roots : List RootSpec) (kind : CommandKind) (tag : List ℕ) (answer : Answer) → EndsTagged tag (answer_text roots kind tag answer)
answer_ends roots get_quota tag answer = quota_ends roots tag answer
answer_ends roots (get_quota_root mailbox) tag answer = roots_end roots mailbox tag answer
answer_ends roots set_quota tag answer = limits_end roots tag answer
answer_ends roots (status mailbox items) tag answer = status_ends mailbox items tag answer
answer_ends roots append tag answer = append_ends tag answer

login_ends : (tag : List ℕ) (login : Option ℕ) → EndsTagged tag (login_text tag login)
login_ends tag (Some account) = line_alone tag (codes "OK LOGIN completed")
login_ends tag None = line_alone tag (codes "NO [AUTHENTICATIONFAILED] Login failed")

-- the work's text ends with a line of this tag, whatever the answers to its calls
abbrev AlwaysTagged : (tag : List ℕ) → Work DeskCall Answer → Type 0
AlwaysTagged tag work = (log : List (DeskCall × Answer)) (text : List ℕ) (after : After) → Does work log text after → EndsTagged tag text

said : (tag words : List ℕ) (after : After) → EndsTagged tag words → AlwaysTagged tag (say words after)
said tag words after ends [] text word does = subst (EndsTagged tag) (sym does.0) ends
said tag words after ends (entry ∷ log) text word does = absurd does

asked : (tag : List ℕ) (call : DeskCall) (words : Answer → List ℕ) (after : After) → ((answer : Answer) → EndsTagged tag (words answer)) → AlwaysTagged tag (ask call (λ answer. say (words answer) after))
asked tag call words after ends [] text word does = absurd does
asked tag call words after ends (entry ∷ []) text word does = subst (EndsTagged tag) (sym does.1.0) (ends entry.1)
asked tag call words after ends (entry ∷ other ∷ log) text word does = absurd does.1

asked_or_said : (c : Bool) (tag refusal : List ℕ) (call : DeskCall) (words : Answer → List ℕ) → EndsTagged tag refusal → ((answer : Answer) → EndsTagged tag (words answer))
    → AlwaysTagged tag (if c then say refusal Open else ask call (λ answer. say (words answer) Open))
asked_or_said true tag refusal call words one other = said tag refusal Open one
asked_or_said false tag refusal call words one other = asked tag call words Open other

module _ (account : ℕ) (entry : AccountEntry) (tag : List ℕ) where
  by_name : (name words : List ℕ) (kind : CommandKind) (call : Call) (octets : List ℕ) → AlwaysTagged tag (ask_by_name account entry name (tagged_line tag words) kind tag call octets)
  by_name name words kind call octets =
      asked_or_said (is_too_long name) tag (tagged_line tag words) (call_on account call octets) (answer_text entry.setup.roots kind tag) (line_alone tag words) (answer_ends entry.setup.roots kind tag)

  limits_tagged : (root : List ℕ) (limits : Result LimitNumbers Refusal) → AlwaysTagged tag (set_root account entry tag root limits)
  limits_tagged root (Ok limits) = by_name root (codes "NO No such quota root") set_quota (SetLimits root limits) []
  limits_tagged root (Err refusal) = said tag (tagged_line tag (refusal_words refusal)) Open (line_alone tag (refusal_words refusal))

  permitted_tagged : (admin : Bool) (root : List ℕ) (limits : Result LimitNumbers Refusal)
      → AlwaysTagged tag (if admin then set_root account entry tag root limits else say (tagged_line tag (codes "NO [NOPERM] Not permitted")) Open)
  permitted_tagged true root limits = limits_tagged root limits
  permitted_tagged false root limits = said tag (tagged_line tag (codes "NO [NOPERM] Not permitted")) Open (line_alone tag (codes "NO [NOPERM] Not permitted"))

  items_tagged : (none : Bool) (mailbox : List ℕ) (items : List (Option StatusItem))
      → AlwaysTagged tag (if none then say (tagged_line tag (codes "NO Status item not supported")) Open
      else ask_by_name account entry mailbox (tagged_line tag (codes "NO No such mailbox")) (status mailbox items) tag (StatusCall mailbox) [])
  items_tagged true mailbox items = said tag (tagged_line tag (codes "NO Status item not supported")) Open (line_alone tag (codes "NO Status item not supported"))
  items_tagged false mailbox items = by_name mailbox (codes "NO No such mailbox") (status mailbox items) (StatusCall mailbox) []

  owner_tagged : (own : Command) (message : List ℕ) → AlwaysTagged tag (work_of account entry tag own message)
  owner_tagged Capability message =
      said tag _ _ (line_last tag (codes "* CAPABILITY IMAP4rev1 QUOTA QUOTASET QUOTA=RES-STORAGE QUOTA=RES-MESSAGE STATUS=SIZE\r\n") (codes "OK CAPABILITY completed"))
  owner_tagged Noop message = said tag _ _ (line_alone tag (codes "OK NOOP completed"))
  owner_tagged Logout message = said tag _ _ (line_last tag (codes "* BYE quotad closing\r\n") (codes "OK LOGOUT completed"))
  owner_tagged (Login user password) message = said tag _ _ (line_alone tag (codes "BAD Already authenticated"))
  owner_tagged (GetQuota root) message = by_name root (codes "NO No such quota root") get_quota (QuotaCall root) []
  owner_tagged (GetQuotaRoot mailbox) message = by_name (canonical mailbox) (codes "NO Name too long") (get_quota_root (canonical mailbox)) (RootsCall (canonical mailbox)) []
  owner_tagged (SetQuota root limits) message = permitted_tagged entry.admin root (limits_asked limits)
  owner_tagged (StatusCommand mailbox items) message = items_tagged (has_no_item items) (canonical mailbox) items
  owner_tagged (Append mailbox flags size) message =
      by_name (canonical mailbox) (codes "NO [TRYCREATE] No such mailbox") append (Deliver (canonical mailbox) (length message) flags) message

module _ (hosts : Hosts) (tag : List ℕ) where
  not_allowed : AlwaysTagged tag (say (fault_text tag NotAuthenticated) Open)
  not_allowed = said tag (fault_text tag NotAuthenticated) Open (line_alone tag (codes "BAD Not authenticated"))

  nobody_tagged : (own : Command) → AlwaysTagged tag (work_of_nobody hosts tag own)
  nobody_tagged Capability =
      said tag _ _ (line_last tag (codes "* CAPABILITY IMAP4rev1 QUOTA QUOTASET QUOTA=RES-STORAGE QUOTA=RES-MESSAGE STATUS=SIZE\r\n") (codes "OK CAPABILITY completed"))
  nobody_tagged Noop = said tag _ _ (line_alone tag (codes "OK NOOP completed"))
  nobody_tagged Logout = said tag _ _ (line_last tag (codes "* BYE quotad closing\r\n") (codes "OK LOGOUT completed"))
  nobody_tagged (Login user password) = said tag _ _ (login_ends tag (logged_in hosts.accounts user password))
  nobody_tagged (GetQuota root) = not_allowed
  nobody_tagged (GetQuotaRoot mailbox) = not_allowed
  nobody_tagged (SetQuota root limits) = not_allowed
  nobody_tagged (StatusCommand mailbox items) = not_allowed
  nobody_tagged (Append mailbox flags size) = not_allowed

  entry_tagged : (account : ℕ) (entry : Option AccountEntry) (own : Command) (message : List ℕ) → AlwaysTagged tag (work_of_entry hosts account entry tag own message)
  entry_tagged account (Some entry) own message = owner_tagged account entry tag own message
  entry_tagged account None own message = nobody_tagged own

  command_tagged : (login : Option ℕ) (own : Command) (message : List ℕ) → AlwaysTagged tag (work_in hosts login tag own message)
  command_tagged (Some account) own message = entry_tagged account (slice_get hosts.accounts account) own message
  command_tagged None own message = nobody_tagged own

pub commands_end_tagged : CommandsEndTagged
commands_end_tagged hosts login tag own message log text after does = command_tagged hosts tag login own message log text after does

-- a text with a line is some
not_nil : (a b : List ℕ) (x : ℕ) → a ++ x ∷ b ≢ []
not_nil [] b x e = cc
not_nil (y ∷ a) b x e = cc

line_some : (tag words text : List ℕ) (before : List ℕ) → text ≡ before ++ tagged_line tag words → text ≢ []
line_some tag words text before e none = not_nil (before ++ tag) (words ++ crlf) 32 (append_assoc before tag (32 ∷ (words ++ crlf)) ∙ sym e ∙ none)

tagged_some : (tag text : List ℕ) → EndsTagged tag text → text ≢ []
tagged_some tag text ends = line_some tag ends.1 text ends.0 ends.2

pub requests_have_texts : RequestsHaveTexts
requests_have_texts hosts login (command tag own message) log text after does = tagged_some tag text (commands_end_tagged hosts login tag own message log text after does)
requests_have_texts hosts login (refused tag fault) log text after does =
    tagged_some (fault_line_tag fault tag) text (said (fault_line_tag fault tag) (fault_text tag fault) _ (line_alone (fault_line_tag fault tag) (fault_words fault)) log text after does)
