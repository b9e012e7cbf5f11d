-- The text that answers each command that makes a call, by the answer to the call. A command's call
-- gets no reply of another kind than its own; such a reply is written as a failed store.
use Rattle.std.specs.Prelude.{◌<◌, ℕ, List, ◌++◌, length, codes, Option}
use Rattle.std.specs.List.{All, flat_map}
use Rattle.quota_roots.specs.declared.root.RootSpec.{RootSpec}
use Rattle.imap_grammar.specs.declared.status.StatusItem.{StatusItem}
use Rattle.account_core.specs.declared.calls.Reply.{Reply}
use Rattle.account_core.specs.declared.calls.Reply.TheVariants.{NoMailbox, Over, Delivered, NoRoot, Quota, LimitsSet, Roots, Status}
use Rattle.account_core.specs.History.{Answer, replied, journal_full}
use Rattle.imap_front.specs.declared.answers.Kind.{Kind}
use Rattle.imap_front.specs.declared.answers.Kind.TheVariants.{GetQuota, GetQuotaRoot, SetQuota, Status as StatusKind, Append}
use Rattle.imap_front.specs.Texts.{tagged_line, root_line, quota_root_line, status_line}
use Rattle.imap_front.specs.Texts.{no_root_text, no_mailbox_text, try_create_text}
use Rattle.imap_front.specs.Texts.{unavailable_text, journal_full_text}

-- a command that makes a call, with the part of it that the answer repeats
pub data CommandKind : Type 0 where
  get_quota : CommandKind
  get_quota_root : (mailbox : List ℕ) → CommandKind
  set_quota : CommandKind
  status : (mailbox : List ℕ) (items : List (Option StatusItem)) → CommandKind
  append : CommandKind

abbrev pub get_quota_text : List RootSpec → (tag : List ℕ) → Answer → List ℕ
get_quota_text roots tag (replied NoRoot) = no_root_text tag
get_quota_text roots tag (replied (Quota row)) =
    root_line roots row ++ tagged_line tag (codes "OK GETQUOTA completed")
get_quota_text roots tag journal_full = journal_full_text tag
get_quota_text roots tag answer = unavailable_text tag

abbrev pub get_quota_root_text : List RootSpec → (mailbox tag : List ℕ) → Answer → List ℕ
get_quota_root_text roots mailbox tag (replied (Roots rows)) =
    quota_root_line roots mailbox rows
    ++ (flat_map (root_line roots) rows ++ tagged_line tag (codes "OK GETQUOTAROOT completed"))
get_quota_root_text roots mailbox tag journal_full = journal_full_text tag
get_quota_root_text roots mailbox tag answer = unavailable_text tag

abbrev pub set_quota_text : List RootSpec → (tag : List ℕ) → Answer → List ℕ
set_quota_text roots tag (replied NoRoot) = no_root_text tag
set_quota_text roots tag (replied (LimitsSet row)) =
    root_line roots row ++ tagged_line tag (codes "OK SETQUOTA completed")
set_quota_text roots tag journal_full = journal_full_text tag
set_quota_text roots tag answer = unavailable_text tag

abbrev pub status_text : (mailbox : List ℕ) → List (Option StatusItem) → (tag : List ℕ) → Answer
    → List ℕ
status_text mailbox items tag (replied NoMailbox) = no_mailbox_text tag
status_text mailbox items tag (replied (Status messages unseen deleted deleted_octets octets)) =
    status_line mailbox items (record {
      messages = messages;
      unseen = unseen;
      deleted = deleted;
      deleted_octets = deleted_octets;
      octets = octets;
    }) ++ tagged_line tag (codes "OK STATUS completed")
status_text mailbox items tag journal_full = journal_full_text tag
status_text mailbox items tag answer = unavailable_text tag

abbrev pub append_text : (tag : List ℕ) → Answer → List ℕ
append_text tag (replied NoMailbox) = try_create_text tag
append_text tag (replied (Over root resource)) =
    tagged_line tag (codes "NO [OVERQUOTA] Quota exceeded")
append_text tag (replied (Delivered number)) = tagged_line tag (codes "OK APPEND completed")
append_text tag journal_full = journal_full_text tag
append_text tag answer = unavailable_text tag

-- the text that answers a command of this kind, if the account has these roots
abbrev pub answer_text : List RootSpec → CommandKind → (tag : List ℕ) → Answer → List ℕ
answer_text roots get_quota tag answer = get_quota_text roots tag answer
answer_text roots (get_quota_root mailbox) tag answer = get_quota_root_text roots mailbox tag answer
answer_text roots set_quota tag answer = set_quota_text roots tag answer
answer_text roots (status mailbox items) tag answer = status_text mailbox items tag answer
answer_text roots append tag answer = append_text tag answer

-- these roots include those that the reply to a command's call names
abbrev pub HasRootsOf : List RootSpec → Reply → Type 0
HasRootsOf roots (Quota row) = row.root < length roots
HasRootsOf roots (LimitsSet row) = row.root < length roots
HasRootsOf roots (Roots rows) = All (λ row. row.root < length roots) rows
HasRootsOf roots given = Unit {0}

-- the kind of command that the code's `Kind` stands for
abbrev pub kind_of : Kind → CommandKind
kind_of GetQuota = get_quota
kind_of (GetQuotaRoot mailbox) = get_quota_root mailbox.now
kind_of SetQuota = set_quota
kind_of (StatusKind mailbox items) = status mailbox.now items.now
kind_of Append = append
