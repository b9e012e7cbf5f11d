-- The form of replies: which replies each call may get, whatever the account holds.
use Rattle.std.specs.Prelude.{◌≡◌, ◌<◌, ℕ, Bool, true, false, List, length, map}
use Rattle.std.specs.List.{All}
use Rattle.quota_roots.specs.declared.root.RootSpec.{RootSpec}
use Rattle.quota_roots.specs.Governing.{governing}
use Rattle.account_core.specs.declared.calls.Call.{Call}
use Rattle.account_core.specs.declared.calls.Call.TheVariants.{Deliver, Check, Remove, Mark, Move, Quota as QuotaCall, SetLimits, Roots as RootsCall, Status as StatusCall, ScanBegin, ScanPart, Install}
use Rattle.account_core.specs.declared.calls.Reply.{Reply}
use Rattle.account_core.specs.declared.calls.Reply.TheVariants.{NoMailbox, Over, Delivered, Fits, NoMessage, Removed, Marked, NameTaken, Moved, NoRoot, Quota, LimitsSet, Roots, Status, Begun, NoPart, Part, Changed, Installed}
use Rattle.account_core.specs.Account.{Account}
use Rattle.account_core.specs.Machine.{reply_of}

-- a reply of a kind that the call may get
abbrev pub is_answer : Call → Reply → Bool
is_answer (Deliver mailbox octets flags) NoMailbox = true
is_answer (Deliver mailbox octets flags) (Over root resource) = true
is_answer (Deliver mailbox octets flags) (Delivered number) = true
is_answer (Check octets) (Over root resource) = true
is_answer (Check octets) Fits = true
is_answer (Remove mailbox base) NoMailbox = true
is_answer (Remove mailbox base) NoMessage = true
is_answer (Remove mailbox base) Removed = true
is_answer (Mark mailbox base flags) NoMailbox = true
is_answer (Mark mailbox base flags) NoMessage = true
is_answer (Mark mailbox base flags) Marked = true
is_answer (Move from base to) NoMailbox = true
is_answer (Move from base to) NoMessage = true
is_answer (Move from base to) NameTaken = true
is_answer (Move from base to) (Over root resource) = true
is_answer (Move from base to) Moved = true
is_answer (SetLimits name limits) NoRoot = true
is_answer (SetLimits name limits) (LimitsSet row) = true
is_answer (QuotaCall name) NoRoot = true
is_answer (QuotaCall name) (Quota row) = true
is_answer (RootsCall mailbox) (Roots rows) = true
is_answer (StatusCall mailbox) NoMailbox = true
is_answer (StatusCall mailbox) (Status messages unseen deleted deleted_octets octets) = true
is_answer ScanBegin (Begun generation sets) = true
is_answer (ScanPart index) NoPart = true
is_answer (ScanPart index) (Part generation octets count) = true
is_answer (Install generation) (Changed then now) = true
is_answer (Install generation) (Installed usages) = true
is_answer call given = false

-- each root that a reply names exists, the begin of a scan names the roots that govern each
-- mailbox, and an install has a usage for each root
abbrev pub NamesRoots : List RootSpec → List (List ℕ) → Reply → Type 0
NamesRoots roots mailboxes (Over root resource) = root < length roots
NamesRoots roots mailboxes (Quota row) = row.root < length roots
NamesRoots roots mailboxes (LimitsSet row) = row.root < length roots
NamesRoots roots mailboxes (Roots rows) = All (λ row. row.root < length roots) rows
NamesRoots roots mailboxes (Begun generation sets) = sets ≡ map (governing roots) mailboxes
NamesRoots roots mailboxes (Installed usages) = length usages ≡ length roots
NamesRoots roots mailboxes given = Unit {0}

pub record HasForm (roots : List RootSpec) (mailboxes : List (List ℕ)) (call : Call)
    (given : Reply) : Type 0 where
  pub kind : is_answer call given ≡ true
  pub names : NamesRoots roots mailboxes given

-- The machine's replies have the form that their calls need.
abbrev pub RepliesHaveForm : Type 0
RepliesHaveForm = (roots : List RootSpec) (account : Account) (call : Call)
    → HasForm roots account.mailboxes call (reply_of roots account call)
