-- The account machine: its reply to each call, and the account after the call.
use Rattle.std.specs.Prelude.{ℕ, ◌+◌, List, [], ◌∷◌, Option, Some, None, bytes_eq, codes, find, filter, map, set}
use Rattle.quota_units.specs.Limiting.{LimitNumbers}
use Rattle.quota_roots.specs.declared.root.RootSpec.{RootSpec}
use Rattle.quota_roots.specs.Governing.{governs}
use Rattle.quota_roots.specs.RootLists.{root_named}
use Rattle.account_core.specs.declared.calls.Call.{Call}
use Rattle.account_core.specs.declared.calls.Call.TheVariants.{Deliver, Check, Remove, Mark, Move, Quota as QuotaCall, SetLimits, Roots as RootsCall, Status, ScanBegin, ScanPart, Install}
use Rattle.account_core.specs.declared.calls.RootRow.{RootRow}
use Rattle.account_core.specs.declared.calls.Reply.{Reply}
use Rattle.account_core.specs.declared.calls.Reply.TheVariants.{Fits, Removed, Marked, NoRoot, Quota, LimitsSet, Roots}
use Rattle.account_core.specs.Account.{Account, usage}
use Rattle.account_core.specs.Scanning.{status_reply, begun_reply, part_reply, install_reply}
pub use Rattle.quota_roots.specs.Governing.{gaining}
pub use Rattle.account_core.specs.Refusals.{has_mailbox, in_mailbox, if_message, usages, over_of, over_in, over_or}
pub use Rattle.account_core.specs.Changing.{delivery_reply, delivered_message, delivered_after, message_reply, removed_after, marked_after, move_between_reply, moving_reply, move_reply, moved_after}

-- a root's number, usage and limits
abbrev pub row_of : Account → ℕ → RootSpec → LimitNumbers → RootRow
row_of account number root limits = record {
  root = number;
  octets = (usage root account).octets;
  count = (usage root account).count;
  limits = limits;
}

-- each root with its row; the numbers of the roots begin at this one
abbrev pub rows_from : Account → ℕ → List RootSpec → List LimitNumbers → List (RootSpec × RootRow)
rows_from account number [] limits = []
rows_from account number (root ∷ roots) [] = []
rows_from account number (root ∷ roots) (own ∷ limits) =
    (root, row_of account number root own) ∷ rows_from account (number + 1) roots limits

abbrev pub rows : List RootSpec → Account → List (RootSpec × RootRow)
rows roots account = rows_from account 0 roots account.limits

-- the root of this name, with its row
abbrev pub named : List RootSpec → Account → List ℕ → Option (RootSpec × RootRow)
named roots account name = find (λ x. bytes_eq x.0.name name) (rows roots account)

abbrev pub quota_reply : Option (RootSpec × RootRow) → Reply
quota_reply None = NoRoot
quota_reply (Some (root, row)) = Quota row

-- the root's row, with the new limits
abbrev pub limits_reply : LimitNumbers → Option (RootSpec × RootRow) → Reply
limits_reply limits None = NoRoot
limits_reply limits (Some (root, row)) = LimitsSet (record row { limits = limits })

-- the rows of the roots that govern the mailbox, in order
abbrev pub governing_rows : List RootSpec → Account → List ℕ → List RootRow
governing_rows roots account mailbox =
    map (λ x. x.1) (filter (λ x. governs x.0 mailbox) (rows roots account))

-- the reply of the account to a call
abbrev pub reply_of : List RootSpec → Account → Call → Reply
reply_of roots account (Deliver mailbox octets flags) = delivery_reply roots account mailbox octets
reply_of roots account (Check octets) = over_or (over_in roots account (codes "INBOX") octets) Fits
reply_of roots account (Remove mailbox base) = message_reply account mailbox base Removed
reply_of roots account (Mark mailbox base flags) = message_reply account mailbox base Marked
reply_of roots account (Move from base to) = move_reply roots account from base to
reply_of roots account (QuotaCall name) = quota_reply (named roots account name)
reply_of roots account (SetLimits name limits) = limits_reply limits (named roots account name)
reply_of roots account (RootsCall mailbox) = Roots (governing_rows roots account mailbox)
reply_of roots account (Status mailbox) = status_reply account mailbox
reply_of roots account ScanBegin = begun_reply roots account
reply_of roots account (ScanPart index) = part_reply account index
reply_of roots account (Install generation) = install_reply roots account generation

-- the limits of all roots, after the root at this place was given these limits
abbrev pub limits_after : Option ℕ → LimitNumbers → List LimitNumbers → List LimitNumbers
limits_after None limits all = all
limits_after (Some at) limits all = set all at limits

-- the account after the call
abbrev pub step : List RootSpec → Account → Call → Account
step roots account (Deliver mailbox octets flags) =
    delivered_after account mailbox octets flags (delivery_reply roots account mailbox octets)
step roots account (Check octets) = account
step roots account (Remove mailbox base) =
    removed_after account mailbox base (message_reply account mailbox base Removed)
step roots account (Mark mailbox base flags) =
    marked_after account mailbox base flags (message_reply account mailbox base Marked)
step roots account (Move from base to) =
    moved_after account from base to (move_reply roots account from base to)
step roots account (QuotaCall name) = account
step roots account (SetLimits name limits) = record account {
  limits = limits_after (root_named roots name) limits account.limits;
}
step roots account (RootsCall mailbox) = account
step roots account (Status mailbox) = account
step roots account ScanBegin = account
step roots account (ScanPart index) = account
step roots account (Install generation) = account
