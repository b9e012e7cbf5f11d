-- What the parts of a scan add up to.
use Rattle.std.specs.Prelude.{◌≡◌, ℕ, Bool, true, List, sum_by, if◌then◌else◌}
use Rattle.std.specs.List.{list_all}
use Rattle.quota_units.specs.declared.totals.Totals.{Totals}
use Rattle.quota_roots.specs.declared.root.RootSpec.{RootSpec}
use Rattle.quota_roots.specs.Governing.{governs}
use Rattle.quota_roots.specs.Setups.{are_different}
use Rattle.account_core.specs.declared.calls.Entry.{Entry}
use Rattle.account_core.specs.Account.{Account, Message, usage}
use Rattle.account_core.specs.Messages.{sum_in}
use Rattle.account_core.specs.Machine.{has_mailbox}
use Rattle.account_core.specs.History.{replay}

-- each message is in one of the account's mailboxes
abbrev pub are_housed : Account → Bool
are_housed account = list_all (λ m. has_mailbox account m.mailbox) account.messages

-- the sum of the parts of the mailboxes that the root governs
abbrev pub parts_of : RootSpec → (Message → ℕ) → Account → ℕ
parts_of root weight account = sum_by (λ mailbox.
    if governs root mailbox then sum_in mailbox weight account.messages else 0) account.mailboxes

abbrev pub whole_scan : RootSpec → Account → Totals
whole_scan root account = record {
  octets = parts_of root (λ m. m.octets) account;
  count = parts_of root (λ m. 1) account;
}

-- If the mailboxes are different and each message was in one of them at the opening, the parts add
-- up to the usage, after any history.
abbrev pub WholeScanIsUsage : Type 0
WholeScanIsUsage =
    (roots : List RootSpec) (opening : Account) (history : List Entry)
    → are_different opening.mailboxes ≡ true → are_housed opening ≡ true
    → (root : RootSpec)
    → whole_scan root (replay roots opening history) ≡ usage root (replay roots opening history)
