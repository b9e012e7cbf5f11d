-- Worked accounts with limits, and the machine's replies there to deliveries, checks, changes of
-- limits, and questions on roots.
use Rattle.std.specs.Prelude.{◌≡◌, ℕ, true, List, [], ◌∷◌, Option, Some, None, codes}
use Rattle.quota_units.specs.Limiting.{LimitNumbers}
use Rattle.quota_units.specs.Flagging.{flags_among}
use Rattle.quota_units.specs.declared.resource.Resource.TheVariants.{Storage, Message as Messages}
use Rattle.quota_roots.specs.declared.root.RootSpec.{RootSpec}
use Rattle.account_core.specs.declared.calls.Call.{Call}
use Rattle.account_core.specs.declared.calls.Call.TheVariants.{Deliver, Check, Quota as QuotaCall, SetLimits, Roots as RootsCall, Status as StatusCall}
use Rattle.account_core.specs.declared.calls.RootRow.{RootRow}
use Rattle.account_core.specs.declared.calls.Reply.TheVariants.{NoMailbox, Over, Delivered, Fits, NoRoot, Quota, LimitsSet, Roots, Status}
use Rattle.account_core.specs.Account.{Account}
use Rattle.account_core.specs.Delivering.{delivered_base}
use Rattle.account_core.specs.History.{replay, reply, entry_of}
use Rattle.account_core.specs.Worked.{plain_message, worked_root, one_root, worked, made}

-- a message of this number of octets, without flags, for this mailbox
abbrev pub delivery : List ℕ → ℕ → Call
delivery mailbox octets = Deliver mailbox octets (flags_among [])

-- these limits of octets and of messages
abbrev pub limited : Option ℕ → Option ℕ → LimitNumbers
limited octets count = record { octets = octets; count = count }

-- this root, with its usage and its limits
abbrev pub root_row : ℕ → ℕ → ℕ → LimitNumbers → RootRow
root_row root octets count limits = record {
  root = root;
  octets = octets;
  count = count;
  limits = limits;
}

-- an account with a limit of 1024 octets and no message
abbrev pub empty : Account
empty = worked (Some 1024) []

-- A message may take a root up to its limit and no further. A mailbox that no root governs has no
-- limit. A delivery that was refused or that failed counts nowhere. An accepted delivery has its
-- number in its name, and keeps its flags.
pub record DeliveriesAreAnswered : Type 0 where
  pub whole : reply one_root empty [] (delivery (codes "INBOX") 1024) ≡ Delivered 1
  pub above : reply one_root empty [] (delivery (codes "INBOX") 1025) ≡ Over 0 Storage
  pub no_mailbox : reply one_root empty [] (delivery (codes "Old") 1025) ≡ NoMailbox
  pub more : reply one_root empty (made (delivery (codes "INBOX") 1024) ∷ [])
      (delivery (codes "Lists") 1) ≡ Over 0 Storage
  pub counted : reply one_root empty (made (delivery (codes "INBOX") 1024) ∷ []) (QuotaCall [])
      ≡ Quota (root_row 0 1024 1 (limited (Some 1024) None))
  pub nothing : reply one_root empty (made (delivery (codes "INBOX") 1024) ∷ [])
      (delivery (codes "INBOX") 0) ≡ Delivered 2
  pub ungoverned : reply one_root empty (made (delivery (codes "INBOX") 1024) ∷ [])
      (delivery (codes "Trash") 5000) ≡ Delivered 2
  pub refused : reply one_root empty (made (delivery (codes "INBOX") 1025) ∷ [])
      (delivery (codes "INBOX") 1024) ≡ Delivered 1
  pub failed : reply one_root empty (entry_of 0 (delivery (codes "INBOX") 1024) true ∷ [])
      (delivery (codes "INBOX") 1024) ≡ Delivered 1
  pub named : (replay one_root empty
      (made (delivery (codes "INBOX") 7) ∷ made (delivery (codes "Trash") 8) ∷ [])).messages
      ≡ plain_message (codes "INBOX") (delivered_base 1700000000 1) 7
      ∷ plain_message (codes "Trash") (delivered_base 1700000000 2) 8 ∷ []
  pub flagged : reply one_root empty (made (Deliver (codes "INBOX") 7 (flags_among (codes "ST")))
      ∷ []) (StatusCall (codes "INBOX")) ≡ Status 1 0 1 7 7

-- an account with a limit of 2048 octets, which uses half of them
abbrev pub half_full : Account
half_full = worked (Some 2048) (plain_message (codes "INBOX") (codes "1.mx") 1024 ∷ [])

-- a check's reply says whether INBOX would take the message; the check itself takes nothing
pub record ChecksAreAnswered : Type 0 where
  pub over : reply one_root half_full [] (Check 2000) ≡ Over 0 Storage
  pub fits : reply one_root half_full [] (Check 1024) ≡ Fits
  pub kept : reply one_root half_full (made (Check 1024) ∷ []) (Check 1024) ≡ Fits

-- two roots: the one above, and one for the mailbox Lists and those below it
abbrev pub two_roots : List RootSpec
two_roots = worked_root ∷ (record { name = codes "lists"; prefix = Some (codes "Lists") }) ∷ []

-- an account of these two roots, with limits of 20 octets and 1 message for the first root, and 10
-- octets for the second
abbrev pub two_limits : Account
two_limits = record {
  limits = limited (Some 20) (Some 1) ∷ limited (Some 10) None ∷ [];
  mailboxes = codes "INBOX" ∷ codes "Lists" ∷ [];
  messages = [];
  deliveries = 0;
  epoch = 1700000000;
  generation = 0;
}

-- a refusal names the first root that would be over, and storage before messages if both would be;
-- the roots of a mailbox are listed even if the mailbox does not exist
pub record RootsAreNamed : Type 0 where
  pub second : reply two_roots two_limits [] (delivery (codes "Lists") 15) ≡ Over 1 Storage
  pub first : reply two_roots two_limits (made (delivery (codes "INBOX") 5) ∷ [])
      (delivery (codes "Lists") 15) ≡ Over 0 Messages
  pub storage : reply two_roots two_limits (made (delivery (codes "INBOX") 5) ∷ [])
      (delivery (codes "Lists") 16) ≡ Over 0 Storage
  pub unknown : reply one_root (worked (Some 524288) []) [] (RootsCall (codes "Nowhere"))
      ≡ Roots (root_row 0 0 0 (limited (Some 524288) None) ∷ [])
  pub ungoverned : reply one_root (worked (Some 524288) []) [] (RootsCall (codes "Trash"))
      ≡ Roots []
  pub below : reply two_roots two_limits (made (delivery (codes "Lists") 10) ∷ [])
      (RootsCall (codes "Lists.a"))
      ≡ Roots
      (root_row 0 10 1 (limited (Some 20) (Some 1)) ∷ root_row 1 10 1 (limited (Some 10) None) ∷ [])
  pub beside : reply two_roots two_limits [] (RootsCall (codes "Listsa"))
      ≡ Roots (root_row 0 0 0 (limited (Some 20) (Some 1)) ∷ [])

-- a change of the limits of this root to these limits
abbrev pub change : List ℕ → Option ℕ → Option ℕ → Call
change root octets count = SetLimits root (limited octets count)

-- A change removes the limits that it does not list. The limits of other roots stay, and a usage
-- may be above the new limits.
pub record LimitsAreAnswered : Type 0 where
  pub told : reply one_root (worked (Some 524288) []) [] (QuotaCall [])
      ≡ Quota (root_row 0 0 0 (limited (Some 524288) None))
  pub replaced : reply one_root (worked (Some 524288) []) [] (change [] None (Some 10))
      ≡ LimitsSet (root_row 0 0 0 (limited None (Some 10)))
  pub after : reply one_root (worked (Some 524288) []) (made (change [] None (Some 10)) ∷ [])
      (QuotaCall []) ≡ Quota (root_row 0 0 0 (limited None (Some 10)))
  pub removed : reply one_root (worked (Some 524288) []) [] (change [] None None)
      ≡ LimitsSet (root_row 0 0 0 (limited None None))
  pub below : reply one_root half_full [] (change [] (Some 1) None)
      ≡ LimitsSet (root_row 0 1024 1 (limited (Some 1) None))
  pub failed : reply one_root half_full (entry_of 0 (change [] (Some 1) None) true ∷ [])
      (Check 1024) ≡ Fits
  pub other : reply two_roots two_limits (made (change (codes "lists") (Some 15) None) ∷ [])
      (QuotaCall []) ≡ Quota (root_row 0 0 0 (limited (Some 20) (Some 1)))
  pub room : reply two_roots two_limits (made (change (codes "lists") (Some 15) None) ∷ [])
      (delivery (codes "Lists") 15) ≡ Delivered 1
  pub no_root : reply two_roots two_limits [] (change (codes "Lists") None None) ≡ NoRoot
  pub no_such : reply two_roots two_limits (made (change (codes "Lists") None None) ∷ [])
      (QuotaCall (codes "Lists")) ≡ NoRoot
