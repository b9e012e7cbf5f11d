-- What an account is, and the usage of a root: the octets and the number of the messages whose
-- mailboxes the root governs.
use Rattle.std.specs.Prelude.{ℕ, List, sum_by, if◌then◌else◌}
use Rattle.quota_units.specs.Limiting.{LimitNumbers}
use Rattle.quota_units.specs.declared.flags.Flags.{Flags}
use Rattle.quota_units.specs.declared.totals.Totals.{Totals}
use Rattle.quota_roots.specs.declared.root.RootSpec.{RootSpec}
use Rattle.quota_roots.specs.Governing.{governs}

pub record Message : Type 0 where
  pub mailbox : List ℕ
  pub base : List ℕ
  pub octets : ℕ
  pub flags : Flags

pub record Account : Type 0 where
  -- the limits of each root, in the order of the roots
  pub limits : List LimitNumbers
  pub mailboxes : List (List ℕ)
  pub messages : List Message
  -- how many deliveries were accepted
  pub deliveries : ℕ
  -- the second at which the account was opened
  pub epoch : ℕ
  -- how many deliveries, removals and moves between two mailboxes were made since then
  pub generation : ℕ

-- the sum of a weight over the messages whose mailboxes the root governs
abbrev pub counted : RootSpec → (Message → ℕ) → List Message → ℕ
counted root weight messages = sum_by (λ m. if governs root m.mailbox then weight m else 0) messages

abbrev pub usage : RootSpec → Account → Totals
usage root account = record {
  octets = counted root (λ m. m.octets) account.messages;
  count = counted root (λ m. 1) account.messages;
}
