-- The file of the message that a mailbox and a base name, and the file name of a delivery.
use Rattle.std.specs.Prelude.{◌≡◌, ℕ, true, List, Option, Some, find, bytes_eq}
use Rattle.account_core.specs.Account.{Account, Message}
use Rattle.account_core.specs.Machine.{has_mailbox}
use Rattle.account_core.specs.Messages.{named_message}
use Rattle.keeper.specs.declared.rows.FileRow.{FileRow}
use Rattle.account_opening.specs.Bases.{base_in}
use Rattle.quota_units.specs.declared.flags.Flags.{Flags}
use Rattle.message_names.specs.Written.{written_name}
use Rattle.message_names.specs.Messages.{message_of}
use Rattle.message_names.specs.Sizes.{cut_size}
use Rattle.account_core.specs.Delivering.{delivered_base}

-- the first of a mailbox's files that has this base
abbrev pub file_named : List ℕ → List FileRow → Option FileRow
file_named base files = find (λ file. bytes_eq (base_in file) base) files

-- the account has both mailboxes, and the base names this message in the first of them
pub record IsThere (from base to : List ℕ) (message : Message) (account : Account) : Type 0 where
  pub source : has_mailbox account from ≡ true
  pub target : has_mailbox account to ≡ true
  pub there : named_message from base account.messages ≡ Some message

-- a file name of the delivery of this number, from which the base, the cut octets and the flags can
-- be read
pub record IsDeliveryName (epoch number octets : ℕ) (flags : Flags) (name : List ℕ) : Type 0 where
  pub written : name ≡ written_name (delivered_base epoch number) octets flags
  pub reads : (length : ℕ) → message_of name length
      ≡ record { base = delivered_base epoch number; octets = cut_size octets; flags = flags }
