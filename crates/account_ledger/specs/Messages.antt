-- The messages in the files of an account's mailboxes.
use Rattle.std.specs.Prelude.{◌≡◌, ℕ, List, map, sum_by}
use Rattle.std.specs.List.{flat_map}
use Rattle.keeper.specs.Files.{Row, listed}
use Rattle.keeper.specs.declared.rows.FileRow.{FileRow}
use Rattle.message_names.specs.Messages.{message_of}
use Rattle.account_core.specs.Account.{Account, Message}
pub use Rattle.account_core.specs.Messages.{is_message, how_many}

-- the message in a file of a mailbox
abbrev pub message_in : List ℕ → FileRow → Message
message_in mailbox file = record {
  mailbox = mailbox;
  base = (message_of file.name file.length).base;
  octets = (message_of file.name file.length).octets;
  flags = (message_of file.name file.length).flags;
}

-- the messages of a mailbox
abbrev pub messages_of : List Row → List ℕ → List Message
messages_of rows mailbox = map (message_in mailbox) (listed mailbox rows)

-- the messages of these mailboxes: mailbox by mailbox, and in each mailbox in the order of its
-- files
abbrev pub messages_in : List (List ℕ) → List Row → List Message
messages_in mailboxes rows = flat_map (messages_of rows) mailboxes

-- the same messages in any order: any weight of a message adds up to the same over both lists
abbrev pub AreSame : List Message → List Message → Type 0
AreSame messages others = (weight : Message → ℕ) → sum_by weight messages ≡ sum_by weight others

-- the files in the account's mailboxes and the account's messages correspond one to one
abbrev pub StandFor : List Row → Account → Type 0
StandFor rows account = AreSame (messages_in account.mailboxes rows) account.messages
