-- The calls that change the messages: deliveries, removals, marks and moves.
use Rattle.std.specs.Prelude.{ℕ, ◌+◌, List, [], ◌∷◌, ◌++◌, Option, Some, None, bytes_eq, is_some, if◌then◌else◌}
use Rattle.quota_units.specs.declared.flags.Flags.{Flags}
use Rattle.quota_roots.specs.declared.root.RootSpec.{RootSpec}
use Rattle.quota_roots.specs.Governing.{gaining}
use Rattle.account_core.specs.declared.calls.Reply.{Reply}
use Rattle.account_core.specs.declared.calls.Reply.TheVariants.{NoMessage, Delivered, Removed, Marked, NameTaken, Moved}
use Rattle.account_core.specs.Account.{Account, Message}
use Rattle.account_core.specs.Delivering.{delivered_base}
use Rattle.account_core.specs.Messages.{named_message, removed, changed, with_flags, with_mailbox}
use Rattle.account_core.specs.Refusals.{in_mailbox, if_message, over_of, over_in, over_or}

-- the reply to a delivery; its number counts the accepted deliveries, from 1 on
abbrev pub delivery_reply : List RootSpec → Account → List ℕ → ℕ → Reply
delivery_reply roots account mailbox octets =
    in_mailbox account mailbox
    (over_or (over_in roots account mailbox octets) (Delivered (account.deliveries + 1)))

-- the message that the delivery of this number brings
abbrev pub delivered_message : ℕ → ℕ → List ℕ → ℕ → Flags → Message
delivered_message epoch number mailbox octets flags = record {
  mailbox = mailbox;
  base = delivered_base epoch number;
  octets = octets;
  flags = flags;
}

-- the account after a delivery with this reply: an accepted message comes last
abbrev pub delivered_after : Account → List ℕ → ℕ → Flags → Reply → Account
delivered_after account mailbox octets flags (Delivered number) = record account {
  messages = account.messages ++ delivered_message account.epoch number mailbox octets flags ∷ [];
  deliveries = number;
  generation = account.generation + 1;
}
delivered_after account mailbox octets flags given = account

-- the reply to a call on the message of a mailbox: the given one, if there is such a message
abbrev pub message_reply : Account → List ℕ → List ℕ → Reply → Reply
message_reply account mailbox base given =
    in_mailbox account mailbox (if_message (named_message mailbox base account.messages) given)

-- the account after a removal with this reply
abbrev pub removed_after : Account → List ℕ → List ℕ → Reply → Account
removed_after account mailbox base Removed = record account {
  messages = removed mailbox base account.messages;
  generation = account.generation + 1;
}
removed_after account mailbox base given = account

-- the account after a mark with this reply
abbrev pub marked_after : Account → List ℕ → List ℕ → Flags → Reply → Account
marked_after account mailbox base flags Marked = record account {
  messages = changed mailbox base (with_flags flags) account.messages;
}
marked_after account mailbox base flags given = account

-- the reply to a move to another mailbox, if the message exists
abbrev pub move_between_reply : List RootSpec → Account → List ℕ → List ℕ → List ℕ → Message → Reply
move_between_reply roots account from base to message =
    if is_some (named_message to base account.messages) then NameTaken
    else over_or (over_of roots account (gaining roots from to) message.octets) Moved

-- the reply to a move, if the mailboxes exist
abbrev pub moving_reply : List RootSpec → Account → List ℕ → List ℕ → List ℕ → Option Message
    → Reply
moving_reply roots account from base to None = NoMessage
moving_reply roots account from base to (Some message) =
    if bytes_eq from to then Moved else move_between_reply roots account from base to message

-- the reply to a move
abbrev pub move_reply : List RootSpec → Account → List ℕ → List ℕ → List ℕ → Reply
move_reply roots account from base to =
    in_mailbox account from (in_mailbox account to
    (moving_reply roots account from base to (named_message from base account.messages)))

-- the account after a move with this reply: the message keeps its place, and a move within a
-- mailbox changes nothing
abbrev pub moved_after : Account → List ℕ → List ℕ → List ℕ → Reply → Account
moved_after account from base to Moved =
    if bytes_eq from to then account
    else (record account {
      messages = changed from base (with_mailbox to) account.messages;
      generation = account.generation + 1;
    })
moved_after account from base to given = account
