-- The calls that count the messages of mailboxes: the status of one, the parts of a scan, and the
-- install that ends a scan.
use Rattle.std.specs.Prelude.{ℕ, List, map, slice_get, nat_eq, Option, Some, None, if◌then◌else◌}
use Rattle.quota_roots.specs.declared.root.RootSpec.{RootSpec}
use Rattle.quota_roots.specs.Governing.{governing}
use Rattle.account_core.specs.declared.calls.Reply.{Reply}
use Rattle.account_core.specs.declared.calls.Reply.TheVariants.{Status, Begun, NoPart, Part, Changed, Installed}
use Rattle.account_core.specs.Account.{Account, Message}
use Rattle.account_core.specs.Messages.{sum_in}
use Rattle.account_core.specs.Refusals.{in_mailbox, usages}

-- how many messages a mailbox has, how many of them are unseen, how many are deleted, the octets of
-- the deleted ones, and the octets of all: STATUS of RFC 9051, and of RFC 9208 for the deleted ones
-- (DELETED, DELETED-STORAGE)
abbrev pub status_of : List ℕ → List Message → Reply
status_of mailbox messages = Status
    (sum_in mailbox (λ m. 1) messages)
    (sum_in mailbox (λ m. if m.flags.seen then 0 else 1) messages)
    (sum_in mailbox (λ m. if m.flags.trashed then 1 else 0) messages)
    (sum_in mailbox (λ m. if m.flags.trashed then m.octets else 0) messages)
    (sum_in mailbox (λ m. m.octets) messages)

-- the reply to a call for the status of a mailbox
abbrev pub status_reply : Account → List ℕ → Reply
status_reply account mailbox = in_mailbox account mailbox (status_of mailbox account.messages)

-- the reply to the begin of a scan: the generation, and the roots that govern each mailbox
abbrev pub begun_reply : List RootSpec → Account → Reply
begun_reply roots account = Begun account.generation (map (governing roots) account.mailboxes)

-- the generation, and the octets and the number of the messages of a mailbox
abbrev pub part_of : Account → Option (List ℕ) → Reply
part_of account None = NoPart
part_of account (Some mailbox) = Part account.generation
    (sum_in mailbox (λ m. m.octets) account.messages) (sum_in mailbox (λ m. 1) account.messages)

-- the reply to a part of a scan, for the mailbox at this place
abbrev pub part_reply : Account → ℕ → Reply
part_reply account index = part_of account (slice_get account.mailboxes index)

-- the reply to the install of a scan that was begun at this generation: the usage of each root, if
-- the account still has this generation
abbrev pub install_reply : List RootSpec → Account → ℕ → Reply
install_reply roots account generation =
    if nat_eq generation account.generation then Installed (usages roots account)
    else Changed generation account.generation
