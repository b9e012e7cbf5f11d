-- Worked accounts of one root, and the machine's replies there.
use Rattle.std.specs.Prelude.{◌≡◌, ℕ, false, List, [], ◌∷◌, Option, Some, None, codes}
use Rattle.quota_units.specs.Flagging.{flags_among}
use Rattle.quota_units.specs.declared.resource.Resource.TheVariants.{Storage}
use Rattle.account_core.specs.declared.calls.Call.{Call}
use Rattle.account_core.specs.declared.calls.Call.TheVariants.{Remove, Mark, Move, Status as StatusCall, ScanBegin, ScanPart, Install}
use Rattle.account_core.specs.declared.calls.Entry.{Entry}
use Rattle.account_core.specs.declared.calls.Reply.TheVariants.{NoMailbox, NoMessage, Over, Removed, NameTaken, Moved, Status, Begun, NoPart, Part, Changed, Installed}
use Rattle.account_core.specs.Account.{Account, Message}
use Rattle.account_core.specs.History.{reply, entry_of}
use Rattle.quota_roots.specs.declared.root.RootSpec.{RootSpec}

-- a message without flags
abbrev pub plain_message : List ℕ → List ℕ → ℕ → Message
plain_message mailbox base octets = record {
  mailbox = mailbox;
  base = base;
  octets = octets;
  flags = flags_among [];
}

-- the root of the empty name, which governs all mailboxes but Trash
abbrev pub worked_root : RootSpec
worked_root = record { name = []; prefix = None }

abbrev pub one_root : List RootSpec
one_root = worked_root ∷ []

-- an account of that root, with the mailboxes INBOX, Lists and Trash
abbrev pub worked : Option ℕ → List Message → Account
worked limit messages = record {
  limits = (record { octets = limit; count = None }) ∷ [];
  mailboxes = codes "INBOX" ∷ codes "Lists" ∷ codes "Trash" ∷ [];
  messages = messages;
  deliveries = 0;
  epoch = 1700000000;
  generation = 0;
}

abbrev pub made : Call → Entry
made call = entry_of 0 call false

-- an account that the one message of INBOX fills
abbrev pub full : Account
full = worked (Some 1024) (plain_message (codes "Trash") (codes "7.mx") 1
    ∷ plain_message (codes "INBOX") (codes "8.mx") 1024 ∷ [])

abbrev pub out_of_trash : Call
out_of_trash = Move (codes "Trash") (codes "7.mx") (codes "INBOX")

abbrev pub into_trash : Call
into_trash = Move (codes "INBOX") (codes "8.mx") (codes "Trash")

-- a move out of Trash must fit like a delivery, a move into Trash frees octets, and a move within a
-- mailbox needs no room
pub record MovesAreAnswered : Type 0 where
  pub too_much : reply one_root full [] out_of_trash ≡ Over 0 Storage
  pub freed : reply one_root full (made out_of_trash ∷ []) into_trash ≡ Moved
  pub fits : reply one_root full (made out_of_trash ∷ made into_trash ∷ []) out_of_trash ≡ Moved
  pub within : reply one_root full [] (Move (codes "INBOX") (codes "8.mx") (codes "INBOX")) ≡ Moved
  pub no_source : reply one_root full [] (Move (codes "Old") (codes "8.mx") (codes "INBOX"))
      ≡ NoMailbox
  pub no_target : reply one_root full [] (Move (codes "INBOX") (codes "9.mx") (codes "Old"))
      ≡ NoMailbox
  pub gone : reply one_root full (made into_trash ∷ []) into_trash ≡ NoMessage
  pub taken : reply one_root (worked None (plain_message (codes "INBOX") (codes "1.mx") 1
      ∷ plain_message (codes "Lists") (codes "1.mx") 2 ∷ [])) []
      (Move (codes "INBOX") (codes "1.mx") (codes "Lists")) ≡ NameTaken

-- an account without limits, whose one message is moved twice and then removed
abbrev pub free : Account
free = worked None (plain_message (codes "INBOX") (codes "1.mx") 10 ∷ [])

abbrev pub moved_twice : List Entry
moved_twice = made (Move (codes "INBOX") (codes "1.mx") (codes "Lists"))
    ∷ made (Move (codes "Lists") (codes "1.mx") (codes "Trash")) ∷ []

abbrev pub marked : List ℕ → Entry
marked letters = made (Mark (codes "INBOX") (codes "1.mx") (flags_among letters))

pub record MessagesAreCounted : Type 0 where
  pub in_trash : reply one_root free moved_twice (StatusCall (codes "Trash")) ≡ Status 1 1 0 0 10
  pub left : reply one_root free moved_twice (StatusCall (codes "INBOX")) ≡ Status 0 0 0 0 0
  pub removed : reply one_root free moved_twice (Remove (codes "Trash") (codes "1.mx")) ≡ Removed
  pub seen : reply one_root free (marked (codes "S") ∷ []) (StatusCall (codes "INBOX"))
      ≡ Status 1 0 0 0 10
  pub deleted : reply one_root free (marked (codes "S") ∷ marked (codes "T") ∷ [])
      (StatusCall (codes "INBOX")) ≡ Status 1 1 1 10 10

-- the numbers of a scan: the generation, and what each mailbox has
pub record ScansAreAnswered : Type 0 where
  pub begun : reply one_root free [] ScanBegin ≡ Begun 0 ((0 ∷ []) ∷ (0 ∷ []) ∷ [] ∷ [])
  pub refused : reply one_root full (made out_of_trash ∷ marked (codes "S") ∷ []) ScanBegin
      ≡ Begun 0 ((0 ∷ []) ∷ (0 ∷ []) ∷ [] ∷ [])
  pub part : reply one_root free [] (ScanPart 0) ≡ Part 0 10 1
  pub later : reply one_root free moved_twice (ScanPart 2) ≡ Part 2 10 1
  pub no_part : reply one_root free [] (ScanPart 3) ≡ NoPart
  pub stale : reply one_root free moved_twice (Install 0) ≡ Changed 0 2
  pub installed : reply one_root free [] (Install 0)
      ≡ Installed ((record { octets = 10; count = 1 }) ∷ [])
