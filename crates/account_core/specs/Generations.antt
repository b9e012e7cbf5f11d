-- The generation of a history, and what follows if two generations are equal.
use Rattle.std.specs.Prelude.{◌≡◌, ◌+◌, ℕ, Bool, true, false, not, if◌then◌else◌, List, [], ◌∷◌, map, bytes_eq}
use Rattle.quota_roots.specs.declared.root.RootSpec.{RootSpec}
use Rattle.account_core.specs.declared.calls.Call.{Call}
use Rattle.account_core.specs.declared.calls.Call.TheVariants.{Move}
use Rattle.account_core.specs.declared.calls.Entry.{Entry}
use Rattle.account_core.specs.declared.calls.Reply.{Reply}
use Rattle.account_core.specs.declared.calls.Reply.TheVariants.{Delivered, Removed, Moved}
use Rattle.account_core.specs.Account.{Account, Message, usage}
use Rattle.account_core.specs.Machine.{reply_of}
use Rattle.account_core.specs.History.{account_after, replay}
use Rattle.account_core.specs.Histories.{Begins}

-- a move between two different mailboxes
abbrev pub is_between : Call → Bool
is_between (Move from base to) = not (bytes_eq from to)
is_between call = false

-- whether a call with this reply changes which messages there are, or where they are
abbrev pub is_change : Call → Reply → Bool
is_change call (Delivered number) = true
is_change call Removed = true
is_change call Moved = is_between call
is_change call given = false

-- whether an entry changes that; an entry with fault does not
abbrev pub changes : List RootSpec → Account → Entry → Bool
changes roots account entry =
    if entry.fault then false else is_change entry.call (reply_of roots account entry.call)

-- the generation of a history: how many of its entries without fault got the reply Delivered,
-- Removed, or Moved between two mailboxes
abbrev pub generation : List RootSpec → Account → List Entry → ℕ
generation roots account [] = 0
generation roots account (entry ∷ entries) =
    (if changes roots account entry then 1
    else 0) + generation roots (account_after roots account entry) entries

-- the account's generation is what it was opened with, plus the generation of its history
abbrev pub GenerationIsCounted : Type 0
GenerationIsCounted =
    (roots : List RootSpec) (opening : Account) (history : List Entry)
    → (replay roots opening history).generation
    ≡ opening.generation + generation roots opening history

-- a message without its flags
abbrev pub unflagged : Message → List ℕ × List ℕ × ℕ
unflagged message = (message.mailbox, message.base, message.octets)

-- If a history has a prefix of the same generation, the messages of their accounts agree in
-- mailbox, base and octets, one by one in order, and every usage is equal.
abbrev pub EqualGenerationEqualUsage : Type 0
EqualGenerationEqualUsage =
    (roots : List RootSpec) (opening : Account) (earlier later : List Entry) → Begins earlier later
    → generation roots opening earlier ≡ generation roots opening later
    → (map unflagged (replay roots opening earlier).messages
    ≡ map unflagged (replay roots opening later).messages)
    × ((root : RootSpec)
    → usage root (replay roots opening earlier) ≡ usage root (replay roots opening later))
