-- What a command's text has come to: a command, a text that goes on, or a fault. The octets of an
-- APPEND's message are no part of the text.
use Rattle.std.specs.Prelude.{◌<◌, ◌≤◌, ℕ, Bool, ◌+◌, ◌-◌, ◌==◌, nat_lt, nat_le, if◌then◌else◌, List, [], ◌∷◌, length, take, drop, Option, Some, None, Result, Ok, Err}
use Rattle.std.specs.List.{list_any}
use Rattle.imap_grammar.specs.declared.command.Command.{Command}
use Rattle.imap_grammar.specs.declared.command.Command.TheVariants.{Capability, Noop, Logout, Login, GetQuota, GetQuotaRoot, SetQuota, Status, Append}
use Rattle.imap_grammar.specs.declared.command.CommandFault.{CommandFault}
use Rattle.imap_grammar.specs.declared.command.CommandFault.TheVariants.{TooLong, Syntax, LiteralTooLarge, MessageTooLarge}
use Rattle.imap_grammar.specs.declared.progress.Progress.{Progress}
use Rattle.imap_grammar.specs.declared.progress.Progress.TheVariants.{Whole, Literal, Message, More}
use Rattle.imap_grammar.specs.Grammar.{Tagged}
use Rattle.imap_grammar.specs.Reading.{Reading, got, wrong, short, marked, line_end}
use Rattle.imap_grammar.specs.Commands.{command_at}
use Rattle.imap_grammar.specs.Faults.{line_fault, unended_fault}

-- the most bytes that a command's text may have
abbrev pub max_text : ℕ
max_text = 16384

-- the most octets that a message may have
abbrev pub max_message : ℕ
max_message = 67108864

-- what a text has come to: no fault yet, or a fault
abbrev pub Outcome : Type 0
Outcome = Result Progress CommandFault

-- the octets of the message that comes after the command's marker
abbrev pub message_size : Command → Option ℕ
message_size (Append mailbox flags size) = Some size
message_size Capability = None
message_size Noop = None
message_size Logout = None
message_size (Login user password) = None
message_size (GetQuota root) = None
message_size (GetQuotaRoot mailbox) = None
message_size (SetQuota root limits) = None
message_size (Status mailbox items) = None

-- a text of a command that has not ended is too long, or else has come to this
abbrev pub long_or : List ℕ → Outcome → Outcome
long_or text outcome = if nat_le max_text (length text) then Err TooLong else outcome

-- a line feed is at or after this place, among the most bytes that a text may have
abbrev pub has_end : List ℕ → (at : ℕ) → Bool
has_end text at = list_any (λ b. b == 10) (drop at (take max_text text))

-- a text that goes wrong at this place: it has a fault once its line ends
abbrev pub wrong_at : (login : Bool) → List ℕ → (at : ℕ) → Outcome
wrong_at login text at =
    if has_end text at then Err (line_fault login text at) else long_or text (Ok (More at))

-- a text with which a command begins
abbrev pub goes_on : List ℕ → Outcome
goes_on text = long_or text (Ok (More (length text)))

-- a text that begins with a command, and then has this rest
abbrev pub whole_before : List ℕ → Tagged → (rest : List ℕ) → Outcome
whole_before text tagged [] = Ok (Whole tagged.command (length tagged.tag))
whole_before text tagged (b ∷ bs) = Err (Syntax (length text - length (b ∷ bs)))

-- the same, but the command may be too long
abbrev pub ended_before : List ℕ → Tagged → (rest : List ℕ) → Outcome
ended_before text tagged rest =
    if nat_lt max_text (length text - length rest) then Err TooLong
    else whole_before text tagged rest

-- a text that needs a line's end alone after its marker, of which this was read
abbrev pub closed : (login : Bool) → List ℕ → Tagged → Reading (Unit {0}) → Outcome
closed login text tagged (got end rest) = ended_before text tagged rest
closed login text tagged (wrong rest) = wrong_at login text (length text - length rest)
closed login text tagged short = goes_on text
closed login text tagged (marked count) = goes_on text

-- a text that has this rest after the marker of its message. If there is no rest, the message's
-- octets come next.
abbrev pub after_marker : (login : Bool) → List ℕ → Tagged → (size : ℕ) → List ℕ → Outcome
after_marker login text tagged size [] = Ok (Message size)
after_marker login text tagged size (b ∷ bs) = closed login text tagged (line_end (b ∷ bs))

-- the same, but the text may be too long up to its marker, or the message too large
abbrev pub at_marker : (login : Bool) → List ℕ → Tagged → (size : ℕ) → (rest : List ℕ) → Outcome
at_marker login text tagged size rest =
    if nat_le max_text (length text - length rest) then Err TooLong
    else if nat_lt max_message size then Err MessageTooLarge
    else after_marker login text tagged size rest

-- a text that begins with a command, of which the message has this size if it has one, and then has
-- this rest
abbrev pub read_before : (login : Bool) → List ℕ → Tagged → Option ℕ → List ℕ → Outcome
read_before login text tagged None rest = ended_before text tagged rest
read_before login text tagged (Some size) rest = at_marker login text tagged size rest

-- a text that ends with the marker of a literal
abbrev pub at_literal : List ℕ → (count : ℕ) → Outcome
at_literal text count =
    if nat_lt max_text (length text + count) then Err LiteralTooLarge else Ok (Literal count)

-- a text of whose command this was read
abbrev pub progress_of : (login : Bool) → List ℕ → Reading Tagged → Outcome
progress_of login text (got tagged rest) =
    read_before login text tagged (message_size tagged.command) rest
progress_of login text (wrong rest) = wrong_at login text (length text - length rest)
progress_of login text short = goes_on text
progress_of login text (marked count) = long_or text (at_literal text count)

-- what a text has come to, in a session that is logged in or not
abbrev pub progress_in : (login : Bool) → List ℕ → Outcome
progress_in login text = progress_of login text (command_at login text)

-- a text that has to be a command, and has come to this
abbrev pub command_of : (login : Bool) → List ℕ → Outcome → Result Command CommandFault
command_of login text (Ok (Whole command tag)) = Ok command
command_of login text (Ok (Literal count)) = Err (line_fault login text (length text))
command_of login text (Ok (Message count)) = Err (line_fault login text (length text))
command_of login text (Ok (More at)) = Err (unended_fault login text at)
command_of login text (Err fault) = Err fault

-- the command that a text is, all of it, or its fault. A text with which a command begins is wrong
-- at its end.
abbrev pub command_in : (login : Bool) → List ℕ → Result Command CommandFault
command_in login text = command_of login text (progress_in login text)

-- the sizes of a text that has come to this, and of what comes next
abbrev pub Fits : List ℕ → Progress → Type 0
Fits text (Whole command tag) = (tag < length text) × (length text ≤ max_text)
Fits text (Literal count) = (length text < max_text) × (length text + count ≤ max_text)
Fits text (Message count) = (length text < max_text) × (count ≤ max_message)
Fits text (More at) = (length text < max_text) × (at ≤ length text)
