-- The requests of a session, in all of its bytes: a command's text, and after APPEND's marker the
-- octets of its message.
use Rattle.std.specs.Prelude.{ℕ, Bool, ◌-◌, nat_lt, if◌then◌else◌, List, [], ◌∷◌, ◌++◌, length, take, drop, codes, Option, Some, None, Ok, Err}
use Rattle.imap_grammar.specs.declared.command.Command.{Command}
use Rattle.imap_grammar.specs.declared.command.CommandFault.{CommandFault}
use Rattle.imap_grammar.specs.declared.command.CommandFault.TheVariants.{TooLong, InvalidTag, Unknown, NotAuthenticated, AlreadyAuthenticated, Syntax, LiteralTooLarge, MessageTooLarge, NoMemory}
use Rattle.imap_grammar.specs.declared.progress.Progress.TheVariants.{Whole, Literal, Message, More}
use Rattle.imap_grammar.specs.Grammar.{Tagged}
use Rattle.imap_grammar.specs.Reading.{Reading, got, wrong, short, marked}
use Rattle.imap_grammar.specs.Commands.{command_at}
use Rattle.imap_grammar.specs.Faults.{tag_in}
use Rattle.imap_grammar.specs.Progressing.{Outcome, message_size, progress_in}

pub data Request : Type 0 where
  -- a command with its tag, and the message that APPEND adds
  command : (tag : List ℕ) (own : Command) (message : List ℕ) → Request
  -- what is no command, by its fault
  refused : (tag : List ℕ) (fault : CommandFault) → Request

-- the tag that the answer to a fault has
abbrev pub fault_tag : CommandFault → List ℕ → List ℕ
fault_tag TooLong text = []
fault_tag InvalidTag text = []
fault_tag Unknown text = tag_in text
fault_tag NotAuthenticated text = tag_in text
fault_tag AlreadyAuthenticated text = tag_in text
fault_tag (Syntax at) text = tag_in text
fault_tag LiteralTooLarge text = tag_in text
fault_tag MessageTooLarge text = tag_in text
fault_tag NoMemory text = []

-- the request that a command's text and its message are
abbrev pub request_of : (text message : List ℕ) → Outcome → Option Request
request_of text message (Ok (Whole own tag)) = Some (command (take tag text) own message)
request_of text message (Ok (Literal count)) = None
request_of text message (Ok (Message count)) = None
request_of text message (Ok (More at)) = None
request_of text message (Err fault) = Some (refused (fault_tag fault text) fault)

-- the request that a text and a message are, if they are one
abbrev pub request_in : (login : Bool) → (text message : List ℕ) → Option Request
request_in login text message = request_of text message (progress_in login text)

-- a text up to the marker of a message of this size, and the bytes after it: the message's octets,
-- which are no part of the text, and then the rest of the text
abbrev pub with_message : (login : Bool) → (text : List ℕ) → (size : ℕ) → List ℕ → Option Request
with_message login text size rest =
    if nat_lt (length rest) size then request_in login text []
    else request_in login (text ++ drop size rest) (take size rest)

-- bytes that begin with a command, of which the message has this size if it has one, and then have
-- this rest
abbrev pub with_size : (login : Bool) → List ℕ → Option ℕ → (rest : List ℕ) → Option Request
with_size login bytes None rest = request_in login bytes []
with_size login bytes (Some size) rest =
    with_message login (take (length bytes - length rest) bytes) size rest

-- bytes of whose command this was read
abbrev pub whole_of : (login : Bool) → List ℕ → Reading Tagged → Option Request
whole_of login bytes (got tagged rest) =
    with_size login bytes (message_size tagged.command) rest
whole_of login bytes (wrong rest) = request_in login bytes []
whole_of login bytes short = request_in login bytes []
whole_of login bytes (marked count) = request_in login bytes []

-- the request that these bytes of a session are, if no shorter prefix of them is one; none if more
-- bytes have to come
abbrev pub whole_at : (login : Bool) → List ℕ → Option Request
whole_at login bytes = whole_of login bytes (command_at login bytes)

-- what the server writes before it reads octets of a literal or of a message (RFC 9051, section
-- 7.6)
abbrev pub ready : List ℕ
ready = codes "+ Ready\r\n"

-- what is written after a marker that is the end of the text
abbrev pub asks_for : Outcome → List ℕ
asks_for (Ok (Literal count)) = ready
asks_for (Ok (Message count)) = ready
asks_for (Ok (Whole own tag)) = []
asks_for (Ok (More at)) = []
asks_for (Err fault) = []

-- what is written when these bytes have come
abbrev pub asked_at : (login : Bool) → List ℕ → List ℕ
asked_at login bytes = asks_for (progress_in login bytes)

-- what is written while these bytes come after the first ones: a line for each prefix that is
-- longer than those, and ends with a marker that is not refused
abbrev pub asked_later : (login : Bool) → (come more : List ℕ) → List ℕ
asked_later login come [] = []
asked_later login come (b ∷ bs) =
    asked_at login (come ++ b ∷ []) ++ asked_later login (come ++ b ∷ []) bs
