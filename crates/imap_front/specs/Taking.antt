-- The request that was taken from a feed.
use Rattle.std.specs.Prelude.{◌≤◌, ℕ, List, length, take}
use Rattle.imap_grammar.specs.Requests.{Request, command, refused, fault_tag}
use Rattle.imap_front.specs.declared.request.Taken.{Taken}
use Rattle.imap_front.specs.declared.request.Taken.TheVariants.{Command, Fault}

-- the request that was taken, of which these are the bytes, without the octets of its message
abbrev pub request_taken : (text : List ℕ) → Taken → Request
request_taken text (Command tag own message) = command (take tag text) own message.items
request_taken text (Fault fault) = refused (fault_tag fault text) fault

-- the tag of a command that was taken lies within its text, and its message has at most 67108864
-- octets
abbrev pub HasSizes : (text : List ℕ) → Taken → Type 0
HasSizes text (Command tag own message) = (tag ≤ length text) × (length message.items ≤ 67108864)
HasSizes text (Fault fault) = Unit {0}
