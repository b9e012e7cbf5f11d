-- The request that is taken from a feed: its text, up to and with its empty line, and its message.
use Rattle.std.specs.Prelude.{◌≡◌, ◌≤◌, ℕ, Bool, true, false, ◌||◌, bytes_eq, List, [], ◌∷◌, ◌++◌, length, codes, Option, Result, Ok, Err}
use Rattle.wire_io.specs.declared.ends.After.{After}
use Rattle.wire_io.specs.declared.ends.After.TheVariants.{Open, Stopping}
use Rattle.wire_io.specs.declared.ends.LineEnd.{LineEnd}
use Rattle.wire_io.specs.declared.ends.LineEnd.TheVariants.{Whole, TooLong}
use Rattle.wire_io.specs.declared.ends.SessionEnd.{SessionEnd}
use Rattle.accounts_file.specs.Hosts.{Hosts}
use Rattle.front_core.specs.Taking.{Moves, Takes}
use Rattle.policy_front.specs.Attributes.{is_closed}
use Rattle.policy_front.specs.Texts.{Asked, checks, delivers, removes, marks, moves, stops, unknown, asked_of, max_text}
use Rattle.policy_front.specs.Requests.{Request, check, deliver, remove, mark, move, stop, other, bad}
use Rattle.policy_front.specs.Policy.{policy}
use Rattle.policy_front.specs.declared.reading.PolicyFault.{PolicyFault}
use Rattle.policy_front.specs.declared.reading.PolicyRequest.{PolicyRequest}
use Rattle.policy_front.specs.declared.reading.PolicyRequest.TheVariants.{Check, Deliver, Remove, Mark, Move, Stop, Other}

-- the request that asks for this, with this message if it is a delivery
abbrev pub request_with : Asked → (message : List ℕ) → Request
request_with (checks recipient size) message = check recipient size
request_with (delivers account mailbox octets flags) message =
    deliver account mailbox flags message
request_with (removes account mailbox name) message = remove account mailbox name
request_with (marks account mailbox name flags) message = mark account mailbox name flags
request_with (moves account mailbox name to) message = move account mailbox name to
request_with stops message = stop
request_with unknown message = other

-- the request that was taken: what was read in its text, with the message that came after the text
abbrev pub request_taken : (message : List ℕ) → Result PolicyRequest PolicyFault → Request
request_taken message (Ok request) = request_with (asked_of request) message
request_taken message (Err fault) = bad

-- what the session does after the answer to what a text asks for
abbrev pub after_asked : PolicyRequest → After
after_asked (Check recipient size) = Open
after_asked (Deliver account mailbox octets flags) = Open
after_asked (Remove account mailbox name) = Open
after_asked (Mark account mailbox name flags) = Open
after_asked (Move account mailbox name to) = Open
after_asked Stop = Stopping
after_asked Other = Open

-- a line that is empty but for its end
abbrev pub is_empty_line : List ℕ → Bool
is_empty_line line = bytes_eq line (codes "\n") || bytes_eq line (codes "\r\n")

-- no proper prefix of the text is closed by an empty line
abbrev pub IsNotClosedBefore : List ℕ → Type 0
IsNotClosedBefore text = (prefix : List ℕ) (b : ℕ) (more : List ℕ) → text ≡ prefix ++ b ∷ more
    → is_closed prefix ≡ false

-- all of a request's text: its first empty line closes it, in at most 8192 bytes
pub record IsText (text : List ℕ) : Type 0 where
  pub closed : is_closed text ≡ true
  pub first : IsNotClosedBefore text
  pub within : length text ≤ max_text

-- 8192 bytes that hold no empty line
pub record IsEndless (text : List ℕ) : Type 0 where
  pub unclosed : is_closed text ≡ false
  pub first : IsNotClosedBefore text
  pub full : length text ≡ max_text

abbrev pub EndsText : LineEnd → List ℕ → Type 0
EndsText Whole text = IsText text
EndsText TooLong text = IsEndless text

-- these bytes of a request were taken from the feed, or the session ended within its text
abbrev pub TakesText : (hosts : Hosts) (login : Option ℕ) (limit : ℕ) (message : List ℕ)
    (left left' written : Option (List ℕ)) (waiting waiting' : List ℕ)
    (taken taken' first at' : ℕ) (text : List ℕ) → Result LineEnd SessionEnd → Type 0
TakesText hosts login limit message left left' written waiting waiting' taken taken' first at' text
    (Ok end) = Moves left left' written written waiting waiting' taken taken' first at' text []
TakesText hosts login limit message left left' written waiting waiting' taken taken' first at' text
    (Err end) = Takes (policy hosts) login limit (request_taken message) left left' written written
    waiting waiting' taken taken' first at' (Err end)
