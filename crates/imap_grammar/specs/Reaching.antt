-- How a request comes in a session: lines of a command's text, octets of its literals, the octets
-- of its message, and the line after them.
use Rattle.std.specs.Prelude.{◌≡◌, ◌≢◌, ◌≤◌, ◌+◌, ◌⊎◌, ℕ, Bool, List, [], ◌∷◌, ◌++◌, length, None, Result, Ok, Err}
use Rattle.imap_grammar.specs.declared.command.CommandFault.{CommandFault}
use Rattle.imap_grammar.specs.declared.progress.Progress.{Progress}
use Rattle.imap_grammar.specs.declared.progress.Progress.TheVariants.{Whole, Literal, Message, More}
use Rattle.imap_grammar.specs.Grammar.{Tagged}
use Rattle.imap_grammar.specs.Reading.{Reading, got, wrong, short, marked}
use Rattle.imap_grammar.specs.Commands.{command_at}
use Rattle.imap_grammar.specs.Progressing.{max_text, progress_in}
use Rattle.imap_grammar.specs.Requests.{whole_at, asked_later}

-- no byte is a line feed
abbrev pub HasNoLineFeed : List ℕ → Type 0
HasNoLineFeed [] = Unit {0}
HasNoLineFeed (b ∷ bs) = (b ≢ 10) × HasNoLineFeed bs

-- a line feed is the last byte, and the only one
abbrev pub EndsLine : List ℕ → Type 0
EndsLine line = (body : List ℕ) × HasNoLineFeed body × (line ≡ body ++ 10 ∷ [])

-- these bytes came after the last request, and this was written while they came. No shorter prefix
-- of them is a whole request.
pub record Reached (login : Bool) (come written : List ℕ) : Type 0 where
  pub early : (prefix : List ℕ) (b : ℕ) (more : List ℕ) → come ≡ prefix ++ b ∷ more
      → whole_at login prefix ≡ None
  pub asked : written ≡ asked_later login [] come

-- a text of which this was read goes on with bytes of a line: it has no fault yet, is no command,
-- and does not end with the marker of a message
abbrev pub TakesLine : (text : List ℕ) → Reading Tagged → Type 0
TakesLine text (got tagged rest) = ⊥
TakesLine text (wrong rest) = HasNoLineFeed rest
TakesLine text short = Unit {0}
TakesLine text (marked count) = length text + count ≤ max_text

-- a command's text that came so far, before any message, and goes on with a line
pub record AwaitsLine (login : Bool) (text written : List ℕ) : Type 0 where
  pub reached : Reached login text written
  pub within : length text ≤ max_text
  pub takes_line : TakesLine text (command_at login text)

-- the bytes that came, apart: a command's text, and the octets of its message, which come after the
-- first part of the text
abbrev pub CameAs : (login : Bool) → (come text message : List ℕ) → Type 0
CameAs login come text message = ((come ≡ text) × (message ≡ []))
    ⊎ ((head tail : List ℕ) × (come ≡ head ++ (message ++ tail)) × (text ≡ head ++ tail)
    × (progress_in login head ≡ Ok (Message (length message))))

-- a text that has come to this is a command or has a fault: no more of it comes
abbrev pub IsEnded : Result Progress CommandFault → Type 0
IsEnded (Ok (Whole own tag)) = Unit {0}
IsEnded (Ok (Literal count)) = ⊥
IsEnded (Ok (Message count)) = ⊥
IsEnded (Ok (More at)) = ⊥
IsEnded (Err fault) = Unit {0}
