-- How a request is taken from a feed, and its prompts written.
use Rattle.std.specs.Prelude.{◌≡◌, ◌+◌, ℕ, List, [], ◌++◌, length, Option, Result, Ok, Err}
use Rattle.std.specs.Io.KnownBytes.{Appends, IsAtEnd}
use Rattle.wire_io.specs.declared.ends.SessionEnd.{SessionEnd}
use Rattle.wire_io.specs.Feeding.{Hands}
use Rattle.wire_io.specs.Protocol.{Protocol, Spells, IsFirst}
use Rattle.wire_io.specs.Session.{Ends}

-- bytes came from a feed, and a text was written
pub record Moves (left left' written written' : Option (List ℕ)) (waiting waiting' : List ℕ)
    (taken taken' at at' : ℕ) (given text : List ℕ) : Type 0 where
  pub hands : Hands left left' waiting waiting' taken taken' given
  pub counts : at' ≡ at + length given
  pub appended : Appends written written' text

module _ {State Request Call Answer : Type 0} (p : Protocol State Request Call Answer) (state : State) where
  -- these bytes came after the last request, and this was written while they came; no shorter
  -- prefix of them is a whole request
  pub record Came (come written : List ℕ) : Type 0 where
    pub early : IsFirst p state come
    pub asked : written ≡ p.prompts state come

  -- `request_of` says which request it is that was taken
  module _ {Taken : Type 0} (limit : ℕ) (request_of : Taken → Request) where
    -- these bytes are a request, and its prompts were written; or the session ended within it,
    -- after these bytes and these prompts. The request begins at the offset `first`.
    abbrev pub Comes : Type 0 → (first : ℕ) → (given waiting prompted : List ℕ)
        → Result Taken SessionEnd → Type 0
    Comes nothing_left first given waiting prompted (Ok taken) =
        Spells p state given (request_of taken) × (prompted ≡ p.prompts state given)
    Comes nothing_left first given waiting prompted (Err end) =
        Ends p limit nothing_left state first (given ++ waiting) [] prompted end

    -- a request was taken from the feed and its prompts written, or the session ended within it
    pub record Takes (left left' written written' : Option (List ℕ)) (waiting waiting' : List ℕ)
        (taken taken' first at' : ℕ) (result : Result Taken SessionEnd) : Type 0 where
      pub given : List ℕ
      pub prompted : List ℕ
      pub moves : Moves left left' written written' waiting waiting' taken taken' first at'
          given prompted
      pub comes : Comes (IsAtEnd left') first given waiting' prompted result

    -- The same, if these bytes of the request had come from the feed before, and this was written
    -- for them.
    abbrev pub TakesRest : (middle left' between written' : Option (List ℕ))
        → (held waiting' : List ℕ) → (count taken' first at at' : ℕ) → (come said : List ℕ)
        → Result Taken SessionEnd → Type 0
    TakesRest middle left' between written' held waiting' count taken' first at at' come said
        result = (left written : Option (List ℕ)) (waiting : List ℕ) (taken : ℕ)
        → Moves left middle written between waiting held taken count first at come said
        → Takes left left' written written' waiting waiting' taken taken' first at' result
