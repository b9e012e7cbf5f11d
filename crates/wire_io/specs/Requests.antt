-- What comes of one request: what a service takes of a feed for it, the calls that it makes, and
-- what is written.
use Rattle.std.specs.Prelude.{◌≡◌, ◌⊎◌, ◌+◌, ℕ, zero, suc, List, [], ◌++◌, length, Option, Result, Ok, Err}
use Rattle.std.specs.Io.KnownBytes.{Appends, IsAtEnd}
use Rattle.wire_io.specs.declared.ends.After.{After}
use Rattle.wire_io.specs.declared.ends.SessionEnd.{SessionEnd}
use Rattle.wire_io.specs.declared.ends.SessionEnd.TheVariants.{Closed, Truncated, InputLimit, ReadFault, NoMemory}
use Rattle.wire_io.specs.declared.ends.FeedEnd.{FeedEnd}
use Rattle.wire_io.specs.declared.ends.FeedEnd.TheVariants.{Fault, Ended, Limit, NoMemory as FeedNoMemory}
use Rattle.wire_io.specs.Feeding.{Hands}
use Rattle.wire_io.specs.Work.{Does, AsksFirst}
use Rattle.wire_io.specs.Protocol.{Protocol, Spells}
use Rattle.wire_io.specs.Session.{Exchange, IsExchange, Ends}

-- the session's end if the feed ends within a request that begins at this offset, after this many
-- bytes of the request
abbrev pub end_at : FeedEnd → (at come : ℕ) → SessionEnd
end_at Fault at come = ReadFault
end_at Limit at come = InputLimit
end_at FeedNoMemory at come = NoMemory
end_at Ended at zero = Closed
end_at Ended at (suc come) = Truncated at

-- `Logs` below says of calls with their answers that they were made.
module _ {State Request Call Answer : Type 0} (p : Protocol State Request Call Answer) where
  -- a request is worked in full, and this text answers it
  pub record Answered (state state' : State) (Logs : List (Call × Answer) → Type 0)
      (bytes text : List ℕ) (after : After) : Type 0 where
    pub request : Request
    pub log : List (Call × Answer)
    pub spelled : Spells p state bytes request
    pub worked : Does (p.work state request) log text after
    pub logged : Logs log
    pub next_is : state' ≡ p.next state request

  -- some first calls of a request were made, or none
  pub record Abandoned (state : State) (Logs : List (Call × Answer) → Type 0)
      (bytes : List ℕ) : Type 0 where
    pub log : List (Call × Answer)
    pub logged : Logs log
    pub begun : (log ≡ []) ⊎ ((request : Request) × Spells p state bytes request
        × AsksFirst (p.work state request) log)

  module _ (limit : ℕ) (state state' : State) where
    -- what was written for the bytes of a request, and the session's end if it ended during the
    -- request
    abbrev pub Served : Type 0 → (at : ℕ) → (given waiting : List ℕ) → List (Call × Answer)
        → (text : List ℕ) → Result After SessionEnd → Type 0
    Served nothing_left at given waiting log text (Ok after) =
        (x : Exchange Request Call Answer) × IsExchange p state x after × (given ≡ x.bytes)
        × (log ≡ x.log) × (text ≡ x.text) × (state' ≡ p.next state x.request)
    Served nothing_left at given waiting log text (Err end) =
        Ends p limit nothing_left state at (given ++ waiting) log text end

    -- the same before the answer is written: `prompted` was written while the request came, and the
    -- text that answers it is still to be
    abbrev pub Comes : Type 0 → (at : ℕ) → (given waiting : List ℕ) → List (Call × Answer)
        → (prompted text : List ℕ) → Result After SessionEnd → Type 0
    Comes nothing_left at given waiting log prompted text (Ok after) =
        Served nothing_left at given waiting log (prompted ++ text) (Ok after)
    Comes nothing_left at given waiting log prompted text (Err end) =
        Served nothing_left at given waiting log prompted (Err end)

    module _ (Logs : List (Call × Answer) → Type 0) (left left' : Option (List ℕ)) where
      -- a request was taken from the feed and its answer made, or the session ended before that
      pub record TakesRequest (waiting waiting' : List ℕ) (taken taken' at at' : ℕ)
          (prompted text : List ℕ) (result : Result After SessionEnd) : Type 0 where
        pub given : List ℕ
        pub log : List (Call × Answer)
        pub hands : Hands left left' waiting waiting' taken taken' given
        pub counts : at' ≡ at + length given
        pub logged : Logs log
        pub comes : Comes (IsAtEnd left') at given waiting' log prompted text result

      -- a request was taken from the feed and its answer written, or the session ended before that
      pub record ServesRequest (written written' : Option (List ℕ)) (waiting waiting' : List ℕ)
          (taken taken' at at' : ℕ) (result : Result After SessionEnd) : Type 0 where
        pub given : List ℕ
        pub log : List (Call × Answer)
        pub text : List ℕ
        pub hands : Hands left left' waiting waiting' taken taken' given
        pub counts : at' ≡ at + length given
        pub logged : Logs log
        pub appended : Appends written written' text
        pub served : Served (IsAtEnd left') at given waiting' log text result
