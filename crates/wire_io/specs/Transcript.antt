-- The session that an input gives, as a function, if a world that these calls alone change answers
-- each call.
use Rattle.std.specs.Prelude.{◌≡◌, ℕ, zero, suc, ◌+◌, nat_le, List, [], ◌∷◌, ◌++◌, length, take, Option, None, Some, if◌then◌else◌}
use Rattle.wire_io.specs.declared.ends.After.{After}
use Rattle.wire_io.specs.declared.ends.After.TheVariants.{Open, Closing, Stopping}
use Rattle.wire_io.specs.declared.ends.SessionEnd.{SessionEnd}
use Rattle.wire_io.specs.declared.ends.SessionEnd.TheVariants.{Closed, Stopped, Truncated, InputLimit}
use Rattle.wire_io.specs.Work.{Work, ask, say}
use Rattle.wire_io.specs.Protocol.{Protocol}

-- what a session writes, how it ends, and the world that it leaves
pub record Transcript (World : Type 0) : Type 0 where
  pub text : List ℕ
  pub end : SessionEnd
  pub world : World

-- a world that answers calls
pub record Answers (World Call Answer : Type 0) : Type 0 where
  pub answer : World → Call → Answer
  pub after : World → Call → World

-- the world gives these answers to these calls, one after the other, and is `last` after them
abbrev pub IsAnswered : {World Call Answer : Type 0} → Answers World Call Answer → World
    → List (Call × Answer) → World → Type 0
IsAnswered by world [] last = last ≡ world
IsAnswered by world (entry ∷ log) last = (entry.1 ≡ by.answer world entry.0)
    × IsAnswered by (by.after world entry.0) log last

-- the text that answers a request, what the session does after it, and the world then
pub record Done (World : Type 0) : Type 0 where
  pub text : List ℕ
  pub after : After
  pub world : World

abbrev pub perform : {World Call Answer : Type 0} → Answers World Call Answer → World
    → Work Call Answer → Done World
perform by world (ask call next) = perform by (by.after world call) (next (by.answer world call))
perform by world (say text after) = record { text = text; after = after; world = world }

-- a whole request at the start of a text, and the bytes after it
pub record Found (Request : Type 0) : Type 0 where
  pub own : List ℕ
  pub request : Request
  pub unread : List ℕ

abbrev pub or_later : {Request : Type 0} → Option Request → List ℕ → List ℕ → Option (Found Request)
    → Option (Found Request)
or_later (Some request) own unread later =
    Some (record { own = own; request = request; unread = unread })
or_later None own unread later = later

abbrev pub or_waits : {Request World : Type 0} → Option (Found Request) → Transcript World
    → (Found Request → Transcript World) → Transcript World
or_waits (Some found) waiting served = served found
or_waits None waiting served = waiting

-- what the session does after a request: it goes on to the rest, closes or stops
abbrev pub going_on : {World : Type 0} → After → List ℕ → World → Transcript World
    → Transcript World
going_on Open text world rest = record {
  text = text ++ rest.text;
  end = rest.end;
  world = rest.world;
}
going_on Closing text world rest = record { text = text; end = Closed; world = world }
going_on Stopping text world rest = record { text = text; end = Stopped; world = world }

-- the end if less than a request is left from this offset on
abbrev pub end_of_rest : (limit at : ℕ) → List ℕ → SessionEnd
end_of_rest limit at [] = if nat_le limit at then InputLimit else Closed
end_of_rest limit at (b ∷ bs) =
    if nat_le limit (at + length (b ∷ bs)) then InputLimit else Truncated at

module _ {State Request Call Answer : Type 0} (p : Protocol State Request Call Answer) where
  -- of `come` followed by these bytes, the shortest prefix that is a whole request and no shorter
  -- than `come`
  abbrev pub first_request : State → (come : List ℕ) → List ℕ → Option (Found Request)
  first_request state come [] = or_later (p.whole state come) come [] None
  first_request state come (b ∷ bs) =
      or_later (p.whole state come) come (b ∷ bs) (first_request state (come ++ b ∷ []) bs)

  module _ {World : Type 0} (by : Answers World Call Answer) (limit : ℕ) where
    -- the session from this offset on, of at most `rounds` requests
    abbrev pub transcript_from : (rounds : ℕ) → State → World → (at : ℕ) → List ℕ
        → Transcript World
    transcript_from zero state world at bytes = record {
      text = p.prompts state bytes;
      end = end_of_rest limit at bytes;
      world = world;
    }
    transcript_from (suc rounds) state world at bytes =
        or_waits (first_request state [] bytes) (record {
          text = p.prompts state bytes;
          end = end_of_rest limit at bytes;
          world = world;
        }) (λ found.
        let done = perform by world (p.work state found.request) in
        going_on done.after (p.prompts state found.own ++ done.text) done.world
        (transcript_from rounds (p.next state found.request) done.world
        (at + length found.own) found.unread))

    -- what the session of an input writes after its greeting, how it ends, and the world that it
    -- leaves; of the input only the first `limit` bytes are looked at
    abbrev pub transcript : State → World → List ℕ → Transcript World
    transcript start world input = transcript_from (suc (length input)) start world 0
        (take limit input)
