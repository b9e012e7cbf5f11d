-- HTTP as a protocol: a server gives the work for each request, and nothing is kept from one
-- request to the next but the state that the session began with.
use Rattle.std.specs.Prelude.{List, ℕ}
use Rattle.wire_io.specs.Work.{Work}
use Rattle.wire_io.specs.Protocol.{Protocol, IsFilled, HasOneCut}
use Rattle.http_front.specs.Requests.{Request, whole, prompts}

abbrev pub http : {State Call Answer : Type 0} → (State → Request → Work Call Answer)
    → Protocol State Request Call Answer
http work = record {
  whole = λ state. whole;
  prompts = λ state. prompts;
  work = work;
  next = λ state request. state;
}

-- Whatever the work is, each text can be continued to a whole request.
abbrev pub IsAlwaysFilled : (State Call Answer : Type 0) → Type 0
IsAlwaysFilled State Call Answer = (work : State → Request → Work Call Answer)
    → IsFilled (http work)

-- Whatever the work is, each text is cut into requests in exactly one way.
abbrev pub CutsOneWay : (State Call Answer : Type 0) → Type 0
CutsOneWay State Call Answer = (work : State → Request → Work Call Answer) (state : State)
    (text : List ℕ) → HasOneCut (http work) state text
