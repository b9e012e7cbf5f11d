-- How a request is taken from a feed, and its prompt written.
use Rattle.std.specs.Prelude.{◌≡◌, ◌≢◌, ◌⊎◌, ◌+◌, ◌<◌, ◌≤◌, ℕ, true, false, List, [], ◌∷◌, ◌++◌, length, Option, Some, None, Result, Ok, Err}
use Rattle.std.specs.Borrow.{Bor}
use Rattle.std.specs.Io.KnownBytes.{Appends, IsAtEnd}
use Rattle.wire_io.specs.declared.ends.FeedEnd.{FeedEnd}
use Rattle.wire_io.specs.declared.ends.FeedEnd.TheVariants.{Fault, Ended, Limit, NoMemory as FeedNoMemory}
use Rattle.wire_io.specs.declared.ends.LineEnd.{LineEnd}
use Rattle.wire_io.specs.declared.ends.LineEnd.TheVariants.{Whole, TooLong}
use Rattle.wire_io.specs.declared.ends.SessionEnd.{SessionEnd}
use Rattle.wire_io.specs.declared.ends.SessionEnd.TheVariants.{Closed, Stopped, Truncated, InputLimit, ReadFault, WriteFault, NoMemory}
use Rattle.wire_io.specs.Feeding.{Hands}
use Rattle.wire_io.specs.Session.{IsPrefix, Ends}
use Rattle.wire_io.specs.Work.{Work}
use Rattle.http_front.specs.declared.refusal.Refusal.{Refusal}
use Rattle.http_front.specs.declared.reading.Head.{Head}
use Rattle.http_front.specs.Heads.{max_head, ends_head}
use Rattle.http_front.specs.Judging.{Asked}
use Rattle.http_front.specs.Requests.{Request, refused, asked, IsRequest, IsBegun, prompts}
use Rattle.http_front.specs.Http.{http}

-- the bytes that a borrowed text has, if there is one
abbrev pub borrowed : Option (Bor (List ℕ)) → Option (List ℕ)
borrowed (Some text) = Some text.now
borrowed None = None

-- what the code's head asks for
abbrev pub asked_of : Head → Asked
asked_of head = record {
  method = head.method.now;
  target = head.target.now;
  token = borrowed head.token;
  expects = head.expects;
  closes = head.closes;
  size = head.size;
}

-- the request that was taken: what its head asks for, with the body that came after it
abbrev pub request_taken : (body : List ℕ) → Result Head Refusal → Request
request_taken body (Ok head) = asked (asked_of head) body
request_taken body (Err refusal) = refused refusal

-- no proper prefix of the bytes ends a head
abbrev pub IsUnendedBefore : List ℕ → Type 0
IsUnendedBefore bytes = (prefix : List ℕ) (b : ℕ) (more : List ℕ) → bytes ≡ prefix ++ b ∷ more
    → ends_head prefix ≡ false

-- all of a head, in at most 16384 bytes
pub record IsHead (bytes : List ℕ) : Type 0 where
  pub ended : ends_head bytes ≡ true
  pub first : IsUnendedBefore bytes
  pub within : length bytes ≤ max_head

-- 16384 bytes that hold no head
pub record IsEndless (bytes : List ℕ) : Type 0 where
  pub unended : ends_head bytes ≡ false
  pub first : IsUnendedBefore bytes
  pub full : length bytes ≡ max_head

-- less than a head, in fewer bytes
pub record IsPartOfHead (bytes : List ℕ) : Type 0 where
  pub unended : ends_head bytes ≡ false
  pub first : IsUnendedBefore bytes
  pub short : length bytes < max_head

abbrev pub EndsHead : LineEnd → List ℕ → Type 0
EndsHead Whole bytes = IsHead bytes
EndsHead TooLong bytes = IsEndless bytes

-- why a feed that needed one more byte handed out none
abbrev pub Stops : FeedEnd → (left : Option (List ℕ)) → (waiting : List ℕ) → (taken limit : ℕ)
    → Type 0
Stops Fault left waiting taken limit = (waiting ≡ []) × (taken < limit)
Stops Ended left waiting taken limit = (waiting ≡ []) × (taken < limit) × IsAtEnd left
Stops Limit left waiting taken limit = (waiting ≡ []) × (taken ≡ limit)
Stops FeedNoMemory left waiting taken limit = waiting ≢ []

-- less than a request came, or all of it
abbrev pub IsPartOrAll : List ℕ → Type 0
IsPartOrAll come = IsBegun come ⊎ ((request : Request) × IsRequest come request)

-- less than a request came, and the prompts so far were written
pub record Awaits (rest text : List ℕ) : Type 0 where
  pub begun : IsBegun rest
  pub prompted : text ≡ prompts rest

-- the bytes `come` of a request had come, and a prefix of their prompts was written
pub record CutsPrompts (rest text : List ℕ) : Type 0 where
  pub come : List ℕ
  pub unread : List ℕ
  pub part_or_all : IsPartOrAll come
  pub rest_is : rest ≡ come ++ unread
  pub prefix : IsPrefix text (prompts come)

-- the bytes `come` of a request had come, and their prompts were written
pub record GivesUp (rest text : List ℕ) : Type 0 where
  pub come : List ℕ
  pub unread : List ℕ
  pub part_or_all : IsPartOrAll come
  pub rest_is : rest ≡ come ++ unread
  pub prompted : text ≡ prompts come

-- How a session ends within a request. This depends on the bytes `rest` of the request, which
-- begins at the offset `at`, and on the text that was written for them. `nothing_left` says that
-- the input has no more bytes.
abbrev pub BreaksOff : (limit : ℕ) → (nothing_left : Type 0) → (at : ℕ) → (rest text : List ℕ)
    → SessionEnd → Type 0
BreaksOff limit nothing_left at rest text Closed =
    (rest ≡ []) × (at < limit) × nothing_left × Awaits rest text
BreaksOff limit nothing_left at rest text Stopped = ⊥
BreaksOff limit nothing_left at rest text (Truncated offset) = (rest ≢ [])
    × (at + length rest < limit) × nothing_left × (offset ≡ at) × Awaits rest text
BreaksOff limit nothing_left at rest text InputLimit = (at + length rest ≡ limit)
    × Awaits rest text
BreaksOff limit nothing_left at rest text ReadFault = Awaits rest text
BreaksOff limit nothing_left at rest text WriteFault = CutsPrompts rest text
BreaksOff limit nothing_left at rest text NoMemory = GivesUp rest text

-- `request_of` says which request it is that was taken
module _ {Taken : Type 0} (limit : ℕ) (request_of : Taken → Request) where
  -- These bytes are a request, and its prompts were written; or the session ended within it, after
  -- these bytes and these prompts. The request begins at the offset `first`.
  abbrev pub Comes : Type 0 → (first : ℕ) → (given waiting prompted : List ℕ)
      → Result Taken SessionEnd → Type 0
  Comes nothing_left first given waiting prompted (Ok taken) = IsRequest given (request_of taken)
      × (prompted ≡ prompts given)
  Comes nothing_left first given waiting prompted (Err end) =
      BreaksOff limit nothing_left first (given ++ waiting) prompted end

  -- a request was taken from the feed and its prompts written, or the session ended within it
  pub record Takes (left left' written written' : Option (List ℕ)) (waiting waiting' : List ℕ)
      (taken taken' first at' : ℕ) (result : Result Taken SessionEnd) : Type 0 where
    pub given : List ℕ
    pub prompted : List ℕ
    pub hands : Hands left left' waiting waiting' taken taken' given
    pub counts : at' ≡ first + length given
    pub appended : Appends written written' prompted
    pub comes : Comes (IsAtEnd left') first given waiting' prompted result

-- Such an end is one of a session of any server that speaks HTTP.
abbrev pub EndsSessions : (State Call Answer : Type 0) → Type 0
EndsSessions State Call Answer = (work : State → Request → Work Call Answer) (state : State)
    (limit : ℕ) (left : Option (List ℕ)) (at : ℕ) (rest text : List ℕ) (end : SessionEnd)
    → BreaksOff limit (IsAtEnd left) at rest text end
    → Ends (http work) limit (IsAtEnd left) state at rest [] text end
