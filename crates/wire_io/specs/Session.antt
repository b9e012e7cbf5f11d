-- What a session is: requests spelled one after another, the calls that they ask for, and the texts
-- that answer them.
use Rattle.std.specs.Prelude.{◌≡◌, ◌≢◌, ◌⊎◌, ◌+◌, ◌<◌, ◌≤◌, ℕ, List, [], ◌∷◌, ◌++◌, length}
use Rattle.wire_io.specs.declared.ends.After.{After}
use Rattle.wire_io.specs.declared.ends.After.TheVariants.{Open, Closing, Stopping}
use Rattle.wire_io.specs.declared.ends.SessionEnd.{SessionEnd}
use Rattle.wire_io.specs.declared.ends.SessionEnd.TheVariants.{Closed, Stopped, Truncated, InputLimit, ReadFault, WriteFault, NoMemory}
use Rattle.wire_io.specs.Work.{Does, AsksFirst, AlwaysEnds}
use Rattle.wire_io.specs.Protocol.{Protocol, Spelling, spelled_bytes, Spells, IsRest}

-- One request of a session: its bytes, what they spell, its calls with their answers, and all that
-- is written for it.
pub record Exchange (Request Call Answer : Type 0) : Type 0 where
  pub bytes : List ℕ
  pub request : Request
  pub log : List (Call × Answer)
  pub text : List ℕ

module _ {Request Call Answer : Type 0} where
  abbrev pub bytes_of : List (Exchange Request Call Answer) → List ℕ
  bytes_of [] = []
  bytes_of (x ∷ xs) = x.bytes ++ bytes_of xs

  abbrev pub log_of : List (Exchange Request Call Answer) → List (Call × Answer)
  log_of [] = []
  log_of (x ∷ xs) = x.log ++ log_of xs

  abbrev pub text_of : List (Exchange Request Call Answer) → List ℕ
  text_of [] = []
  text_of (x ∷ xs) = x.text ++ text_of xs

-- `prefix` is a prefix of `whole`
abbrev pub IsPrefix : List ℕ → List ℕ → Type 0
IsPrefix prefix whole = (more : List ℕ) × (whole ≡ prefix ++ more)

module _ {State Request Call Answer : Type 0} (p : Protocol State Request Call Answer) where
  -- a request that is spelled and answered in full, and what the session does after it
  pub record IsExchange (state : State) (x : Exchange Request Call Answer)
      (after : After) : Type 0 where
    pub answer : List ℕ
    pub spelled : Spells p state x.bytes x.request
    pub worked : Does (p.work state x.request) x.log answer after
    pub written : x.text ≡ p.prompts state x.bytes ++ answer

  -- exchanges one after another, from one state to another; the session goes on after each
  abbrev pub Exchanges : State → List (Exchange Request Call Answer) → State → Type 0
  Exchanges state [] last = last ≡ state
  Exchanges state (x ∷ xs) last = IsExchange state x Open
      × Exchanges (p.next state x.request) xs last

  -- the bytes of a request that have come: less than the request, or all of it
  abbrev pub IsPartOrAll : State → List ℕ → Type 0
  IsPartOrAll state come = IsRest p state come ⊎ ((request : Request) × Spells p state come request)

  -- the session waits for more of a request, and has written the prompts so far
  pub record Waits (state : State) (rest : List ℕ) (log : List (Call × Answer))
      (text : List ℕ) : Type 0 where
    pub less : IsRest p state rest
    pub no_calls : log ≡ []
    pub prompted : text ≡ p.prompts state rest

  -- the last request is answered in full, and then the session does not go on; bytes that came
  -- after it are not looked at
  pub record Finishes (state : State) (rest : List ℕ) (log : List (Call × Answer)) (text : List ℕ)
      (after : After) : Type 0 where
    pub x : Exchange Request Call Answer
    pub unread : List ℕ
    pub exchange : IsExchange state x after
    pub rest_is : rest ≡ x.bytes ++ unread
    pub log_is : log ≡ x.log
    pub text_is : text ≡ x.text

  -- all calls of a request were made, and a prefix of its text was written
  pub record CutInText (state : State) (rest : List ℕ) (log : List (Call × Answer))
      (text : List ℕ) : Type 0 where
    pub x : Exchange Request Call Answer
    pub unread : List ℕ
    pub after : After
    pub exchange : IsExchange state x after
    pub rest_is : rest ≡ x.bytes ++ unread
    pub log_is : log ≡ x.log
    pub prefix : IsPrefix text x.text

  -- the bytes `come` of a request had come, and a prefix of their prompts was written
  pub record CutInPrompts (state : State) (rest : List ℕ) (log : List (Call × Answer))
      (text : List ℕ) : Type 0 where
    pub come : List ℕ
    pub unread : List ℕ
    pub part_or_all : IsPartOrAll state come
    pub rest_is : rest ≡ come ++ unread
    pub no_calls : log ≡ []
    pub prefix : IsPrefix text (p.prompts state come)

  -- the bytes `come` of a request had come, their prompts were written, and some first calls of the
  -- request were made, or none
  pub record GivesUp (state : State) (rest : List ℕ) (log : List (Call × Answer))
      (text : List ℕ) : Type 0 where
    pub come : List ℕ
    pub unread : List ℕ
    pub part_or_all : IsPartOrAll state come
    pub rest_is : rest ≡ come ++ unread
    pub prompted : text ≡ p.prompts state come
    pub begun : (log ≡ [])
        ⊎ ((request : Request) × Spells p state come request × AsksFirst (p.work state request) log)

  -- How a session ends after the requests that it outlived. This depends on the bytes `rest` that
  -- came after those requests, from the offset `at` on, and on the calls and the text for `rest`.
  -- `nothing_left` says that the input has no more bytes.
  abbrev pub Ends : ℕ → Type 0 → State → ℕ → List ℕ → List (Call × Answer) → List ℕ → SessionEnd
      → Type 0
  Ends limit nothing_left state at rest log text Closed =
      ((rest ≡ []) × (at < limit) × nothing_left × Waits state rest log text)
      ⊎ Finishes state rest log text Closing
  Ends limit nothing_left state at rest log text Stopped = Finishes state rest log text Stopping
  Ends limit nothing_left state at rest log text (Truncated offset) =
      (rest ≢ []) × (at + length rest < limit) × nothing_left × (offset ≡ at)
      × Waits state rest log text
  Ends limit nothing_left state at rest log text InputLimit = (at + length rest ≡ limit)
      × Waits state rest log text
  Ends limit nothing_left state at rest log text ReadFault = Waits state rest log text
  Ends limit nothing_left state at rest log text WriteFault = CutInText state rest log text
      ⊎ CutInPrompts state rest log text
  Ends limit nothing_left state at rest log text NoMemory = GivesUp state rest log text

  -- The bytes taken, the calls with their answers, the bytes written and the end are those of a
  -- session of the protocol that begins in this state, with this greeting.
  pub record IsWorked (greeting : List ℕ) (start : State) (limit : ℕ) (nothing_left : Type 0)
      (taken : List ℕ) (log : List (Call × Answer)) (written : List ℕ)
      (end : SessionEnd) : Type 0 where
    pub exchanges : List (Exchange Request Call Answer)
    pub state : State
    pub rest : List ℕ
    pub last_log : List (Call × Answer)
    pub last_text : List ℕ
    pub outlived : Exchanges start exchanges state
    pub taken_is : taken ≡ bytes_of exchanges ++ rest
    pub within : length taken ≤ limit
    pub log_is : log ≡ log_of exchanges ++ last_log
    pub written_is : written ≡ greeting ++ (text_of exchanges ++ last_text)
    pub ends : Ends limit nothing_left state
        (length (bytes_of exchanges)) rest last_log last_text end

  -- the session was worked; or the write of the greeting failed, and no byte was taken and no call
  -- made
  abbrev pub Session : (greeting : List ℕ) → (start : State) → ℕ → Type 0 → List ℕ
      → List (Call × Answer) → List ℕ → SessionEnd → Type 0
  Session greeting start limit nothing_left taken log written end =
      IsWorked greeting start limit nothing_left taken log written end
      ⊎ ((end ≡ WriteFault) × (taken ≡ []) × (log ≡ []) × IsPrefix written greeting)

  -- requests one after another; the session goes on after each, whatever the answers to its calls
  abbrev pub Outlives : State → List (Spelling Request) → State → Type 0
  Outlives state [] last = last ≡ state
  Outlives state (x ∷ xs) last = Spells p state x.0 x.1 × AlwaysEnds (p.work state x.1) Open
      × Outlives (p.next state x.1) xs last

  -- the bytes begin with a request, which ends within the limit; after it the session does this,
  -- whatever the answers to its calls
  abbrev pub IsFinished : ℕ → State → ℕ → List ℕ → After → Type 0
  IsFinished limit state at bytes after = (own : List ℕ) × (request : Request) × (unread : List ℕ)
      × Spells p state own request
      × AlwaysEnds (p.work state request) after × (bytes ≡ own ++ unread)
      × (at + length own ≤ limit)

  -- how the bytes after the requests that a session outlives end it, if nothing fails
  abbrev pub RestEnds : ℕ → State → ℕ → List ℕ → SessionEnd → Type 0
  RestEnds limit state at bytes Closed = ((bytes ≡ []) × (at < limit))
      ⊎ IsFinished limit state at bytes Closing
  RestEnds limit state at bytes Stopped = IsFinished limit state at bytes Stopping
  RestEnds limit state at bytes (Truncated offset) = (bytes ≢ []) × (at + length bytes < limit)
      × (offset ≡ at) × IsRest p state bytes
  RestEnds limit state at bytes InputLimit = (prefix more : List ℕ) × (bytes ≡ prefix ++ more)
      × (at + length prefix ≡ limit) × IsRest p state prefix
  RestEnds limit state at bytes ReadFault = ⊥
  RestEnds limit state at bytes WriteFault = ⊥
  RestEnds limit state at bytes NoMemory = ⊥

  -- after a request the session does the same, whatever the answers to the request's calls
  abbrev pub EndsOneWay : Type 0
  EndsOneWay = (state : State) (request : Request) → (word : After)
      × AlwaysEnds (p.work state request) word

  -- how an input ends a session of the protocol, if nothing fails
  pub record InputEnds (start : State) (limit : ℕ) (input : List ℕ)
      (end : SessionEnd) : Type 0 where
    pub xs : List (Spelling Request)
    pub state : State
    pub bytes : List ℕ
    pub outlived : Outlives start xs state
    pub input_is : input ≡ spelled_bytes xs ++ bytes
    pub ends : RestEnds limit state (length (spelled_bytes xs)) bytes end

module _ {State Request Call Answer : Type 0} (p : Protocol State Request Call Answer) where
  -- The input decides an end, and a session over it has that end unless something failed or memory
  -- ran out.
  pub record EndsAsDecided (start : State) (limit : ℕ) (input : List ℕ) (failed : Type 0)
      (end : SessionEnd) : Type 0 where
    pub decides : (due : SessionEnd) × InputEnds p start limit input due
    pub ends : (due : SessionEnd) → InputEnds p start limit input due → ¬ failed → (end ≡ due)
        ⊎ (end ≡ NoMemory)

-- the end is not one that a fault gives
abbrev pub IsQuiet : SessionEnd → Type 0
IsQuiet end = (end ≢ ReadFault) × (end ≢ WriteFault)
