-- A protocol as data, and the one way in which a text of bytes is cut into its requests.
-- Nothing here names a command or an account: a service gives its `Protocol`.
use Rattle.std.specs.Prelude.{◌≡◌, ℕ, List, [], ◌∷◌, ◌++◌, Option, None, Some}
use Rattle.wire_io.specs.Work.{Work}

pub record Protocol (State Request Call Answer : Type 0) : Type 0 where
  -- what is known at the first request, such as who is logged in
  -- the request that these bytes spell, if they are a whole one; of a text only the shortest prefix
  -- that is a whole request counts
  pub whole : State → List ℕ → Option Request
  -- what is written after these bytes of a request have come, and before it is answered
  pub prompts : State → List ℕ → List ℕ
  pub work : State → Request → Work Call Answer
  -- what is known after the request
  pub next : State → Request → State

-- bytes with the request that they spell
abbrev pub Spelling : Type 0 → Type 0
Spelling Request = List ℕ × Request

abbrev pub spelled_bytes : {Request : Type 0} → List (Spelling Request) → List ℕ
spelled_bytes [] = []
spelled_bytes (x ∷ xs) = x.0 ++ spelled_bytes xs

module _ {State Request Call Answer : Type 0} (p : Protocol State Request Call Answer) where
  -- no proper prefix of the bytes is a whole request
  abbrev pub IsFirst : State → List ℕ → Type 0
  IsFirst state bytes = (prefix : List ℕ) (b : ℕ) (more : List ℕ) → bytes ≡ prefix ++ b ∷ more
      → p.whole state prefix ≡ None

  -- the bytes are a whole request, and no proper prefix of them is one
  pub record Spells (state : State) (bytes : List ℕ) (request : Request) : Type 0 where
    pub whole : p.whole state bytes ≡ Some request
    pub first : IsFirst state bytes

  -- less than a request: the bytes spell no request, but they are a prefix of one
  pub record IsRest (state : State) (rest : List ℕ) : Type 0 where
    pub unspelled : (request : Request) → Spells state rest request → ⊥
    pub prefix : (more : List ℕ) × (request : Request) × Spells state (rest ++ more) request

  -- spellings one after another, from one state to another
  abbrev pub Spellings : State → List (Spelling Request) → State → Type 0
  Spellings state [] last = last ≡ state
  Spellings state (x ∷ xs) last = Spells state x.0 x.1 × Spellings (p.next state x.1) xs last

  -- the text is these spellings, and then less than one more
  pub record IsCut (state : State) (text : List ℕ) (xs : List (Spelling Request))
      (rest : List ℕ) : Type 0 where
    pub last : State
    pub spelled : Spellings state xs last
    pub text_is : text ≡ spelled_bytes xs ++ rest
    pub less : IsRest last rest

  -- from this state the text has exactly one cut
  pub record HasOneCut (state : State) (text : List ℕ) : Type 0 where
    pub cut : (xs : List (Spelling Request)) × (rest : List ℕ) × IsCut state text xs rest
    pub only : (xs ys : List (Spelling Request)) (rest other : List ℕ) → IsCut state text xs rest
        → IsCut state text ys other → (ys ≡ xs) × (other ≡ rest)

  -- what a service must provide: the empty text is no whole request, and each text can be continued
  -- to a whole one
  pub record IsFilled : Type 0 where
    pub starts : (state : State) → p.whole state [] ≡ None
    pub fills : (state : State) (text : List ℕ) → (more : List ℕ) × (request : Request)
        × (p.whole state (text ++ more) ≡ Some request)
