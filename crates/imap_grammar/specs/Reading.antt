-- Readings: what a text begins with, and how readers run one after another.
use Rattle.std.specs.Prelude.{◌≡◌, ℕ, Bool, ◌==◌, if◌then◌else◌, List, [], ◌∷◌, length, Result, Ok, Err}
use Rattle.imap_grammar.specs.declared.readers.Stop.{Stop}
use Rattle.imap_grammar.specs.declared.readers.Stop.TheVariants.{Wrong, Short, Marked, Memory}

pub data Reading (A : Type 0) : Type 0 where
  -- the text begins with this value, and then comes the rest
  got : (value : A) (rest : List ℕ) → Reading A
  -- the text goes wrong at the first byte of this rest
  wrong : (rest : List ℕ) → Reading A
  -- the text ends too early
  short : Reading A
  -- the text ends with the marker of a literal: this many octets come next
  marked : (count : ℕ) → Reading A

abbrev pub Reader : Type 0 → Type 0
Reader A = List ℕ → Reading A

abbrev pub and_then : {A B : Type 0} → Reading A → (A → Reader B) → Reading B
and_then (got value rest) next = next value rest
and_then (wrong rest) next = wrong rest
and_then short next = short
and_then (marked count) next = marked count

-- one reader, and then the reader that its value chooses
infixl 10 ◌>>=◌
abbrev pub ◌>>=◌ : {A B : Type 0} → Reader A → (A → Reader B) → Reader B
(first >>= next) text = and_then (first text) next

-- nothing is read, and this is the value
abbrev pub gives : {A : Type 0} → A → Reader A
gives value text = got value text

-- a reader that accepts nothing: the text ends too early, or goes wrong here
abbrev pub fails : {A : Type 0} → Reader A
fails [] = short
fails (b ∷ bs) = wrong (b ∷ bs)

abbrev pub byte : ℕ → Reader (Unit {0})
byte wanted [] = short
byte wanted (b ∷ bs) = if b == wanted then got tt bs else wrong (b ∷ bs)

abbrev pub with_first : ℕ → Reading (List ℕ) → Reading (List ℕ)
with_first b (got bs rest) = got (b ∷ bs) rest
with_first b (wrong rest) = wrong rest
with_first b short = short
with_first b (marked count) = marked count

-- bytes that pass a test, up to the first that does not
abbrev pub many : (ℕ → Bool) → Reader (List ℕ)
many is [] = short
many is (b ∷ bs) = if is b then with_first b (many is bs) else got [] (b ∷ bs)

-- what must follow a CR
abbrev pub line_feed : Reader (Unit {0})
line_feed text = byte 10 text

-- a line's end: CR and LF, or LF alone
abbrev pub line_end : Reader (Unit {0})
line_end [] = short
line_end (b ∷ bs) = if b == 10 then got tt bs else if b == 13 then byte 10 bs else wrong (b ∷ bs)

-- what a reader of the code returns is the reading, unless memory runs out
abbrev pub Stops : {A : Type 0} → Stop → Reading A → Type 0
Stops (Wrong left) reading = (rest : List ℕ) × (reading ≡ wrong rest) × (length rest ≡ left)
Stops Short reading = reading ≡ short
Stops (Marked count) reading = reading ≡ marked count
Stops Memory reading = Unit {0}

abbrev pub Gives : {X A : Type 0} → (X → A) → (X → List ℕ) → Result X Stop → Reading A → Type 0
Gives value rest (Ok x) reading = reading ≡ got (value x) (rest x)
Gives value rest (Err stop) reading = Stops stop reading

-- what a reader of the code returns if it accepts nothing here
abbrev pub FailsAt : List ℕ → Stop → Type 0
FailsAt [] stop = stop ≡ Short
FailsAt (b ∷ bs) stop = stop ≡ Wrong (length (b ∷ bs))
