-- What a call of a feed takes from its source and hands out.
use Rattle.std.specs.Prelude.{◌≡◌, ◌+◌, ◌<◌, ℕ, List, ◌++◌, length, drop}
use Rattle.std.specs.declared.option.Option.{Option}
use Rattle.std.specs.Io.KnownBytes.{Consumes, IsAtEnd}
use Rattle.wire_io.specs.Lines.{HasNoEnd}
use Rattle.wire_io.specs.declared.ends.FeedEnd.{FeedEnd}
use Rattle.wire_io.specs.declared.ends.FeedEnd.TheVariants.{Fault, Ended, Limit, NoMemory}

-- what a list gained at its end
abbrev pub gained : List ℕ → List ℕ → List ℕ
gained old new = drop (length old) new

-- The bytes `got` came from the source. The bytes that waited before, followed by `got`, are the
-- bytes handed out, followed by those that wait now.
pub record Hands (left left' : Option (List ℕ)) (waiting waiting' : List ℕ) (taken taken' : ℕ)
    (given : List ℕ) : Type 0 where
  pub got : List ℕ
  pub consumed : Consumes left left' got
  pub joined : waiting ++ got ≡ given ++ waiting'
  pub counted : taken' ≡ taken + length got

-- no line feed, and fewer bytes than a line may have
abbrev pub IsBegun : List ℕ → ℕ → Type 0
IsBegun given max = HasNoEnd given × (length given < max)

-- no line feed, and as many bytes as a line may have
abbrev pub IsTooLong : List ℕ → ℕ → Type 0
IsTooLong given max = HasNoEnd given × (length given ≡ max)

-- why no byte can be had if none waits
abbrev pub IsDry : FeedEnd → Option (List ℕ) → ℕ → ℕ → Type 0
IsDry Fault left taken limit = taken < limit
IsDry Ended left taken limit = (taken < limit) × IsAtEnd left
IsDry Limit left taken limit = taken ≡ limit
IsDry NoMemory left taken limit = ⊥
