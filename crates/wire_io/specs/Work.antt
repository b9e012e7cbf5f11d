-- What is done for a request: calls, each chosen by the answers so far, and then a text.
use Rattle.std.specs.Prelude.{◌≡◌, ℕ, List, [], ◌∷◌}
use Rattle.wire_io.specs.declared.ends.After.{After}

-- a call, and what is done for each answer to it; or a text, and what the session does after it
pub data Work (Call Answer : Type 0) : Type 0 where
  ask : (call : Call) (next : Answer → Work Call Answer) → Work Call Answer
  say : (text : List ℕ) (after : After) → Work Call Answer

module _ {Call Answer : Type 0} where
  -- under these answers the work asks for exactly these calls, and then says this text
  abbrev pub Does : Work Call Answer → List (Call × Answer) → List ℕ → After → Type 0
  Does (say text after) [] written word = (written ≡ text) × (word ≡ after)
  Does (say text after) (entry ∷ log) written word = ⊥
  Does (ask call next) [] written word = ⊥
  Does (ask call next) (entry ∷ log) written word = (entry.0 ≡ call)
      × Does (next entry.1) log written word

  -- under these answers these are the first calls that the work asks for
  abbrev pub AsksFirst : Work Call Answer → List (Call × Answer) → Type 0
  AsksFirst work [] = Unit {0}
  AsksFirst (say text after) (entry ∷ log) = ⊥
  AsksFirst (ask call next) (entry ∷ log) = (entry.0 ≡ call) × AsksFirst (next entry.1) log

  -- the session does this after the work's text, whatever the answers to its calls
  abbrev pub AlwaysEnds : Work Call Answer → After → Type 0
  AlwaysEnds work word = (log : List (Call × Answer)) (written : List ℕ) (after : After)
      → Does work log written after → after ≡ word
