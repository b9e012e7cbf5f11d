-- What is read of a ledger's file: a file of fewer than 5120 octets is read whole; of any other
-- file only whole lines are read, so that a first line without an end is no definition.
use Rattle.std.specs.Prelude.{◌≡◌, ℕ, Bool, false, ◌⊎◌, ◌==◌, List, [], ◌∷◌, ◌++◌}
use Rattle.std.specs.List.{list_any}

-- a line ends at byte 10
abbrev pub is_line_feed : ℕ → Bool
is_line_feed byte = byte == 10

-- the whole lines of a text: all up to its last line feed
pub record AreWholeLines (text lines : List ℕ) : Type 0 where
  pub rest : List ℕ
  pub prefix : text ≡ lines ++ rest
  pub ended : (lines ≡ []) ⊎ ((before : List ℕ) × (lines ≡ before ++ 10 ∷ []))
  pub most : list_any is_line_feed rest ≡ false
