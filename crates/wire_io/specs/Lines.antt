-- Lines of a text of bytes. A line ends with its line feed, byte 10.
use Rattle.std.specs.Prelude.{◌≡◌, ◌≢◌, ℕ, List, [], ◌∷◌, ◌++◌}

-- no byte is a line feed
abbrev pub HasNoEnd : List ℕ → Type 0
HasNoEnd [] = Unit {0}
HasNoEnd (b ∷ bs) = (b ≢ 10) × HasNoEnd bs

-- bytes without a line feed, and then a line feed
abbrev pub IsLine : List ℕ → Type 0
IsLine line = (body : List ℕ) × HasNoEnd body × (line ≡ body ++ 10 ∷ [])
