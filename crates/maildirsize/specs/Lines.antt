-- The lines of a ledger. A line ends at a line feed, byte 10.
use Rattle.std.specs.Prelude.{ℕ, Bool, not, ◌==◌, List, [], ◌∷◌}
use Rattle.std.specs.List.{slice_split, before_first}

abbrev pub is_line_feed : ℕ → Bool
is_line_feed b = b == 10

-- the pieces between the line feeds: the lines, and last the bytes after the last line feed
abbrev pub parts_of : List ℕ → List (List ℕ)
parts_of bytes = slice_split is_line_feed bytes

abbrev pub all_but_last : List (List ℕ) → List (List ℕ)
all_but_last [] = []
all_but_last (part ∷ []) = []
all_but_last (part ∷ next ∷ parts) = part ∷ all_but_last (next ∷ parts)

abbrev pub last_of : List (List ℕ) → List ℕ
last_of [] = []
last_of (part ∷ []) = part
last_of (part ∷ next ∷ parts) = last_of (next ∷ parts)

-- the lines of a text, each ended by a line feed
abbrev pub lines_in : List ℕ → List (List ℕ)
lines_in bytes = all_but_last (parts_of bytes)

-- the bytes after the last line feed
abbrev pub rest_in : List ℕ → List ℕ
rest_in bytes = last_of (parts_of bytes)

-- the first line, whether a line feed ends it or not
abbrev pub first_line : List ℕ → List ℕ
first_line bytes = before_first is_line_feed bytes

-- whether a byte belongs to a line
abbrev pub is_in_line : ℕ → Bool
is_in_line b = not (is_line_feed b)
