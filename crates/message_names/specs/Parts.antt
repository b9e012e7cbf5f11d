-- The parts of a message file name (Maildir++). The parts of `1.host,S=1234:2,S` are the unique
-- part `1.host,S=1234`, the base `1.host`, and the info part `2,S`.
use Rattle.std.specs.Prelude.{ℕ, Bool, ◌==◌, List}
use Rattle.std.specs.List.{before_first, after_first}

-- a colon is byte 58, and a comma byte 44
abbrev pub is_colon : ℕ → Bool
is_colon b = b == 58

abbrev pub is_comma : ℕ → Bool
is_comma b = b == 44

-- the bytes before the first colon, or the whole name
abbrev pub unique_of : List ℕ → List ℕ
unique_of name = before_first is_colon name

-- the bytes after the first colon, or none
abbrev pub info_of : List ℕ → List ℕ
info_of name = after_first is_colon name

-- the bytes before the first comma of the unique part, or that whole part
abbrev pub base_of : List ℕ → List ℕ
base_of name = before_first is_comma (unique_of name)
