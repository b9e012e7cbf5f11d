-- The lines of a request and the attributes that they give (Postfix, SMTPD_POLICY_README). A line
-- ends with a line feed, byte 10, and one CR before it is no part of the line.
use Rattle.std.specs.Prelude.{ℕ, Bool, not, ◌==◌, ◌+◌, ◌&&◌, List, length, find, take_while, bytes_eq, Option}
use Rattle.std.specs.List.{list_any, list_all, before_first, after_first}
use Rattle.std.specs.Option.{option_map}
use Rattle.std.specs.Str.Lines.{lines}

abbrev pub is_filled : List ℕ → Bool
is_filled line = not (length line == 0)

-- the lines before the first empty line
abbrev pub attribute_lines : List ℕ → List (List ℕ)
attribute_lines text = take_while is_filled (lines text)

-- the text has one empty line, and ends with it
abbrev pub is_closed : List ℕ → Bool
is_closed text = length (lines text) == length (attribute_lines text) + 1

-- the byte = is 61
abbrev pub is_equals : ℕ → Bool
is_equals b = b == 61

abbrev pub has_equals : List ℕ → Bool
has_equals line = list_any is_equals line

-- an attribute's name stands before the first = of its line, and its value after it
abbrev pub name_in : List ℕ → List ℕ
name_in line = before_first is_equals line

abbrev pub value_in : List ℕ → List ℕ
value_in line = after_first is_equals line

abbrev pub is_named : (name line : List ℕ) → Bool
is_named name line = bytes_eq (name_in line) name

-- the value of the first attribute of this name
abbrev pub attribute : (text name : List ℕ) → Option (List ℕ)
attribute text name = option_map value_in (find (is_named name) (attribute_lines text))

-- the text is attributes, and then the empty line that closes it
abbrev pub has_form : List ℕ → Bool
has_form text = is_closed text && list_all has_equals (attribute_lines text)
