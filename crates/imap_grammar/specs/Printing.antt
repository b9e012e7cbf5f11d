-- How a name is printed: RFC 9051, section 9, astring. Which of its forms is used is this project's
-- own choice.
use Rattle.std.specs.Prelude.{ℕ, Bool, ◌&&◌, nat_lt, if◌then◌else◌, List, [], ◌∷◌, ◌++◌, length, codes}
use Rattle.std.specs.List.{list_all, flat_map}
use Rattle.std.specs.Fmt.{decimal}
use Rattle.quota_units.specs.Bytes.{is_printable}
use Rattle.imap_grammar.specs.Bytes.{is_astring_byte, is_escaped}

-- one or more bytes that need no quotes
abbrev pub is_plain : List ℕ → Bool
is_plain name = nat_lt 0 (length name) && list_all is_astring_byte name

abbrev pub is_printable_text : List ℕ → Bool
is_printable_text name = list_all is_printable name

-- a byte between quotes: a \ comes before " and \
abbrev pub escaped : ℕ → List ℕ
escaped b = if is_escaped b then 92 ∷ b ∷ [] else b ∷ []

abbrev pub quoted : List ℕ → List ℕ
quoted name = codes "\"" ++ (flat_map escaped name ++ codes "\"")

-- the number of bytes, and then the bytes
abbrev pub literal : List ℕ → List ℕ
literal name = codes "{" ++ (decimal (length name) ++ (codes "}\r\n" ++ name))

abbrev pub printed : List ℕ → List ℕ
printed name =
    if is_plain name then name else if is_printable_text name then quoted name else literal name
