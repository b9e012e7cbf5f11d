-- File names as they are written.
use Rattle.std.specs.Prelude.{ℕ, Bool, false, not, ◌&&◌, ◌==◌, if◌then◌else◌, List, [], ◌∷◌, ◌++◌, codes, decimal}
use Rattle.std.specs.List.{list_any, list_all}
use Rattle.quota_units.specs.declared.flags.Flags.{Flags}
use Rattle.quota_units.specs.Flagging.{is_among, flag_letters, has_flag, letters_of}
use Rattle.message_names.specs.Parts.{unique_of}
use Rattle.message_names.specs.FlagLetters.{others_of}

-- A base may hold every byte but `,` (44), `:` (58), `/` (47), 0 and the line feed (10).
abbrev pub is_base_byte : ℕ → Bool
is_base_byte b = not (is_among (44 ∷ 58 ∷ 47 ∷ 0 ∷ 10 ∷ []) b)

-- a base is not empty, does not begin with a dot (46), and holds only the bytes that a base may
-- hold
abbrev pub is_base : List ℕ → Bool
is_base [] = false
is_base (b ∷ bytes) = not (b == 46) && list_all is_base_byte (b ∷ bytes)

-- if flags are set, `:2,` and their letters
abbrev pub written_flags : Flags → List ℕ
written_flags flags =
    if list_any (has_flag flags) flag_letters then codes ":2," ++ letters_of flags else []

-- the name of a message with this base, this size in octets and these flags
abbrev pub written_name : List ℕ → ℕ → Flags → List ℕ
written_name base size flags = base ++ (codes ",S=" ++ (decimal size ++ written_flags flags))

-- the name with these flags in place of its own; of the info part, only the bytes after `2,` that
-- name no flag are kept
abbrev pub renamed : List ℕ → Flags → List ℕ
renamed name flags = unique_of name ++ (codes ":2," ++ (letters_of flags ++ others_of name))
