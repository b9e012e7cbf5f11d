-- The definition line of a ledger (Maildir++): nothing, or members with commas between them. A
-- member is one or more digits and one ASCII letter. S names octets and C messages. Members with
-- other letters are skipped, and of several members with one letter only the last counts.
use Rattle.std.specs.Prelude.{ℕ, ◌+◌, min, Bool, not, ◌&&◌, ◌||◌, nat_lt, ◌==◌, if◌then◌else◌, List, [], ◌∷◌, length, take, reverse, Option, Some, None, is_some, option_and_then}
use Rattle.std.specs.List.{slice_split, list_all, find, filter_map, prefix_len, sum_by, take_while}
use Rattle.std.specs.Char.{is_ascii_digit, is_ascii_alphabetic}
use Rattle.std.specs.Str.Parse.{digits_value}
use Rattle.quota_units.specs.declared.limits.TheConstants.{LARGEST_LIMIT}
use Rattle.quota_units.specs.Limiting.{LimitNumbers}
use Rattle.maildirsize.specs.declared.definition.Member.{Member}
use Rattle.maildirsize.specs.Prefixes.{skip_while}
use Rattle.maildirsize.specs.Lines.{is_line_feed, first_line}

-- a comma is byte 44
abbrev pub is_comma : ℕ → Bool
is_comma b = b == 44

-- the limit that a number sets: it is cut at 9007199254740991, and 0 sets none
abbrev pub limit_of : ℕ → Option ℕ
limit_of n = if n == 0 then None else Some (min n LARGEST_LIMIT)

-- digits, and then one letter
abbrev pub member_of : List ℕ → List ℕ → Option Member
member_of digits [] = None
member_of digits (letter ∷ []) =
    if nat_lt 0 (length digits) && is_ascii_alphabetic letter
    then Some (record { letter = letter; limit = limit_of (digits_value 10 digits) })
    else None
member_of digits (letter ∷ next ∷ more) = None

abbrev pub member_in : List ℕ → Option Member
member_in text = member_of (take_while is_ascii_digit text) (skip_while is_ascii_digit text)

abbrev pub is_member : List ℕ → Bool
is_member text = is_some (member_in text)

-- the texts of a definition's members
abbrev pub members_in : List ℕ → List (List ℕ)
members_in [] = []
members_in (b ∷ line) = slice_split is_comma (b ∷ line)

-- the limit that the last member with this letter sets
abbrev pub limit_named : ℕ → List Member → Option ℕ
limit_named letter members =
    option_and_then (λ m. m.limit) (find (λ m. m.letter == letter) (reverse members))

-- the limits that members set: S is byte 83 and C is byte 67
abbrev pub limits_named : List Member → LimitNumbers
limits_named members = record { octets = limit_named 83 members; count = limit_named 67 members }

-- the limits that members' texts set, if each is the text of a member
abbrev pub limits_in : List (List ℕ) → Option LimitNumbers
limits_in texts =
    if list_all is_member texts then Some (limits_named (filter_map member_in texts)) else None

-- the offset at which the first wrong text begins, if a comma comes after each text
abbrev pub wrong_text_in : List (List ℕ) → Option ℕ
wrong_text_in texts =
    let right = prefix_len is_member texts in
    if nat_lt right (length texts) then Some (sum_by (λ text. length text + 1) (take right texts))
    else None

-- the limits that a line defines
abbrev pub definition_in : List ℕ → Option LimitNumbers
definition_in line = limits_in (members_in line)

-- the offset in a line at which the first wrong member begins
abbrev pub wrong_member_in : List ℕ → Option ℕ
wrong_member_in line = wrong_text_in (members_in line)

-- the limits that a ledger's first line defines
abbrev pub definition_of : List ℕ → Option LimitNumbers
definition_of [] = None
definition_of (b ∷ bytes) = definition_in (first_line (b ∷ bytes))

-- whether a byte belongs to a member's text: it is neither a comma nor a line feed
abbrev pub is_in_member : ℕ → Bool
is_in_member b = not (is_comma b || is_line_feed b)

-- the texts between the commas of the first line
abbrev pub member_texts_at : List ℕ → List (List ℕ)
member_texts_at bytes = slice_split is_comma (first_line bytes)
