-- The size that the unique part of a file name states (Maildir++), in octets.
use Rattle.std.specs.Prelude.{◌≡◌, ◌<◌, ◌≤◌, ℕ, min, Bool, true, ◌&&◌, nat_lt, ◌==◌, if◌then◌else◌, List, [], ◌∷◌, ◌++◌, length, codes, Option, Some, None}
use Rattle.std.specs.Option.{option_or, option_and_then}
use Rattle.std.specs.List.{before_first, list_all}
use Rattle.std.specs.Char.{is_ascii_digit}
use Rattle.std.specs.Str.Parse.{digits_value}
use Rattle.message_names.specs.Parts.{is_comma}

-- a size is cut at 1099511627775, which is 2 ^ 40 - 1
abbrev pub cut_size : ℕ → ℕ
cut_size octets = min octets 1099511627775

-- the size that one or more digits stand for, cut
abbrev pub size_in_digits : List ℕ → Option ℕ
size_in_digits digits =
    if nat_lt 0 (length digits)
    && list_all is_ascii_digit digits then Some (cut_size (digits_value 10 digits)) else None

-- the bytes after `,S=`, if the bytes begin with it
abbrev pub after_mark : List ℕ → Option (List ℕ)
after_mark [] = None
after_mark (a ∷ []) = None
after_mark (a ∷ b ∷ []) = None
after_mark (a ∷ b ∷ c ∷ rest) = if is_comma a && (b == 83 && c == 61) then Some rest else None

-- the size that a place names, from the bytes that begin there: `,S=`, and then digits up to a
-- comma or to the end
abbrev pub size_at : List ℕ → Option ℕ
size_at bytes =
    option_and_then (λ rest. size_in_digits (before_first is_comma rest)) (after_mark bytes)

-- the size at the first place that names one
abbrev pub size_named : List ℕ → Option ℕ
size_named [] = None
size_named (b ∷ bytes) = option_or (size_at (b ∷ bytes)) (size_named bytes)

-- whether digits end before these bytes: at a comma, or at the end
abbrev pub ends_digits : List ℕ → Bool
ends_digits [] = true
ends_digits (b ∷ bytes) = is_comma b

-- The unique part has a place that names a size: these bytes come before it, then come `,S=` and
-- one or more digits, and after them nothing or a comma and more.
pub record SizePlace (unique before digits after : List ℕ) : Type 0 where
  pub whole : unique ≡ before ++ (codes ",S=" ++ (digits ++ after))
  pub some : 0 < length digits
  pub digits_only : list_all is_ascii_digit digits ≡ true
  pub ended : ends_digits after ≡ true

-- the size is that of a place, and no other place comes before it
pub record NamesSize (unique : List ℕ) (size : ℕ) : Type 0 where
  pub before : List ℕ
  pub digits : List ℕ
  pub after : List ℕ
  pub place : SizePlace unique before digits after
  pub first : (b d e : List ℕ) → SizePlace unique b d e → length before ≤ length b
  pub value : size ≡ cut_size (digits_value 10 digits)

-- no place names a size
abbrev pub NamesNoSize : List ℕ → Type 0
NamesNoSize unique = (b d e : List ℕ) → SizePlace unique b d e → ⊥

-- the size is that of the first place, and there is none exactly if there is no place
abbrev pub IsSizeNamed : List ℕ → Option ℕ → Type 0
IsSizeNamed unique None = NamesNoSize unique
IsSizeNamed unique (Some size) = NamesSize unique size

-- the named size, or else the file's length, each cut
abbrev pub size_or : Option ℕ → ℕ → ℕ
size_or None length = cut_size length
size_or (Some size) length = cut_size size
