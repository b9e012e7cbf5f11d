-- The bytes that the parts of a command may have: RFC 9051, section 9.
use Rattle.std.specs.Prelude.{ℕ, Bool, not, ◌&&◌, ◌||◌, ◌==◌, nat_le, codes}
use Rattle.std.specs.List.{list_any}
use Rattle.std.specs.Char.{is_ascii_alphabetic}

-- a byte of a tag: any printing character but a space and ( ) { % * " \ +
abbrev pub is_tag_byte : ℕ → Bool
is_tag_byte b = nat_le 33 b && (nat_le b 126 && not (list_any (λ c. c == b) (codes "(){%*\"\\+")))

abbrev pub is_letter : ℕ → Bool
is_letter b = is_ascii_alphabetic b

-- a byte that needs no quotes in a name: a byte of a tag, or +
abbrev pub is_astring_byte : ℕ → Bool
is_astring_byte b = b == 43 || is_tag_byte b

-- a byte that needs a \ before it between quotes: " and \
abbrev pub is_escaped : ℕ → Bool
is_escaped b = b == 34 || b == 92

-- a byte that may occur between quotes, as it is or after a \: all but NUL, LF and CR
abbrev pub is_quotable : ℕ → Bool
is_quotable b = not (b == 0 || (b == 10 || b == 13))
