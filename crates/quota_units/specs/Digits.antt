-- Numbers in decimal digits.
use Rattle.std.specs.Prelude.{ℕ, List, length, nat_lt, nat_le, ◌&&◌, Option, Some, None, if◌then◌else◌}
use Rattle.std.specs.List.{list_all}
use Rattle.std.specs.Char.{is_ascii_digit}
use Rattle.std.specs.Str.Parse.{digits_value}

-- the number that 1 to 19 digits stand for
abbrev pub number_of : List ℕ → Option ℕ
number_of bytes = if nat_lt 0 (length bytes) && (nat_le (length bytes) 19
    && list_all is_ascii_digit bytes) then Some (digits_value 10 bytes) else None
