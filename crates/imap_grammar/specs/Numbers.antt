-- The reading of decimal numbers: RFC 9051, section 9, number64 and literal.
use Rattle.std.specs.Prelude.{ℕ, zero, suc, Bool, ◌+◌, ◌*◌, ◌-◌, ◌&&◌, nat_lt, nat_le, if◌then◌else◌, [], ◌∷◌, List}
use Rattle.std.specs.Char.{is_ascii_digit}
use Rattle.imap_grammar.specs.Reading.{Reader, Reading, got, wrong, short}

-- a digit may follow `come` digits that make `value`, in a number of at most `most` digits that is
-- at most `largest`
abbrev pub takes_digit : (most largest come value : ℕ) → ℕ → Bool
takes_digit most largest come value b =
    is_ascii_digit b && (nat_lt come most && nat_le (value * 10 + (b - 48)) largest)

-- the number ends after `come` digits, if there is at least one
abbrev pub number_ends : (come value : ℕ) → List ℕ → Reading ℕ
number_ends zero value rest = wrong rest
number_ends (suc come) value rest = got value rest

-- further digits, after `come` digits that make `value`
abbrev pub digits : (most largest come value : ℕ) → Reader ℕ
digits most largest come value [] = short
digits most largest come value (b ∷ bs) =
    if takes_digit most largest come value b
    then digits most largest (come + 1) (value * 10 + (b - 48)) bs
    else number_ends come value (b ∷ bs)

-- a number of 1 to `most` digits that is at most `largest`
abbrev pub number_within : (most largest : ℕ) → Reader ℕ
number_within most largest = digits most largest 0 0

-- the largest number: 2 ^ 63 - 1
abbrev pub max_number : ℕ
max_number = 9223372036854775807

-- a number that a command names
abbrev pub number : Reader ℕ
number = number_within 19 max_number

-- the largest number of ten digits
abbrev pub max_count : ℕ
max_count = 9999999999

-- the number of octets of a literal
abbrev pub count : Reader ℕ
count = number_within 10 max_count
