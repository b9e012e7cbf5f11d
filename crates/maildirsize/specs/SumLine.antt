-- The sum lines of a ledger (Maildir++): spaces, an integer of octets, one space or more, an
-- integer of messages, and spaces. A space is byte 32. An integer is an optional minus, byte 45,
-- and 1 to 18 digits.
use Rattle.std.specs.Prelude.{ℕ, ℤ, pos, neg_ℤ, Bool, not, ◌||◌, nat_lt, nat_le, ◌==◌, if◌then◌else◌, List, [], ◌∷◌, length, Option, None, is_some, option_map, option_and_then}
use Rattle.std.specs.List.{slice_split, filter, filter_map, list_any, after_first}
use Rattle.quota_units.specs.Digits.{number_of}
use Rattle.maildirsize.specs.Lines.{is_line_feed, first_line}
use Rattle.maildirsize.specs.Sums.{Pair}

abbrev pub is_space : ℕ → Bool
is_space b = b == 32

-- the number that 1 to 18 digits stand for
abbrev pub magnitude_in : List ℕ → Option ℕ
magnitude_in digits = if nat_le (length digits) 18 then number_of digits else None

abbrev pub integer_in : List ℕ → Option ℤ
integer_in [] = None
integer_in (b ∷ text) =
    if b == 45 then option_map (λ n. neg_ℤ (pos n)) (magnitude_in text)
    else option_map pos (magnitude_in (b ∷ text))

-- the words of a line, which its spaces separate
abbrev pub words_in : List ℕ → List (List ℕ)
words_in line = filter (λ word. nat_lt 0 (length word)) (slice_split is_space line)

-- the pair of two integers, if both are there
abbrev pub pair_of : Option ℤ → Option ℤ → Option Pair
pair_of octets count =
    option_and_then (λ o. option_map (λ c. record { octets = o; count = c }) count) octets

abbrev pub pair_of_words : List (List ℕ) → Option Pair
pair_of_words [] = None
pair_of_words (octets ∷ []) = None
pair_of_words (octets ∷ count ∷ []) = pair_of (integer_in octets) (integer_in count)
pair_of_words (octets ∷ count ∷ next ∷ more) = None

-- the pair that a line states, if its words are two integers
abbrev pub pair_in : List ℕ → Option Pair
pair_in line = pair_of_words (words_in line)

abbrev pub is_sum_line : List ℕ → Bool
is_sum_line line = is_some (pair_in line)

-- the pairs that lines state
abbrev pub pairs_in : List (List ℕ) → List Pair
pairs_in lines = filter_map pair_in lines

-- whether a byte belongs to a word: it is neither a space nor a line feed
abbrev pub is_in_word : ℕ → Bool
is_in_word b = not (is_space b || is_line_feed b)

-- the pair of the sum line that the bytes begin with, and the bytes after its line feed
abbrev pub sum_line_at : List ℕ → Option (Pair × List ℕ)
sum_line_at bytes =
    if list_any is_line_feed bytes
    then option_map (λ pair. (pair, after_first is_line_feed bytes)) (pair_in (first_line bytes))
    else None
