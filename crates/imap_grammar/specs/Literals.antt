-- The reading of literals: RFC 9051, section 9, literal. A literal's octets follow its marker,
-- which is their number in braces and a line's end.
use Rattle.std.specs.Prelude.{ℕ, nat_lt, if◌then◌else◌, List, [], ◌∷◌, length, take, drop}
use Rattle.imap_grammar.specs.Reading.{Reader, got, short, marked, ◌>>=◌, gives, byte, line_end}
use Rattle.imap_grammar.specs.Numbers.{count}

-- the marker of a literal, after its opening brace
abbrev pub marker : Reader ℕ
marker = do
  octets ← count
  closing ← byte 125
  end ← line_end
  gives octets

-- this many octets
abbrev pub octets : (count : ℕ) → Reader (List ℕ)
octets count [] = marked count
octets count (b ∷ bs) =
    if nat_lt (length (b ∷ bs)) count then short
    else got (take count (b ∷ bs)) (drop count (b ∷ bs))

-- a literal, after its opening brace
abbrev pub literal : Reader (List ℕ)
literal = marker >>= octets
