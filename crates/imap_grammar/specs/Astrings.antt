-- The reading of a name: RFC 9051, section 9, astring.
use Rattle.std.specs.Prelude.{ℕ, Bool, true, false, ◌==◌, if◌then◌else◌, List, [], ◌∷◌}
use Rattle.imap_grammar.specs.Bytes.{is_astring_byte, is_escaped, is_quotable}
use Rattle.imap_grammar.specs.Reading.{Reader, got, wrong, short, with_first, many}
use Rattle.imap_grammar.specs.Literals.{literal}

-- one or more bytes that need no quotes, up to one that does
abbrev pub plain : Reader (List ℕ)
plain [] = short
plain (b ∷ bs) = if is_astring_byte b then many is_astring_byte (b ∷ bs) else wrong (b ∷ bs)

-- the name up to the closing quote; `after_backslash` says that a \ comes before the text
abbrev pub inside : (after_backslash : Bool) → Reader (List ℕ)
inside after_backslash [] = short
inside true (b ∷ bs) = if is_escaped b then with_first b (inside false bs) else wrong (b ∷ bs)
inside false (b ∷ bs) =
    if b == 34 then got [] bs
    else if b == 92 then inside true bs
    else if is_quotable b then with_first b (inside false bs) else wrong (b ∷ bs)

-- a name without quotes: a literal, or plain
abbrev pub unquoted : Reader (List ℕ)
unquoted [] = short
unquoted (b ∷ bs) = if b == 123 then literal bs else plain (b ∷ bs)

-- a name: between quotes, as a literal, or plain
abbrev pub astring : Reader (List ℕ)
astring [] = short
astring (b ∷ bs) = if b == 34 then inside false bs else unquoted (b ∷ bs)
