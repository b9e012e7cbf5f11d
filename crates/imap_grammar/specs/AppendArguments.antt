-- The reading of what follows the mailbox of APPEND: RFC 9051, section 9, append, flag-list and
-- append-message.
use Rattle.std.specs.Prelude.{ℕ, ◌==◌, false, if◌then◌else◌, [], ◌∷◌, Option, None}
use Rattle.quota_units.specs.declared.flags.Flags.{Flags}
use Rattle.imap_grammar.specs.Reading.{Reader, short, ◌>>=◌, gives, byte}
use Rattle.imap_grammar.specs.Literals.{marker}
use Rattle.imap_grammar.specs.Astrings.{plain, inside}
use Rattle.imap_grammar.specs.Lists.{some_items, any_items}
use Rattle.imap_grammar.specs.SystemFlags.{letter_of, flags_of}

-- a flag: its letter, if it has one. A flag without a \ has none.
abbrev pub flag : Reader (Option ℕ)
flag [] = short
flag (b ∷ bs) =
    if b == 92 then (plain >>= (λ name. gives (letter_of name))) bs
    else (plain >>= (λ name. gives None)) (b ∷ bs)

-- one flag or more, separated by spaces, and the closing parenthesis
abbrev pub some_flags : Reader Flags
some_flags = some_items flag >>= (λ letters. gives (flags_of letters))

-- any number of flags, separated by spaces, and the closing parenthesis
abbrev pub any_flags : Reader Flags
any_flags = any_items flag >>= (λ letters. gives (flags_of letters))

-- a date, after its opening quote
abbrev pub date : Reader (Unit {0})
date = inside false >>= (λ value. gives tt)

-- the marker of the message, whose octets are no part of the text
abbrev pub message_marker : Reader ℕ
message_marker = byte 123 >>= (λ opening. marker)

-- a date, after its opening quote, a space, and the message's marker
abbrev pub date_and_marker : Reader ℕ
date_and_marker = do
  own ← date
  space ← byte 32
  message_marker

-- the message's marker, which may come after a date
abbrev pub dated_marker : Reader ℕ
dated_marker [] = short
dated_marker (b ∷ bs) = if b == 34 then date_and_marker bs else message_marker (b ∷ bs)

-- flags, after their opening parenthesis, a space, and the message's marker
abbrev pub flags_and_marker : Reader (Flags × ℕ)
flags_and_marker = do
  flags ← any_flags
  space ← byte 32
  size ← dated_marker
  gives (flags, size)

-- the message's marker, which may come after flags and a date
abbrev pub flagged_marker : Reader (Flags × ℕ)
flagged_marker [] = short
flagged_marker (b ∷ bs) =
    if b == 40 then flags_and_marker bs
    else (dated_marker >>= (λ size. gives (flags_of [], size))) (b ∷ bs)
