-- The reading of the limits that SETQUOTA asks for: RFC 9208, formal syntax: setquota-list.
use Rattle.std.specs.Prelude.{List}
use Rattle.quota_units.specs.Resources.{resource_of}
use Rattle.imap_grammar.specs.declared.limits.AskedLimit.{AskedLimit}
use Rattle.imap_grammar.specs.Reading.{Reader, ◌>>=◌, gives, byte}
use Rattle.imap_grammar.specs.Astrings.{plain}
use Rattle.imap_grammar.specs.Numbers.{number}
use Rattle.imap_grammar.specs.Lists.{any_items}

-- a resource's name, a space and a number
abbrev pub asked_limit : Reader AskedLimit
asked_limit = do
  name ← plain
  space ← byte 32
  limit ← number
  gives (record { resource = resource_of name; limit = limit })

-- any number of limits separated by spaces, and the closing parenthesis
abbrev pub limits_closed : Reader (List AskedLimit)
limits_closed = any_items asked_limit
