-- The reading of a command: RFC 9051, section 9, command; RFC 9208, formal syntax.
use Rattle.std.specs.Prelude.{ℕ, Bool, true, false, not, ◌&&◌, nat_lt, nat_le, if◌then◌else◌, bytes_eq, List, length, map, codes, Option, Some, None}
use Rattle.std.specs.Char.{to_ascii_lowercase}
use Rattle.imap_grammar.specs.declared.command.Command.{Command}
use Rattle.imap_grammar.specs.declared.command.Command.TheVariants.{Capability, Noop, Logout, Login, GetQuota, GetQuotaRoot, SetQuota, Status, Append}
use Rattle.imap_grammar.specs.declared.word.Word.{Word}
use Rattle.imap_grammar.specs.declared.word.Word.TheVariants.{Capability as CapabilityWord, Noop as NoopWord, Logout as LogoutWord, Login as LoginWord, GetQuota as GetQuotaWord, GetQuotaRoot as GetQuotaRootWord, SetQuota as SetQuotaWord, Status as StatusWord, Append as AppendWord}
use Rattle.imap_grammar.specs.Bytes.{is_tag_byte, is_letter}
use Rattle.imap_grammar.specs.Grammar.{Tagged}
use Rattle.imap_grammar.specs.Reading.{Reader, ◌>>=◌, gives, fails, byte, many, line_end}
use Rattle.imap_grammar.specs.Astrings.{astring}
use Rattle.imap_grammar.specs.LimitLists.{limits_closed}
use Rattle.imap_grammar.specs.StatusItems.{status_items}
use Rattle.imap_grammar.specs.AppendArguments.{flagged_marker}

-- the command that these lower-case letters name
abbrev pub word_named : List ℕ → Option Word
word_named letters =
    if bytes_eq letters (codes "capability") then Some CapabilityWord
    else if bytes_eq letters (codes "noop") then Some NoopWord
    else if bytes_eq letters (codes "logout") then Some LogoutWord
    else if bytes_eq letters (codes "login") then Some LoginWord
    else if bytes_eq letters (codes "getquota") then Some GetQuotaWord
    else if bytes_eq letters (codes "getquotaroot") then Some GetQuotaRootWord
    else if bytes_eq letters (codes "setquota") then Some SetQuotaWord
    else if bytes_eq letters (codes "status") then Some StatusWord
    else if bytes_eq letters (codes "append") then Some AppendWord else None

-- the command that these letters name, in either case
abbrev pub word_of : List ℕ → Option Word
word_of letters = word_named (map to_ascii_lowercase letters)

-- whether bytes have the length of a tag
abbrev pub is_tag_long : List ℕ → Bool
is_tag_long bytes = nat_lt 0 (length bytes) && nat_le (length bytes) 64

-- these bytes, if they are a tag
abbrev pub checked_tag : List ℕ → Reader (List ℕ)
checked_tag bytes = if is_tag_long bytes then gives bytes else fails

-- the line's end, after which this command is whole
abbrev pub ended : Command → Reader Command
ended command = do
  end ← line_end
  gives command

-- a space, a name and the line's end
abbrev pub name_alone : Reader (List ℕ)
name_alone = do
  space ← byte 32
  name ← astring
  end ← line_end
  gives name

-- a space, a name, a space, a password and the line's end
abbrev pub user_and_password : Reader Command
user_and_password = do
  space ← byte 32
  user ← astring
  space ← byte 32
  password ← astring
  ended (Login user password)

-- a space, a name, a space, limits in parentheses and the line's end
abbrev pub name_and_limits : Reader Command
name_and_limits = do
  space ← byte 32
  root ← astring
  space ← byte 32
  opening ← byte 40
  limits ← limits_closed
  ended (SetQuota root limits)

-- a space, a name, a space, items in parentheses and the line's end
abbrev pub name_and_items : Reader Command
name_and_items = do
  space ← byte 32
  mailbox ← astring
  space ← byte 32
  opening ← byte 40
  items ← status_items
  ended (Status mailbox items)

-- a space, a name, a space, and what comes before a message, up to the message's marker
abbrev pub name_and_message : Reader Command
name_and_message = do
  space ← byte 32
  mailbox ← astring
  space ← byte 32
  own ← flagged_marker
  gives (Append mailbox own.0 own.1)

-- what follows a word: all of it, or up to the message's marker
abbrev pub arguments_after : Word → Reader Command
arguments_after CapabilityWord = ended Capability
arguments_after NoopWord = ended Noop
arguments_after LogoutWord = ended Logout
arguments_after LoginWord = user_and_password
arguments_after GetQuotaWord = name_alone >>= (λ root. gives (GetQuota root))
arguments_after GetQuotaRootWord = name_alone >>= (λ mailbox. gives (GetQuotaRoot mailbox))
arguments_after SetQuotaWord = name_and_limits
arguments_after StatusWord = name_and_items
arguments_after AppendWord = name_and_message

-- CAPABILITY, NOOP and LOGOUT are always allowed, LOGIN without login, and the others after it
abbrev pub is_allowed : Word → (login : Bool) → Bool
is_allowed CapabilityWord login = true
is_allowed NoopWord login = true
is_allowed LogoutWord login = true
is_allowed LoginWord login = not login
is_allowed GetQuotaWord login = login
is_allowed GetQuotaRootWord login = login
is_allowed SetQuotaWord login = login
is_allowed StatusWord login = login
is_allowed AppendWord login = login

abbrev pub allowed_arguments : (allowed : Bool) → Word → Reader Command
allowed_arguments true word = arguments_after word
allowed_arguments false word = fails

-- what follows the word of a command that is allowed
abbrev pub arguments_of : (login : Bool) → Option Word → Reader Command
arguments_of login None = fails
arguments_of login (Some word) = allowed_arguments (is_allowed word login) word

abbrev pub tag_at : Reader (List ℕ)
tag_at = do
  bytes ← many is_tag_byte
  checked_tag bytes

-- a tag, a space, and a command that is allowed; APPEND up to the marker of its message
abbrev pub command_at : (login : Bool) → Reader Tagged
command_at login = do
  tag ← tag_at
  space ← byte 32
  letters ← many is_letter
  command ← arguments_of login (word_of letters)
  gives (record { tag = tag; command = command })
