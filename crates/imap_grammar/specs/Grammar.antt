-- The commands, apart from how they are read: a tag, a space, the command's word and arguments, and
-- the line's end. The octets of an APPEND's message are no part of a command's text.
use Rattle.std.specs.Prelude.{◌≡◌, ◌<◌, ◌≤◌, ◌⊎◌, ℕ, Bool, IsTrue, not, List, [], ◌∷◌, ◌++◌, length, map, codes, Option, None}
use Rattle.std.specs.List.{list_all}
use Rattle.std.specs.Char.{to_ascii_lowercase, is_ascii_digit}
use Rattle.std.specs.Str.Parse.{digits_value}
use Rattle.quota_units.specs.Resources.{resource_of}
use Rattle.quota_units.specs.declared.flags.Flags.{Flags}
use Rattle.imap_grammar.specs.declared.limits.AskedLimit.{AskedLimit}
use Rattle.imap_grammar.specs.declared.status.StatusItem.{StatusItem}
use Rattle.imap_grammar.specs.declared.command.Command.{Command}
use Rattle.imap_grammar.specs.declared.command.Command.TheVariants.{Capability, Noop, Logout, Login, GetQuota, GetQuotaRoot, SetQuota, Status, Append}
use Rattle.imap_grammar.specs.Bytes.{is_tag_byte, is_astring_byte, is_quotable}
use Rattle.imap_grammar.specs.Printing.{quoted}
use Rattle.imap_grammar.specs.StatusItems.{item_of}
use Rattle.imap_grammar.specs.SystemFlags.{letter_of, flags_of}

-- a command with its tag
pub record Tagged : Type 0 where
  pub tag : List ℕ
  pub command : Command

-- 1 to 64 bytes of a tag (RFC 9051, section 9: tag; the length is this project's own)
pub record IsTag (tag : List ℕ) : Type 0 where
  pub some : 0 < length tag
  pub short : length tag ≤ 64
  pub each : IsTrue (list_all is_tag_byte tag)

-- a line ends in LF, or in CR and LF
abbrev pub IsLineEnd : List ℕ → Type 0
IsLineEnd end = (end ≡ 10 ∷ []) ⊎ (end ≡ 13 ∷ 10 ∷ [])

-- a word, in letters of either case
abbrev pub IsWord : List ℕ → List ℕ → Type 0
IsWord word bytes = map to_ascii_lowercase bytes ≡ word

-- one or more bytes that need no quotes
pub record IsPlain (bytes : List ℕ) : Type 0 where
  pub some : 0 < length bytes
  pub each : IsTrue (list_all is_astring_byte bytes)

-- bytes between quotes, with a \ before " and \ (RFC 9051, section 9: quoted; bytes above 127 are
-- allowed)
pub record IsQuoted (bytes value : List ℕ) : Type 0 where
  pub each : IsTrue (list_all is_quotable value)
  pub spelled : bytes ≡ quoted value

-- 1 to `most` digits, of a number that is at most `largest`
pub record IsNumberWithin (most largest : ℕ) (bytes : List ℕ) (number : ℕ) : Type 0 where
  pub some : 0 < length bytes
  pub few : length bytes ≤ most
  pub digits : IsTrue (list_all is_ascii_digit bytes)
  pub value : number ≡ digits_value 10 bytes
  pub bounded : number ≤ largest

-- 1 to 19 digits, of a number below 2 ^ 63 (RFC 9051, section 9: number64)
abbrev pub IsNumber : List ℕ → ℕ → Type 0
IsNumber = IsNumberWithin 19 9223372036854775807

-- the marker of a literal of so many octets: 1 to 10 digits in braces, and a line's end
abbrev pub IsMarker : List ℕ → ℕ → Type 0
IsMarker bytes count = (digits end : List ℕ) × IsNumberWithin 10 9999999999 digits count
    × IsLineEnd end × (bytes ≡ 123 ∷ (digits ++ 125 ∷ end))

-- a marker, and as many octets as it says (RFC 9051, section 9: literal)
abbrev pub IsLiteral : List ℕ → List ℕ → Type 0
IsLiteral bytes value = (mark : List ℕ) × IsMarker mark (length value) × (bytes ≡ mark ++ value)

-- a name: plain, quoted, or a literal (RFC 9051, section 9: astring)
abbrev pub IsAstring : List ℕ → List ℕ → Type 0
IsAstring bytes value = (IsPlain bytes × (value ≡ bytes))
    ⊎ (IsQuoted bytes value ⊎ IsLiteral bytes value)

-- items, each after a space
abbrev pub IsMoreItems : {A : Type 0} → (List ℕ → A → Type 0) → List ℕ → List A → Type 0
IsMoreItems Is bytes [] = bytes ≡ []
IsMoreItems Is bytes (x ∷ xs) = (own more : List ℕ) × Is own x × IsMoreItems Is more xs
    × (bytes ≡ 32 ∷ (own ++ more))

-- any number of items, separated by spaces
abbrev pub IsItems : {A : Type 0} → (List ℕ → A → Type 0) → List ℕ → List A → Type 0
IsItems Is bytes [] = bytes ≡ []
IsItems Is bytes (x ∷ xs) = (own more : List ℕ) × Is own x × IsMoreItems Is more xs
    × (bytes ≡ own ++ more)

-- a resource's name, a space and the limit (RFC 9208, formal syntax: setquota-resource)
abbrev pub IsAskedLimit : List ℕ → AskedLimit → Type 0
IsAskedLimit bytes asked = (name number : List ℕ) × IsPlain name × IsNumber number asked.limit
    × (asked.resource ≡ resource_of name) × (bytes ≡ name ++ 32 ∷ number)

-- a name of an item of STATUS, which this service may not have (RFC 9051, section 9: status-att)
abbrev pub IsStatusItem : List ℕ → Option StatusItem → Type 0
IsStatusItem bytes item = IsPlain bytes × (item ≡ item_of bytes)

-- a flag, with or without a \, by its letter in file names (RFC 9051, section 9: flag)
abbrev pub IsFlag : List ℕ → Option ℕ → Type 0
IsFlag bytes letter = (IsPlain bytes × (letter ≡ None))
    ⊎ ((name : List ℕ) × IsPlain name × (letter ≡ letter_of name) × (bytes ≡ 92 ∷ name))

-- nothing, or a space and flags in parentheses
abbrev pub IsFlagsPart : List ℕ → Flags → Type 0
IsFlagsPart bytes flags = ((bytes ≡ []) × (flags ≡ flags_of []))
    ⊎ ((list : List ℕ) × (letters : List (Option ℕ)) × IsItems IsFlag list letters
    × (flags ≡ flags_of letters) × (bytes ≡ 32 ∷ 40 ∷ (list ++ 41 ∷ [])))

-- nothing, or a space and a date between quotes
abbrev pub IsDatePart : List ℕ → Type 0
IsDatePart bytes = (bytes ≡ [])
    ⊎ ((date value : List ℕ) × IsQuoted date value × (bytes ≡ 32 ∷ date))

-- a word, a space and a name
abbrev pub NamesOne : List ℕ → List ℕ → List ℕ → Type 0
NamesOne letters body name = (word bytes : List ℕ) × IsWord letters word × IsAstring bytes name
    × (body ≡ word ++ 32 ∷ bytes)

-- a word and two names, each after a space
abbrev pub NamesTwo : List ℕ → List ℕ → List ℕ → List ℕ → Type 0
NamesTwo letters body one two = (word first second : List ℕ) × IsWord letters word
    × IsAstring first one × IsAstring second two
    × (body ≡ word ++ 32 ∷ (first ++ 32 ∷ second))

-- a word, a space, a name, a space and limits in parentheses
abbrev pub NamesLimits : List ℕ → List ℕ → List ℕ → List AskedLimit → Type 0
NamesLimits letters body name limits = (word bytes list : List ℕ) × IsWord letters word
    × IsAstring bytes name × IsItems IsAskedLimit list limits
    × (body ≡ word ++ 32 ∷ (bytes ++ 32 ∷ 40 ∷ (list ++ 41 ∷ [])))

-- a word, a space, a name, a space and items in parentheses, of which there is one at least
abbrev pub NamesItems : List ℕ → List ℕ → List ℕ → List (Option StatusItem) → Type 0
NamesItems letters body name items = (word bytes list : List ℕ) × IsWord letters word
    × IsAstring bytes name × IsItems IsStatusItem list items × (0 < length items)
    × (body ≡ word ++ 32 ∷ (bytes ++ 32 ∷ 40 ∷ (list ++ 41 ∷ [])))

-- a word, a space, a name, flags and a date if they are there, a space and the marker of a message
abbrev pub NamesMessage : List ℕ → List ℕ → List ℕ → Flags → ℕ → Type 0
NamesMessage letters body name flags size = (word bytes flagged dated mark : List ℕ)
    × IsWord letters word × IsAstring bytes name × IsFlagsPart flagged flags × IsDatePart dated
    × IsMarker mark size × (body ≡ word ++ 32 ∷ (bytes ++ (flagged ++ (dated ++ 32 ∷ mark))))

-- the word and the arguments of a command that the session allows, logged in or not (RFC 9051,
-- section 9: command-any, command-auth, command-nonauth; RFC 9208, formal syntax: getquota,
-- getquotaroot, setquota)
abbrev pub IsBody : (login : Bool) → List ℕ → Command → Type 0
IsBody login body Capability = IsWord (codes "capability") body
IsBody login body Noop = IsWord (codes "noop") body
IsBody login body Logout = IsWord (codes "logout") body
IsBody login body (Login user password) = IsTrue (not login)
    × NamesTwo (codes "login") body user password
IsBody login body (GetQuota root) = IsTrue login × NamesOne (codes "getquota") body root
IsBody login body (GetQuotaRoot mailbox) = IsTrue login
    × NamesOne (codes "getquotaroot") body mailbox
IsBody login body (SetQuota root limits) = IsTrue login
    × NamesLimits (codes "setquota") body root limits
IsBody login body (Status mailbox items) = IsTrue login
    × NamesItems (codes "status") body mailbox items
IsBody login body (Append mailbox flags size) = IsTrue login
    × NamesMessage (codes "append") body mailbox flags size

-- the bytes are this command with this tag, and no more
abbrev pub IsCommand : (login : Bool) → List ℕ → Tagged → Type 0
IsCommand login bytes tagged = (body end : List ℕ) × IsTag tagged.tag
    × IsBody login body tagged.command × IsLineEnd end × (bytes ≡ tagged.tag ++ 32 ∷ (body ++ end))
