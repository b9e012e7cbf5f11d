-- Why a line is no command, read off the line alone: its tag, its word and whether the word's
-- command is allowed.
use Rattle.std.specs.Prelude.{ℕ, Bool, false, ◌&&◌, ◌||◌, ◌==◌, nat_lt, nat_le, if◌then◌else◌, bytes_eq, List, [], ◌∷◌, length, take, map, codes, Option, Some, None}
use Rattle.std.specs.List.{list_all}
use Rattle.std.specs.Char.{to_ascii_lowercase}
use Rattle.imap_grammar.specs.declared.command.CommandFault.{CommandFault}
use Rattle.imap_grammar.specs.declared.command.CommandFault.TheVariants.{InvalidTag, Unknown, NotAuthenticated, AlreadyAuthenticated, Syntax}
use Rattle.imap_grammar.specs.declared.word.Word.{Word}
use Rattle.imap_grammar.specs.Bytes.{is_tag_byte, is_letter}
use Rattle.imap_grammar.specs.Commands.{word_of, is_tag_long, is_allowed}

-- the bytes before the first that fails a test
abbrev pub taken : (ℕ → Bool) → List ℕ → List ℕ
taken is [] = []
taken is (b ∷ bs) = if is b then b ∷ taken is bs else []

-- the text from the first byte that fails a test
abbrev pub untaken : (ℕ → Bool) → List ℕ → List ℕ
untaken is [] = []
untaken is (b ∷ bs) = if is b then untaken is bs else b ∷ bs

-- the bytes of a tag that a text begins with
abbrev pub tag_in : List ℕ → List ℕ
tag_in text = taken is_tag_byte text

abbrev pub begins_with : ℕ → List ℕ → Bool
begins_with byte [] = false
begins_with byte (b ∷ bs) = b == byte

-- a text begins with a line's end: LF, or CR and LF
abbrev pub begins_line_end : List ℕ → Bool
begins_line_end [] = false
begins_line_end (b ∷ bs) = b == 10 || (b == 13 && begins_with 10 bs)

-- the bytes up to a space or the line's end
abbrev pub word_in : List ℕ → List ℕ
word_in [] = []
word_in (b ∷ bs) = if b == 32 || begins_line_end (b ∷ bs) then [] else b ∷ word_in bs

-- why a command is not allowed
abbrev pub denial : (login : Bool) → CommandFault
denial login = if login then AlreadyAuthenticated else NotAuthenticated

-- the fault of a command with this word, which else goes wrong at this place
abbrev pub word_fault : (login : Bool) (at : ℕ) → Option Word → CommandFault
word_fault login at None = Unknown
word_fault login at (Some word) = if is_allowed word login then Syntax at else denial login

-- the fault of a line, from the end of its tag on
abbrev pub fault_after_tag : (login : Bool) (at : ℕ) → List ℕ → CommandFault
fault_after_tag login at [] = InvalidTag
fault_after_tag login at (b ∷ bs) =
    if b == 32 then word_fault login at (word_of (word_in bs)) else InvalidTag

-- the fault of a line that is no command: it has no tag with a space after it, or no known word, or
-- its command is not allowed, or it goes wrong at this place, whichever comes first
abbrev pub line_fault : (login : Bool) → List ℕ → (at : ℕ) → CommandFault
line_fault login text at =
    if is_tag_long (tag_in text) then fault_after_tag login at (untaken is_tag_byte text)
    else InvalidTag

-- this word begins with these letters, in either case
abbrev pub begins_as : (letters word : List ℕ) → Bool
begins_as letters word = nat_le (length letters) (length word)
    && bytes_eq (map to_ascii_lowercase letters)
    (map to_ascii_lowercase (take (length letters) word))

-- the word of a command that is always allowed begins with these letters
abbrev pub begins_common : List ℕ → Bool
begins_common letters = begins_as letters (codes "capability")
    || (begins_as letters (codes "noop") || begins_as letters (codes "logout"))

-- the word of a command on quotas begins with these letters
abbrev pub begins_quota : List ℕ → Bool
begins_quota letters = begins_as letters (codes "getquota")
    || (begins_as letters (codes "getquotaroot") || begins_as letters (codes "setquota"))

-- the word of a command on mailboxes begins with these letters
abbrev pub begins_mailbox : List ℕ → Bool
begins_mailbox letters = begins_as letters (codes "status") || begins_as letters (codes "append")

-- the word of some command begins with these letters, or is these letters
abbrev pub begins_word : List ℕ → Bool
begins_word letters = begins_common letters
    || (begins_as letters (codes "login") || (begins_quota letters || begins_mailbox letters))

abbrev pub are_letters : List ℕ → Bool
are_letters bytes = list_all is_letter bytes

-- the fault of a text that ends at this place, and goes wrong nowhere but perhaps in its word. It
-- has these bytes after its tag and a space: letters, or a word and more.
abbrev pub fault_in_word : (at : ℕ) → List ℕ → CommandFault
fault_in_word at line =
    if are_letters line then if begins_word line then Syntax at else Unknown else Syntax at

-- the same of a text that has this tag, or the first bytes of one, and then this rest
abbrev pub fault_at_end : (at : ℕ) → (tag : List ℕ) → (rest : List ℕ) → CommandFault
fault_at_end at tag [] = if nat_le (length tag) 64 then Syntax at else InvalidTag
fault_at_end at tag (b ∷ bs) = fault_in_word at bs

-- the fault of a text that has to be a command, but goes on: at this place it goes wrong, or ends
abbrev pub unended_fault : (login : Bool) → List ℕ → (at : ℕ) → CommandFault
unended_fault login text at =
    if nat_lt at (length text) then line_fault login text at
    else fault_at_end at (tag_in text) (untaken is_tag_byte text)
