-- The place at which a text stops being the beginning of a command.
use Rattle.std.specs.Prelude.{◌≡◌, ◌⊎◌, ◌<◌, ◌≤◌, ◌==◌, ◌||◌, ℕ, Bool, IsTrue, List, [], ◌∷◌, ◌++◌, length, take, Some}
use Rattle.std.specs.List.{list_all}
use Rattle.imap_grammar.specs.declared.word.Word.{Word}
use Rattle.imap_grammar.specs.Bytes.{is_tag_byte, is_letter}
use Rattle.imap_grammar.specs.Grammar.{Tagged, IsTag, IsCommand}
use Rattle.imap_grammar.specs.Commands.{word_of, is_allowed}
use Rattle.imap_grammar.specs.Faults.{begins_line_end}

-- some command begins with these bytes: a command of any length, with a message of any size, in a
-- session that is logged in or not
abbrev pub BeginsCommand : List ℕ → Type 0
BeginsCommand bytes = (login : Bool) × (more : List ℕ) × (tagged : Tagged)
    × IsCommand login (bytes ++ more) tagged

-- the first `at` bytes of the text are the most with which some command begins, and in this session
-- that command is allowed
pub record IsPlace (login : Bool) (text : List ℕ) (at : ℕ) : Type 0 where
  pub within : at ≤ length text
  pub begins : (more : List ℕ) × (tagged : Tagged) × IsCommand login (take at text ++ more) tagged
  pub longest : (n : ℕ) → at < n → n ≤ length text → BeginsCommand (take n text) → ⊥

-- the text ends, or a space or a line's end comes first
abbrev pub EndsWord : List ℕ → Type 0
EndsWord [] = Unit {0}
EndsWord (b ∷ bs) = IsTrue (b == 32 || begins_line_end (b ∷ bs))

-- the text begins with a tag, a space and the word of a command that this session allows
pub record HasAllowedWord (login : Bool) (text : List ℕ) : Type 0 where
  pub tag : List ℕ
  pub letters : List ℕ
  pub rest : List ℕ
  pub word : Word
  pub is_tag : IsTag tag
  pub is_word : word_of letters ≡ Some word
  pub allowed : IsTrue (is_allowed word login)
  pub ends : EndsWord rest
  pub parts : text ≡ tag ++ 32 ∷ (letters ++ rest)

-- the text is a tag, a space and letters: none, or the first letters of a word, or all of them
pub record HasOpenWord (text : List ℕ) : Type 0 where
  pub tag : List ℕ
  pub letters : List ℕ
  pub is_tag : IsTag tag
  pub each : IsTrue (list_all is_letter letters)
  pub parts : text ≡ tag ++ 32 ∷ letters

-- the text ends within its tag or its word, or after its word and a CR
abbrev pub EndsInWord : List ℕ → Type 0
EndsInWord text = IsTrue (list_all is_tag_byte text) ⊎ (HasOpenWord text
    ⊎ ((own : List ℕ) × HasOpenWord own × (text ≡ own ++ 13 ∷ [])))
