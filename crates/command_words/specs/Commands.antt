-- The commands of the program, as the parser of command lines has them.
use Rattle.std.specs.Prelude.{◌≢◌, Bool, true, false, List, [], ◌∷◌, codes, slice_get, Option}
use Rattle.std.specs.Prelude.{Some, None, option_map}
use Rattle.clap.specs.Words.{App, Row, Rule, Shape, Text, first_of, new_app, new_rule, with_rule}
use Rattle.clap.specs.Words.{with_subcommand}
use Rattle.clap.specs.Simple.{new_shape, on_top}
use Rattle.command_words.specs.declared.commands.Asked.{Asked}

-- the one word that a command takes
abbrev pub argument_rule : (needed : Bool) → Rule
argument_rule needed = record (new_rule (codes "word")) { required = needed }

-- a command that takes one word
abbrev pub one_word : Text → (needed : Bool) → Shape
one_word name needed = (with_rule (new_app name) (argument_rule needed)).top

-- the program before it has commands: it has no words of its own for help and the version, and a
-- command has to be named
abbrev pub bare : App
bare = on_top (λ s. record s {
  no_binary_name = true;
  disable_help_flag = true;
  disable_version_flag = true;
  disable_help_subcommand = true;
  subcommand_required = true;
}) (new_app (codes "quotactl"))

-- the program with its commands
abbrev pub program : App
program = with_subcommand (with_subcommand (with_subcommand (with_subcommand (with_subcommand bare
    (one_word (codes "session") true))
    (one_word (codes "imap") false))
    (new_shape (codes "policy")))
    (new_shape (codes "check")))
    (one_word (codes "workload") true)

-- the words that name a command, with one word after it or none
abbrev pub line_of : (command : Text) → Option Text → List Text
line_of command None = command ∷ []
line_of command (Some word) = command ∷ word ∷ []

-- the words by which a command was asked for
abbrev pub asked_words : Asked → List Text
asked_words asked = line_of asked.command.now (option_map (λ word. word.now) asked.word)

-- the words that name a command as the parser found it, with what it found of its word
abbrev pub line_found : Option (Text × List Row) → Option (List Text)
line_found = option_map (λ found. line_of found.0 (first_of (codes "word") found.1))

-- the word does not begin with `-`
abbrev pub IsUndashed : Text → Type 0
IsUndashed word = slice_get word 0 ≢ Some 45
