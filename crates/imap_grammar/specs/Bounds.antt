-- The commands that are not too large for this service.
use Rattle.std.specs.Prelude.{◌≤◌, ℕ, List, length, Option, Some, None}
use Rattle.imap_grammar.specs.declared.command.Command.{Command}
use Rattle.imap_grammar.specs.Progressing.{max_text, max_message, message_size}

-- no message, or one of at most 67108864 octets
abbrev pub IsSmall : Option ℕ → Type 0
IsSmall None = Unit {0}
IsSmall (Some size) = size ≤ max_message

-- a text of at most 16384 bytes, and no message or one of at most 67108864 octets
pub record IsWithinBounds (text : List ℕ) (command : Command) : Type 0 where
  pub short : length text ≤ max_text
  pub small : IsSmall (message_size command)
