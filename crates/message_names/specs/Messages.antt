-- The message that a file's name and length give.
use Rattle.std.specs.Prelude.{ℕ, List}
use Rattle.quota_units.specs.declared.flags.Flags.{Flags}
use Rattle.message_names.specs.Parts.{unique_of, base_of}
use Rattle.message_names.specs.Sizes.{size_named, size_or}
use Rattle.message_names.specs.FlagLetters.{flags_of}

pub record FileMessage : Type 0 where
  pub base : List ℕ
  pub octets : ℕ
  pub flags : Flags

-- the octets of a message: the size that its file's name states, or else the file's length
abbrev pub octets_of : List ℕ → ℕ → ℕ
octets_of name length = size_or (size_named (unique_of name)) length

abbrev pub message_of : List ℕ → ℕ → FileMessage
message_of name length = record {
  base = base_of name;
  octets = octets_of name length;
  flags = flags_of name;
}
