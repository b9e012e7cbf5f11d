-- Laws of file names.
use Rattle.std.specs.Prelude.{◌≡◌, ◌<◌, ◌^◌, true, ℕ, List, Option}
use Rattle.quota_units.specs.declared.flags.Flags.{Flags}
use Rattle.message_names.specs.Parts.{unique_of, base_of}
use Rattle.message_names.specs.Sizes.{cut_size, size_named, IsSizeNamed}
use Rattle.message_names.specs.FlagLetters.{flags_of, others_of}
use Rattle.message_names.specs.Messages.{octets_of, message_of}
use Rattle.message_names.specs.Written.{is_base, written_name, renamed}

-- the size that the unique part names is the one that `size_named` gives, and no other
abbrev pub OneSize : Type 0
OneSize =
    (unique : List ℕ)
    → IsSizeNamed unique (size_named unique)
    × ((size : Option ℕ) → IsSizeNamed unique size → size ≡ size_named unique)

-- a written name gives back the message that was written, its size cut, whatever the file's length
abbrev pub WrittenReadsBack : Type 0
WrittenReadsBack =
    (base : List ℕ) (size : ℕ) (flags : Flags) (length : ℕ)
    → is_base base ≡ true → size < 2 ^ 64
    → message_of (written_name base size flags) length ≡ record {
      base = base;
      octets = cut_size size;
      flags = flags;
    }

-- a name with new flags has the same unique part, the new flags, and the other bytes after them; so
-- it gives the same message but for its flags, whatever the file's length
pub record IsRenamed (before after : List ℕ) (given : Flags) : Type 0 where
  pub unique : unique_of after ≡ unique_of before
  pub flags : flags_of after ≡ given
  pub others : others_of after ≡ others_of before
  pub message : (length : ℕ)
      → message_of after length ≡ record {
        base = base_of before;
        octets = octets_of before length;
        flags = given;
      }

abbrev pub RenamedReadsBack : Type 0
RenamedReadsBack = (name : List ℕ) (flags : Flags) → IsRenamed name (renamed name flags) flags
