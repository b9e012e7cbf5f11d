-- The flags of IMAP that a message of this service can have: RFC 9051, section 2.3.2.
use Rattle.std.specs.Prelude.{ℕ, ◌||◌, if◌then◌else◌, bytes_eq, List, map, codes, Option, Some, None}
use Rattle.std.specs.List.{filter_map}
use Rattle.std.specs.Char.{to_ascii_lowercase}
use Rattle.quota_units.specs.declared.flags.Flags.{Flags}
use Rattle.quota_units.specs.Flagging.{flags_among}

-- the letter that file names have for a flag with a \, whose name is in lower case: D (byte 68), F
-- (70), R (82), S (83), T (84)
abbrev pub letter_named : List ℕ → Option ℕ
letter_named name =
    if bytes_eq name (codes "draft") then Some 68
    else if bytes_eq name (codes "flagged") then Some 70
    else if bytes_eq name (codes "answered") then Some 82
    else if bytes_eq name (codes "seen") then Some 83
    else if bytes_eq name (codes "deleted") then Some 84 else None

-- the letter of a flag with a \, whose name is in either case
abbrev pub letter_of : List ℕ → Option ℕ
letter_of name = letter_named (map to_ascii_lowercase name)

-- the flags of the letters
abbrev pub flags_of : List (Option ℕ) → Flags
flags_of letters = flags_among (filter_map (λ letter. letter) letters)

-- the flags that either one has
abbrev pub either : Flags → Flags → Flags
either one other =
    record {
      draft = one.draft || other.draft;
      flagged = one.flagged || other.flagged;
      passed = one.passed || other.passed;
      replied = one.replied || other.replied;
      seen = one.seen || other.seen;
      trashed = one.trashed || other.trashed;
    }
