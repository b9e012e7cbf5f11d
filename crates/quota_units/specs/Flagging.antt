-- The flags of a message, by the letters of Maildir file names: D (byte 68), F (70), P (80), R
-- (82), S (83), T (84).
use Rattle.std.specs.Prelude.{ℕ, Bool, false, ◌==◌, if◌then◌else◌, List, codes}
use Rattle.std.specs.List.{filter, list_any}
use Rattle.quota_units.specs.declared.flags.Flags.{Flags}

-- whether a byte is among bytes
abbrev pub is_among : List ℕ → ℕ → Bool
is_among bytes b = list_any (λ x. x == b) bytes

-- the letters that name flags, in alphabetical order
abbrev pub flag_letters : List ℕ
flag_letters = codes "DFPRST"

abbrev pub is_flag_letter : ℕ → Bool
is_flag_letter b = is_among flag_letters b

-- whether the flag of a letter is set; false for a byte that names no flag
abbrev pub has_flag : Flags → ℕ → Bool
has_flag flags letter =
    if letter == 68 then flags.draft
    else (if letter == 70 then flags.flagged
    else (if letter == 80 then flags.passed
    else (if letter == 82 then flags.replied
    else (if letter == 83 then flags.seen else (if letter == 84 then flags.trashed else false)))))

-- the flags whose letters are among bytes
abbrev pub flags_among : List ℕ → Flags
flags_among bytes =
    record {
      draft = is_among bytes 68;
      flagged = is_among bytes 70;
      passed = is_among bytes 80;
      replied = is_among bytes 82;
      seen = is_among bytes 83;
      trashed = is_among bytes 84;
    }

-- the letters of the flags that are set, in alphabetical order
abbrev pub letters_of : Flags → List ℕ
letters_of flags = filter (has_flag flags) flag_letters
