-- Names of files and folders. A path is text (UTF-8), `/` parts it, byte 0 ends it, and `.` and
-- `..` lead elsewhere (POSIX, pathname resolution).
use Rattle.std.specs.Prelude.{ℕ, Bool, not, ◌&&◌, ◌||◌, List, codes, nat_eq, nat_lt, length}
use Rattle.std.specs.List.{list_any, starts_with}
use Rattle.std.specs.Str.{is_utf8}

-- a byte that the name of a file can't have
abbrev pub is_separator : ℕ → Bool
is_separator byte = nat_eq byte 0 || nat_eq byte 47

-- the name is not empty, Maildir does not leave it out as hidden, and it can't lead to another
-- folder
abbrev pub is_plain : List ℕ → Bool
is_plain name = nat_lt 0 (length name)
    && (not (starts_with nat_eq name (codes ".")) && not (list_any is_separator name))

-- a name of one file or folder
abbrev pub is_file_name : List ℕ → Bool
is_file_name name = is_utf8 name && is_plain name
