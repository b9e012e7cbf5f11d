-- Files that an earlier run of the service left in `tmp` (Maildir: a file there that has not
-- changed for 36 hours may be removed).
use Rattle.std.specs.Prelude.{ℕ, ◌+◌, ◌*◌, Bool, List, codes, nat_eq, nat_lt}
use Rattle.std.specs.List.{ends_with}
use Rattle.message_names.specs.Parts.{base_of}

-- the service gives a name like this to a message that it is delivering
abbrev pub is_delivery : List ℕ → Bool
is_delivery name = ends_with nat_eq (base_of name) (codes ".quotad")

-- a file that was written at this time is older than 36 hours now; both times are nanoseconds since
-- 1970
abbrev pub was_left : ℕ → ℕ → Bool
was_left written now = nat_lt (written + 129600 * 1000000000) now
