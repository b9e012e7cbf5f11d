-- Fields that are looked up by name. Names are compared in any ASCII case.
use Rattle.std.specs.Prelude.{ℕ, Bool, ◌&&◌, ◌||◌, not, nat_le, if◌then◌else◌, List, [], ◌∷◌, length, take, drop, codes, Option, Some, None}
use Rattle.http1.specs.Text.{eq_ignore_case}
use Rattle.http1.specs.Fields.{Header, is_named}

-- the value of the first field of this name
abbrev pub first_named : (name : List ℕ) → List Header → Option (List ℕ)
first_named name [] = None
first_named name (h ∷ hs) = if is_named name h then Some h.1 else first_named name hs

-- not a Content-Length of more than 15 bytes
abbrev pub is_short : Header → Bool
is_short h = not (is_named (codes "content-length") h) || nat_le (length h.1) 15

-- the token of a value that is `Bearer`, in any ASCII case, one space and a token (RFC 6750,
-- section 2.1)
abbrev pub bearer_token : List ℕ → Option (List ℕ)
bearer_token value =
    if nat_le 7 (length value) && eq_ignore_case (take 7 value) (codes "bearer ")
    then Some (drop 7 value) else None
