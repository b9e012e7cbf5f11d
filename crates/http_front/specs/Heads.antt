-- Where the head of a request ends.
use Rattle.std.specs.Prelude.{ℕ, Bool, ◌||◌, nat_eq, if◌then◌else◌, List, [], ◌∷◌, ◌++◌, codes, Option, Some, None}
use Rattle.std.specs.List.{ends_with}

-- the most bytes of a head
abbrev pub max_head : ℕ
max_head = 16384

-- the last bytes are an empty line and the end of the line before it: LF LF, or LF CR LF
abbrev pub ends_head : List ℕ → Bool
ends_head bytes = ends_with nat_eq bytes (codes "\n\n") || ends_with nat_eq bytes (codes "\n\r\n")

-- a head, and the bytes after it
pub record Cut : Type 0 where
  pub head : List ℕ
  pub rest : List ℕ

-- of `come` followed by these bytes, the shortest prefix that ends a head and is no shorter than
-- `come`
abbrev pub cut_from : (come : List ℕ) → List ℕ → Option Cut
cut_from come [] = if ends_head come then Some (record { head = come; rest = [] }) else None
cut_from come (b ∷ bs) =
    if ends_head come then Some (record { head = come; rest = b ∷ bs })
    else cut_from (come ++ b ∷ []) bs

abbrev pub cut_head : List ℕ → Option Cut
cut_head bytes = cut_from [] bytes
