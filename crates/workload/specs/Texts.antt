-- Text with numbers in it.
use Rattle.std.specs.Prelude.{ℕ, List, ◌++◌, codes}
use Rattle.std.specs.Fmt.{decimal}
use Rattle.workload.specs.declared.summary.Summary.{Summary}

-- a number in decimal digits, between these bytes
abbrev pub numbered : (before : List ℕ) → ℕ → (after : List ℕ) → List ℕ
numbered before number after = before ++ (decimal number ++ after)

-- a word and a number, on a line of their own
abbrev pub line : List ℕ → ℕ → List ℕ
line word number = numbered word number (codes "\n")

-- the text of a summary
abbrev pub text_of : Summary → List ℕ
text_of s = line (codes "requests ") s.requests
    ++ (line (codes "delivered ") s.delivered
    ++ (line (codes "refused ") s.refused
    ++ (line (codes "removed ") s.removed
    ++ (line (codes "missing ") s.missing
    ++ (line (codes "octets ") s.octets
    ++ line (codes "messages ") s.messages)))))
