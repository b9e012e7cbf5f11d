-- The longest prefix of a list whose elements all pass a test is `take_while` of std. `skip_while`
-- gives the elements after it.
use Rattle.std.specs.Prelude.{ℕ, Bool, false, List, [], ◌∷◌, drop}
use Rattle.std.specs.List.{prefix_len}

abbrev pub skip_while : (ℕ → Bool) → List ℕ → List ℕ
skip_while p bytes = drop (prefix_len p bytes) bytes

-- whether there is a first element and it passes
abbrev pub begins_with : (ℕ → Bool) → List ℕ → Bool
begins_with p [] = false
begins_with p (b ∷ bytes) = p b
