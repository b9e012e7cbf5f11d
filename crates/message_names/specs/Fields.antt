-- The fields of a unique part are the pieces between its commas. A place that names a size is a
-- field that states one and comes after the base.
use Rattle.std.specs.Prelude.{ℕ, ◌&&◌, ◌==◌, if◌then◌else◌, List, [], ◌∷◌, Option, None}
use Rattle.message_names.specs.Sizes.{size_in_digits}

-- the size that a field states: `S=`, and then digits
abbrev pub size_in_field : List ℕ → Option ℕ
size_in_field [] = None
size_in_field (a ∷ []) = None
size_in_field (a ∷ b ∷ digits) = if a == 83 && b == 61 then size_in_digits digits else None
