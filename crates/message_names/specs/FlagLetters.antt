-- The flags of a file name (Maildir): letters after a leading `2,` of the info part.
use Rattle.std.specs.Prelude.{ℕ, not, ◌&&◌, ◌==◌, if◌then◌else◌, List, [], ◌∷◌}
use Rattle.std.specs.List.{filter}
use Rattle.quota_units.specs.declared.flags.Flags.{Flags}
use Rattle.quota_units.specs.Flagging.{is_flag_letter, flags_among}
use Rattle.message_names.specs.Parts.{info_of}

-- the bytes after a leading `2,`; none if the info part begins with something else
abbrev pub after_two : List ℕ → List ℕ
after_two [] = []
after_two (a ∷ []) = []
after_two (a ∷ b ∷ rest) = if a == 50 && b == 44 then rest else []

abbrev pub flags_of : List ℕ → Flags
flags_of name = flags_among (after_two (info_of name))

-- the bytes that follow the `2,` and name no flag, in their order
abbrev pub others_of : List ℕ → List ℕ
others_of name = filter (λ b. not (is_flag_letter b)) (after_two (info_of name))
