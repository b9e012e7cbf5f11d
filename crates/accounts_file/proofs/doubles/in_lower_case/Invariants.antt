use Rattle.std.proofs.Common.{◌≡◌, length, map, take}
use Rattle.std.specs.Str.{str_to_ascii_lowercase}
use Rattle.accounts_file.proofs.doubles.in_lower_case.Given as goal

abbrev pub invariant-loop-name : goal.invariant-loop-name
invariant-loop-name l = (map (λ name. name.items) l.lower.items ≡ map str_to_ascii_lowercase (take l.name-index l.names)) × (length l.lower.items ≡ l.name-index)
