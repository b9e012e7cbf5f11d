-- The resources that a quota limits, and their names: RFC 9208, sections 5.1 and 5.2.
use Rattle.std.specs.Prelude.{ℕ, List, Option, Some, None, codes, if◌then◌else◌}
use Rattle.std.specs.Str.{str_eq_ignore_ascii_case}
use Rattle.quota_units.specs.declared.resource.Resource.{Resource}
use Rattle.quota_units.specs.declared.resource.Resource.TheVariants.{Storage, Message}

-- the resource of a name, in any ASCII case
abbrev pub resource_of : List ℕ → Option Resource
resource_of name =
    if str_eq_ignore_ascii_case name (codes "STORAGE") then Some Storage
    else (if str_eq_ignore_ascii_case name (codes "MESSAGE") then Some Message else None)
