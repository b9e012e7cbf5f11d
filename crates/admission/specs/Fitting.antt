-- Whether a message fits the limits of quota roots: RFC 9208, section 4.3.1 (OVERQUOTA). Usage may
-- equal a limit.
use Rattle.std.specs.Prelude.{ℕ, ◌+◌, Bool, true, not, ◌&&◌, IsTrue, List, slice_get, slice_index_or, filter_map, nat_le, All, Option, Some, None, option_map, if◌then◌else◌}
use Rattle.quota_units.specs.Limiting.{LimitNumbers}
use Rattle.quota_units.specs.declared.totals.Totals.{Totals}
use Rattle.quota_units.specs.declared.resource.Resource.{Resource}
use Rattle.quota_units.specs.declared.resource.Resource.TheVariants.{Storage, Message}

-- the limit allows this amount; a limit that is not set allows any amount
abbrev pub allows : Option ℕ → ℕ → Bool
allows None amount = true
allows (Some limit) amount = nat_le amount limit

-- a root with these limits and totals may take the message: by its octets, by the number of
-- messages, and by both
abbrev pub storage_fits : LimitNumbers → Totals → ℕ → Bool
storage_fits limits totals octets = allows limits.octets (totals.octets + octets)

abbrev pub number_fits : LimitNumbers → Totals → Bool
number_fits limits totals = allows limits.count (totals.count + 1)

abbrev pub fits_root : LimitNumbers → Totals → ℕ → Bool
fits_root limits totals octets = storage_fits limits totals octets && number_fits limits totals

-- the limits and the totals of the root of this number; a number that no root has gives no limits
-- and totals of 0
abbrev pub limits_at : List LimitNumbers → ℕ → LimitNumbers
limits_at limits root = slice_index_or limits root (record { octets = None; count = None })

abbrev pub totals_at : List Totals → ℕ → Totals
totals_at totals root = slice_index_or totals root (record { octets = 0; count = 0 })

-- the message fits each root of the set
abbrev pub FitsEach : List LimitNumbers → List Totals → List ℕ → ℕ → Type 0
FitsEach limits totals roots octets =
    All (λ root. IsTrue (fits_root (limits_at limits root) (totals_at totals root) octets)) roots

-- the resource that the message takes above its limit, storage before messages
abbrev pub over : LimitNumbers → Totals → ℕ → Option Resource
over limits totals octets =
    if not (storage_fits limits totals octets) then Some Storage
    else (if not (number_fits limits totals) then Some Message else None)

-- the roots of the set that the message does not fit, in order, each with its resource
abbrev pub all_over : List LimitNumbers → List Totals → List ℕ → ℕ → List (ℕ × Resource)
all_over limits totals roots octets =
    filter_map (λ root. option_map (λ resource. (root, resource))
    (over (limits_at limits root) (totals_at totals root) octets)) roots

-- the first root of the set that the message does not fit, with its resource
abbrev pub first_over : List LimitNumbers → List Totals → List ℕ → ℕ → Option (ℕ × Resource)
first_over limits totals roots octets = slice_get (all_over limits totals roots octets) 0
