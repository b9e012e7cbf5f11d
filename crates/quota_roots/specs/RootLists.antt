-- Lists of quota roots: which names and prefixes the roots may have, and the place of each. A
-- root's number is its place.
use Rattle.std.specs.Prelude.{◌≡◌, ◌<◌, ◌≤◌, ℕ, Bool, not, ◌&&◌, List, [], length, take, position, slice_get, codes, bytes_eq, nat_eq, nat_le, Option, None, Some}
use Rattle.std.specs.List.{list_all, list_any, enumerate_from}
use Rattle.std.specs.Option.{option_map_or}
use Rattle.quota_roots.specs.declared.root.RootSpec.{RootSpec}
use Rattle.quota_units.specs.Bytes.{is_printable}
use Rattle.quota_roots.specs.MailboxNames.{is_mailbox_name}

abbrev pub is_root_name : List ℕ → Bool
is_root_name name = nat_le (length name) 64 && list_all is_printable name

-- root 0 has no prefix, and the prefix of each other root is a mailbox name other than Trash
abbrev pub is_prefix_at : ℕ → Option (List ℕ) → Bool
is_prefix_at root None = nat_eq root 0
is_prefix_at root (Some prefix) =
    not (nat_eq root 0) && (is_mailbox_name prefix && not (bytes_eq prefix (codes "Trash")))

-- the root may have this place
abbrev pub is_root_at : ℕ → RootSpec → Bool
is_root_at root spec = is_root_name spec.name && is_prefix_at root spec.prefix

-- the first place whose root has a name or a prefix that it may not have
abbrev pub first_bad_name : List RootSpec → Option ℕ
first_bad_name roots = position (λ p. not (is_root_at p.0 p.1)) (enumerate_from 0 roots)

-- a root of this name is in the list
abbrev pub has_name : List RootSpec → List ℕ → Bool
has_name roots name = list_any (λ spec. bytes_eq spec.name name) roots

-- the first place whose root has the name of an earlier root
abbrev pub first_double : List RootSpec → Option ℕ
first_double roots = position (λ p. has_name (take p.0 roots) p.1.name) (enumerate_from 0 roots)

-- 1 to 4 roots, each right in its place, and no name twice
pub record AreRoots (roots : List RootSpec) : Type 0 where
  pub some : 1 ≤ length roots
  pub few : length roots ≤ 4
  pub right : first_bad_name roots ≡ None
  pub different : first_double roots ≡ None

-- the place of the root of this name
abbrev pub root_named : List RootSpec → List ℕ → Option ℕ
root_named roots name = position (λ spec. bytes_eq spec.name name) roots

-- the name of the root of this number
abbrev pub name_at : List RootSpec → ℕ → List ℕ
name_at roots root = option_map_or (λ spec. spec.name) (slice_get roots root) []

-- the refusals of a list, each only if none above it applies: too many roots, a wrong name or
-- prefix at this place, and the name of an earlier root at this place
abbrev pub IsTooMany : List RootSpec → ℕ → Type 0
IsTooMany roots count = (4 < length roots) × (count ≡ length roots)

abbrev pub IsBadName : List RootSpec → ℕ → Type 0
IsBadName roots at = (length roots ≤ 4) × (first_bad_name roots ≡ Some at)

abbrev pub IsDouble : List RootSpec → ℕ → Type 0
IsDouble roots at = (length roots ≤ 4) × (first_bad_name roots ≡ None)
    × (first_double roots ≡ Some at)
