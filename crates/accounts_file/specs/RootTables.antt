-- The quota roots of an account, as its tables give them.
use Rattle.std.specs.Prelude.{◌≡◌, ◌≤◌, ◌*◌, ℕ, suc, Bool, false, not, ◌&&◌, List, [], ◌∷◌, length, map, nat_eq, nat_le, Option, None, Some, is_some, unwrap_or}
use Rattle.std.specs.List.{list_all}
use Rattle.std.specs.Option.{option_map}
use Rattle.quota_units.specs.Limiting.{LimitNumbers}
use Rattle.quota_roots.specs.declared.root.RootSpec.{RootSpec}
use Rattle.quota_roots.specs.RootLists.{first_bad_name}
use Rattle.toml.specs.Data.{Data, Members, no_members, table, as_table}
use Rattle.accounts_file.specs.declared.key.Key.{Key}
use Rattle.accounts_file.specs.declared.key.Key.TheVariants.{Root, RootName, Prefix, Storage, Messages}
use Rattle.accounts_file.specs.declared.error.AccountsError.{AccountsError}
use Rattle.accounts_file.specs.declared.error.AccountsError.TheVariants.{BadValue}
use Rattle.accounts_file.specs.Keys.{value_at}
use Rattle.accounts_file.specs.Refusals.{first_in, judged, at_most}
use Rattle.accounts_file.specs.Values.{number_at, number_refusal, text_at, text_refusal, text_of, items_of}

abbrev pub is_table : Data → Bool
is_table value = is_some (as_table value)

abbrev pub some_tables : Option (List Data) → Bool
some_tables None = false
some_tables (Some values) = nat_le 1 (length values) && list_all is_table values

-- a list of one table or more
abbrev pub are_tables : Data → Bool
are_tables value = some_tables (items_of value)

-- what is refused of the value at the key, which must be a list of 1 to `most` tables
abbrev pub tables_refusal : Key → ℕ → Data → Option AccountsError
tables_refusal key most value = first_in
    (judged key (are_tables value) ∷ at_most key most (length (unwrap_or (items_of value) [])) ∷ [])

-- root 0 has no prefix, and each other root has one
abbrev pub prefix_fits : ℕ → Option Data → Bool
prefix_fits root None = nat_eq root 0
prefix_fits root (Some value) = not (nat_eq root 0) && is_some (text_of Prefix value)

abbrev pub prefix_refusal : ℕ → Members → Option AccountsError
prefix_refusal root members = judged Prefix (prefix_fits root (value_at Prefix members))

abbrev pub limits_refusal : Members → Option AccountsError
limits_refusal members =
    first_in (number_refusal Storage members ∷ number_refusal Messages members ∷ [])

abbrev pub root_refusal : ℕ → Members → Option AccountsError
root_refusal root members = first_in
    (text_refusal RootName members ∷ prefix_refusal root members ∷ limits_refusal members ∷ [])

-- a root's name and prefix
abbrev pub spec_of : Members → RootSpec
spec_of members = record {
  name = unwrap_or (text_at RootName members) [];
  prefix = text_at Prefix members;
}

-- a root's limits: storage in units of 1024 octets, and messages
abbrev pub limits_of : Members → LimitNumbers
limits_of members = record {
  octets = option_map (λ units. 1024 * units) (number_at Storage members);
  count = number_at Messages members;
}

-- the members of a table; a value that is not a table has none
abbrev pub members_or_none : Option Members → Members
members_or_none None = no_members
members_or_none (Some members) = members

abbrev pub members_in : Data → Members
members_in value = members_or_none (as_table value)

-- what is refused of the value that gives the root of this number
abbrev pub root_value_refusal : ℕ → Option Members → Option AccountsError
root_value_refusal root None = Some (BadValue Root)
root_value_refusal root (Some members) = root_refusal root members

abbrev pub root_refusals : ℕ → List Data → List (Option AccountsError)
root_refusals root [] = []
root_refusals root (value ∷ values) =
    root_value_refusal root (as_table value) ∷ root_refusals (suc root) values

abbrev pub specs_of : List Data → List RootSpec
specs_of values = map (λ value. spec_of (members_in value)) values

abbrev pub all_limits : List Data → List LimitNumbers
all_limits values = map (λ value. limits_of (members_in value)) values

-- the tables of an account's roots; one empty table if the account has none
abbrev pub tables_or_one : Option Data → List Data
tables_or_one None = table no_members ∷ []
tables_or_one (Some value) = unwrap_or (items_of value) []

abbrev pub root_tables : Members → List Data
root_tables account = tables_or_one (value_at Root account)

abbrev pub root_list_refusal : Option Data → Option AccountsError
root_list_refusal None = None
root_list_refusal (Some value) = tables_refusal Root 4 value

-- what is refused of the list of roots, and then of each root
abbrev pub roots_refusal : Members → Option AccountsError
roots_refusal account = first_in (root_list_refusal (value_at Root account)
    ∷ first_in (root_refusals 0 (root_tables account)) ∷ [])

-- 1 to 4 roots, each right in its place, with limits for each
pub record AreRootsRead (roots : List RootSpec) (limits : List LimitNumbers) : Type 0 where
  pub some : 1 ≤ length roots
  pub few : length roots ≤ 4
  pub right : first_bad_name roots ≡ None
  pub limited : length limits ≡ length roots
