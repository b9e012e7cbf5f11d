-- Names that occur twice in an accounts file.
use Rattle.std.specs.Prelude.{◌≡◌, ℕ, Bool, List, [], ◌∷◌, ◌++◌, map, bytes_eq, Option, None, Some, is_some, if◌then◌else◌}
use Rattle.std.specs.List.{list_any}
use Rattle.std.specs.Option.{option_map}
use Rattle.std.specs.Str.{str_eq_ignore_ascii_case, str_to_ascii_lowercase}
use Rattle.std.specs.BTreeMap.{BTreeMap, get_by}
use Rattle.std.specs.Cmp.Lexicographic.{slice_cmp}
use Rattle.std.specs.Ordering.{nat_cmp}
use denote.Ref.{Bor}
use Rattle.quota_roots.specs.declared.root.RootSpec.{RootSpec}
use Rattle.quota_roots.specs.RootLists.{first_double, name_at}
use Rattle.accounts_file.specs.declared.entry.AccountEntry.{AccountEntry}
use Rattle.accounts_file.specs.declared.error.AccountsError.{AccountsError}
use Rattle.accounts_file.specs.Refusals.{first_in, double}

-- one of the names is the same as this one
abbrev pub has_same : (List ℕ → List ℕ → Bool) → List (List ℕ) → List ℕ → Bool
has_same same names name = list_any (λ other. same other name) names

-- the first name that is the same as an earlier one, or as one of the names in `seen`
abbrev pub first_repeat : (List ℕ → List ℕ → Bool) → List (List ℕ) → List (List ℕ) → Option (List ℕ)
first_repeat same seen [] = None
first_repeat same seen (name ∷ names) =
    if has_same same seen name then Some name else first_repeat same (seen ++ name ∷ []) names

-- the first name that is the same as an earlier one
abbrev pub repeated : List (List ℕ) → Option (List ℕ)
repeated names = first_repeat bytes_eq [] names

-- the first name that is the same as an earlier one in any ASCII case
abbrev pub repeated_in_any_case : List (List ℕ) → Option (List ℕ)
repeated_in_any_case names = first_repeat str_eq_ignore_ascii_case [] names

-- a text was inserted
abbrev pub is_inserted : {X : Type 0} → BTreeMap (Bor (List ℕ)) X → List ℕ → Bool
is_inserted notes text = is_some (get_by (λ key. slice_cmp nat_cmp text key.now) notes)

-- these names were inserted in lower case, and no other text was
abbrev pub AreInserted : {X : Type 0} → BTreeMap (Bor (List ℕ)) X → List (List ℕ) → Type 0
AreInserted notes names = (text : List ℕ)
    → is_inserted notes text ≡ list_any (λ name. bytes_eq (str_to_ascii_lowercase name) text) names

-- the name of the first root that has the name of an earlier root
abbrev pub repeated_root : List RootSpec → Option (List ℕ)
repeated_root roots = option_map (name_at roots) (first_double roots)

-- what is refused of an account's mailboxes and its roots
abbrev pub own_double : AccountEntry → Option AccountsError
own_double account = first_in
    (double (repeated account.setup.mailboxes) ∷ double (repeated_root account.setup.roots) ∷ [])

-- all recipients, in the order of the accounts
abbrev pub all_recipients : List AccountEntry → List (List ℕ)
all_recipients [] = []
all_recipients (account ∷ accounts) = account.recipients ++ all_recipients accounts

-- what is refused of the accounts compared with one another, and then of each account
abbrev pub doubles_refusal : List AccountEntry → Option AccountsError
doubles_refusal accounts =
    first_in (double (repeated (map (λ account. account.name) accounts))
    ∷ double (repeated (map (λ account. account.token) accounts))
    ∷ double (repeated_in_any_case (all_recipients accounts)) ∷ first_in (map own_double accounts)
    ∷ [])
