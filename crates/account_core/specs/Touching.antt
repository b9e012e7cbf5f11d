-- The quota objects of an account, and which of them an entry touches. Objects, their used numbers
-- and their limits are those of RFC 9425, section 4. Their order and the versions are this
-- project's own.
use Rattle.std.specs.Prelude.{ℕ, ◌+◌, ◌==◌, Bool, not, ◌&&◌, if◌then◌else◌, List, [], ◌∷◌, length, filter, flat_map, nat_eq, Option, is_some, option_map}
use Rattle.std.specs.List.{range_with_len}
use Rattle.std.specs.Option.{option_eq}
use Rattle.quota_units.specs.declared.resource.Resource.{Resource}
use Rattle.quota_units.specs.declared.resource.Resource.TheVariants.{Storage, Message as Messages}
use Rattle.quota_roots.specs.declared.root.RootSpec.{RootSpec}
use Rattle.admission.specs.Fitting.{limits_at, totals_at}
use Rattle.account_core.specs.declared.calls.Entry.{Entry}
use Rattle.account_core.specs.Account.{Account}
use Rattle.account_core.specs.Machine.{usages}
use Rattle.account_core.specs.History.{account_after}

-- the number of a root, from 0 on, and a resource that the root may limit
abbrev pub QuotaObject : Type 0
QuotaObject = ℕ × Resource

-- the limit of an object (hardLimit): the root's limit, if it is set
abbrev pub limit_of : Account → QuotaObject → Option ℕ
limit_of account (root, Messages) = (limits_at account.limits root).count
limit_of account (root, Storage) = (limits_at account.limits root).octets

-- the used number of an object (used): the root's usage of messages or of octets
abbrev pub used_of : List RootSpec → Account → QuotaObject → ℕ
used_of roots account (root, Messages) = (totals_at (usages roots account) root).count
used_of roots account (root, Storage) = (totals_at (usages roots account) root).octets

-- the objects that an account of these roots may have: by root, Message first
abbrev pub all_objects : List RootSpec → List QuotaObject
all_objects roots =
    flat_map (λ root. (root, Messages) ∷ (root, Storage) ∷ []) (range_with_len 0 (length roots))

-- an object is present if its limit is set
abbrev pub is_present : Account → QuotaObject → Bool
is_present account object = is_some (limit_of account object)

-- the objects that are present, in the order of all objects
abbrev pub objects_of : List RootSpec → Account → List QuotaObject
objects_of roots account = filter (is_present account) (all_objects roots)

-- what an object that is present shows
pub record QuotaNumbers : Type 0 where
  pub used : ℕ
  pub limit : ℕ

-- an object's used number and its limit, if it is present
abbrev pub numbers_of : List RootSpec → Account → QuotaObject → Option QuotaNumbers
numbers_of roots account object =
    option_map (λ limit. record { used = used_of roots account object; limit = limit })
    (limit_of account object)

abbrev pub are_same : QuotaNumbers → QuotaNumbers → Bool
are_same x y = nat_eq x.used y.used && nat_eq x.limit y.limit

-- the presence, the used number or the limit of the object differs
abbrev pub differs : List RootSpec → Account → Account → QuotaObject → Bool
differs roots before after object =
    not (option_eq are_same (numbers_of roots before object) (numbers_of roots after object))

-- the objects that differ between two accounts, in their order
abbrev pub touched : List RootSpec → Account → Account → List QuotaObject
touched roots before after = filter (differs roots before after) (all_objects roots)

-- the objects that an entry touches: those that differ between the account before it and the
-- account after it
abbrev pub touched_by : List RootSpec → Account → Entry → List QuotaObject
touched_by roots account entry = touched roots account (account_after roots account entry)

-- the entry touches some object
abbrev pub touches : List RootSpec → Account → Entry → Bool
touches roots account entry = not (length (touched_by roots account entry) == 0)

-- the version of a history: how many of its entries touched some object
abbrev pub version : List RootSpec → Account → List Entry → ℕ
version roots account [] = 0
version roots account (entry ∷ entries) =
    (if touches roots account entry then 1 else 0)
    + version roots (account_after roots account entry) entries
