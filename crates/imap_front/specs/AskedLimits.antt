-- The limits that SETQUOTA asks for, or why they are refused. The order of the refusals is this
-- project's own.
use Rattle.std.specs.Prelude.{ℕ, ◌*◌, Bool, true, false, ◌&&◌, ◌||◌, nat_lt, nat_le, if◌then◌else◌, List, length, filter, find, Option, Some, None, Result, Ok, Err, codes}
use Rattle.std.specs.List.{list_any}
use Rattle.std.specs.Option.{is_none, option_map}
use Rattle.quota_units.specs.Limiting.{LimitNumbers}
use Rattle.quota_units.specs.declared.resource.Resource.{Resource}
use Rattle.quota_units.specs.declared.resource.Resource.TheVariants.{Storage, Message}
use Rattle.imap_grammar.specs.declared.limits.AskedLimit.{AskedLimit}
use Rattle.imap_front.specs.declared.asked.Refusal.{Refusal}
use Rattle.imap_front.specs.declared.asked.Refusal.TheVariants.{Unknown, Repeated, Unsupported}

abbrev pub is_resource : Resource → Option Resource → Bool
is_resource Storage (Some Storage) = true
is_resource Storage (Some Message) = false
is_resource Message (Some Storage) = false
is_resource Message (Some Message) = true
is_resource resource None = false

-- this limit is for this resource
abbrev pub is_for : Resource → AskedLimit → Bool
is_for resource asked = is_resource resource asked.resource

-- the number that is asked for a resource
abbrev pub number_for : Resource → List AskedLimit → Option ℕ
number_for resource asked = option_map (λ x. x.limit) (find (is_for resource) asked)

-- this resource occurs twice
abbrev pub repeats : Resource → List AskedLimit → Bool
repeats resource asked = nat_lt 1 (length (filter (is_for resource) asked))

-- the number of units or messages can be set, if it is given: 1 to 8796093022207
abbrev pub can_be_set : Option ℕ → Bool
can_be_set None = true
can_be_set (Some n) = nat_le 1 n && nat_le n 8796093022207

abbrev pub limits_set : Option ℕ → Option ℕ → Result LimitNumbers Refusal
limits_set units messages =
    if can_be_set units && can_be_set messages then Ok
    (record { octets = option_map (λ n. 1024 * n) units; count = messages }) else Err Unsupported

-- a limit is asked for a resource that this service does not have
abbrev pub has_unknown : List AskedLimit → Bool
has_unknown asked = list_any (λ x. is_none x.resource) asked

-- a resource occurs twice
abbrev pub has_repeats : List AskedLimit → Bool
has_repeats asked = repeats Storage asked || repeats Message asked

-- the limits in the list and no others, or the first refusal
abbrev pub limits_asked : List AskedLimit → Result LimitNumbers Refusal
limits_asked asked =
    if has_unknown asked then Err Unknown
    else if has_repeats asked then Err Repeated
    else limits_set (number_for Storage asked) (number_for Message asked)

abbrev pub refusal_words : Refusal → List ℕ
refusal_words Unknown = codes "NO Resource not supported"
refusal_words Repeated = codes "NO Resource repeated"
refusal_words Unsupported = codes "NO Limit not supported"
