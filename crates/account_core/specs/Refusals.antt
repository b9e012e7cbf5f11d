-- What refuses a call: a mailbox or a message that does not exist, and a root that would be over a
-- limit.
use Rattle.std.specs.Prelude.{ℕ, Bool, List, Option, Some, None, bytes_eq, map, if◌then◌else◌}
use Rattle.std.specs.List.{list_any}
use Rattle.quota_units.specs.declared.resource.Resource.{Resource}
use Rattle.quota_units.specs.declared.totals.Totals.{Totals}
use Rattle.quota_roots.specs.declared.root.RootSpec.{RootSpec}
use Rattle.quota_roots.specs.Governing.{governing}
use Rattle.admission.specs.Fitting.{first_over}
use Rattle.account_core.specs.declared.calls.Reply.{Reply}
use Rattle.account_core.specs.declared.calls.Reply.TheVariants.{NoMailbox, NoMessage, Over}
use Rattle.account_core.specs.Account.{Account, Message, usage}

abbrev pub has_mailbox : Account → List ℕ → Bool
has_mailbox account name = list_any (λ mailbox. bytes_eq mailbox name) account.mailboxes

-- the given reply, if the account has the mailbox
abbrev pub in_mailbox : Account → List ℕ → Reply → Reply
in_mailbox account mailbox given = if has_mailbox account mailbox then given else NoMailbox

-- the given reply, if there is a message
abbrev pub if_message : Option Message → Reply → Reply
if_message None given = NoMessage
if_message (Some message) given = given

-- the usage of each root
abbrev pub usages : List RootSpec → Account → List Totals
usages roots account = map (λ root. usage root account) roots

-- the first of these roots that a message of this size does not fit, and the resource
abbrev pub over_of : List RootSpec → Account → List ℕ → ℕ → Option (ℕ × Resource)
over_of roots account numbers octets =
    first_over account.limits (usages roots account) numbers octets

-- the first such root among those that govern the mailbox
abbrev pub over_in : List RootSpec → Account → List ℕ → ℕ → Option (ℕ × Resource)
over_in roots account mailbox octets = over_of roots account (governing roots mailbox) octets

abbrev pub over_or : Option (ℕ × Resource) → Reply → Reply
over_or None given = given
over_or (Some place) given = Over place.0 place.1
