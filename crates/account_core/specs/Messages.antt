-- The messages of an account: the message of a mailbox and a base, and sums over the messages of a
-- mailbox.
use Rattle.std.specs.Prelude.{ℕ, Bool, ◌&&◌, List, [], ◌∷◌, Option, find, sum_by, bytes_eq, if◌then◌else◌}
use Rattle.quota_units.specs.declared.flags.Flags.{Flags}
use Rattle.account_core.specs.Account.{Message}

abbrev pub is_in : List ℕ → Message → Bool
is_in mailbox message = bytes_eq message.mailbox mailbox

abbrev pub is_message : List ℕ → List ℕ → Message → Bool
is_message mailbox base message = bytes_eq message.mailbox mailbox && bytes_eq message.base base

-- the message of a mailbox and a base: the first that has both
abbrev pub named_message : List ℕ → List ℕ → List Message → Option Message
named_message mailbox base messages = find (is_message mailbox base) messages

-- how many of the messages have this mailbox and base
abbrev pub how_many : List ℕ → List ℕ → List Message → ℕ
how_many mailbox base messages = sum_by (λ m. if is_message mailbox base m then 1 else 0) messages

-- without the named message
abbrev pub removed : List ℕ → List ℕ → List Message → List Message
removed mailbox base [] = []
removed mailbox base (message ∷ messages) =
    if is_message mailbox base message then messages else message ∷ removed mailbox base messages

-- with the named message changed, in its place
abbrev pub changed : List ℕ → List ℕ → (Message → Message) → List Message → List Message
changed mailbox base change [] = []
changed mailbox base change (message ∷ messages) =
    if is_message mailbox base message then change message ∷ messages
    else message ∷ changed mailbox base change messages

abbrev pub with_flags : Flags → Message → Message
with_flags flags message = record message { flags = flags }

abbrev pub with_mailbox : List ℕ → Message → Message
with_mailbox mailbox message = record message { mailbox = mailbox }

-- the sum of a weight over the messages of the mailbox
abbrev pub sum_in : List ℕ → (Message → ℕ) → List Message → ℕ
sum_in mailbox weight messages = sum_by (λ m. if is_in mailbox m then weight m else 0) messages
