-- The lines that an IMAP session writes. The QUOTA and QUOTAROOT responses are those of RFC 9208,
-- the STATUS and CAPABILITY responses those of RFC 9051. The texts after OK, NO, BAD and BYE are
-- this project's own.
use Rattle.std.specs.Prelude.{ℕ, List, [], ◌∷◌, ◌++◌, codes, Option, None, Some}
use Rattle.std.specs.List.{flat_map}
use Rattle.std.specs.Fmt.{decimal}
use Rattle.quota_units.specs.Units.{units_of}
use Rattle.quota_roots.specs.declared.root.RootSpec.{RootSpec}
use Rattle.quota_roots.specs.RootLists.{name_at}
use Rattle.imap_grammar.specs.Printing.{printed}
use Rattle.imap_grammar.specs.declared.command.CommandFault.{CommandFault}
use Rattle.imap_grammar.specs.declared.command.CommandFault.TheVariants.{TooLong, InvalidTag, Unknown, NotAuthenticated, AlreadyAuthenticated, Syntax, LiteralTooLarge, MessageTooLarge, NoMemory}
use Rattle.imap_grammar.specs.declared.status.StatusItem.{StatusItem}
use Rattle.imap_grammar.specs.declared.status.StatusItem.TheVariants.{Messages, Unseen, Deleted, DeletedStorage, Size}
use Rattle.account_core.specs.declared.calls.RootRow.{RootRow}
use Rattle.imap_front.specs.declared.status_lines.MailboxCounts.{MailboxCounts}

abbrev pub crlf : List ℕ
crlf = codes "\r\n"

-- the line that answers the command with this tag in these words
abbrev pub tagged_line : List ℕ → List ℕ → List ℕ
tagged_line tag words = tag ++ (codes " " ++ (words ++ crlf))

-- a resource's name, usage and limit
abbrev pub resource : List ℕ → ℕ → ℕ → List ℕ
resource name usage limit = name ++ (codes " " ++ (decimal usage ++ (codes " " ++ decimal limit)))

-- the storage, in units of 1024 octets, rounded up
abbrev pub storage : ℕ → ℕ → List ℕ
storage octets limit = resource (codes "STORAGE") (units_of octets) (units_of limit)

abbrev pub message : ℕ → ℕ → List ℕ
message count limit = resource (codes "MESSAGE") count limit

-- each resource that has a limit
abbrev pub resources : (octets count : ℕ) → Option ℕ → Option ℕ → List ℕ
resources octets count None None = []
resources octets count (Some limit) None = storage octets limit
resources octets count None (Some limit) = message count limit
resources octets count (Some most) (Some limit) =
    storage octets most ++ (codes " " ++ message count limit)

-- the QUOTA response for the root of this name
abbrev pub quota_line : List ℕ → RootRow → List ℕ
quota_line name row =
    codes "* QUOTA " ++ (printed name ++ (codes " ("
    ++ (resources row.octets row.count row.limits.octets row.limits.count ++ (codes ")" ++ crlf))))

-- the QUOTA response for one of these roots
abbrev pub root_line : List RootSpec → RootRow → List ℕ
root_line roots row = quota_line (name_at roots row.root) row

-- a space and the name of one of these roots
abbrev pub root_after_space : List RootSpec → RootRow → List ℕ
root_after_space roots row = codes " " ++ printed (name_at roots row.root)

-- the mailbox and the names of the roots that govern it: RFC 9208, on the QUOTAROOT response
abbrev pub quota_root_line : List RootSpec → List ℕ → List RootRow → List ℕ
quota_root_line roots mailbox rows =
    codes "* QUOTAROOT " ++ (printed mailbox ++ (flat_map (root_after_space roots) rows ++ crlf))

abbrev pub item_name : StatusItem → List ℕ
item_name Messages = codes "MESSAGES"
item_name Unseen = codes "UNSEEN"
item_name Deleted = codes "DELETED"
item_name DeletedStorage = codes "DELETED-STORAGE"
item_name Size = codes "SIZE"

-- what a mailbox has of an item
abbrev pub item_value : StatusItem → MailboxCounts → ℕ
item_value Messages counts = counts.messages
item_value Unseen counts = counts.unseen
item_value Deleted counts = counts.deleted
item_value DeletedStorage counts = counts.deleted_octets
item_value Size counts = counts.octets

-- an item and its value; nothing for an item that this service does not have
abbrev pub item_text : MailboxCounts → Option StatusItem → List ℕ
item_text counts (Some item) = item_name item ++ (codes " " ++ decimal (item_value item counts))
item_text counts None = []

abbrev pub item_after_space : MailboxCounts → Option StatusItem → List ℕ
item_after_space counts item = codes " " ++ item_text counts item

-- the items in their order, separated by spaces
abbrev pub items_text : MailboxCounts → List (Option StatusItem) → List ℕ
items_text counts [] = []
items_text counts (item ∷ items) =
    item_text counts item ++ flat_map (item_after_space counts) items

-- the STATUS response for a mailbox (RFC 9051, section 7.3.4)
abbrev pub status_line : (mailbox : List ℕ) → List (Option StatusItem) → MailboxCounts → List ℕ
status_line mailbox items counts =
    codes "* STATUS " ++ (printed mailbox ++ (codes " ("
    ++ (items_text counts items ++ (codes ")" ++ crlf))))

-- the answer to SETQUOTA if the account may not set limits
abbrev pub not_permitted_text : List ℕ → List ℕ
not_permitted_text tag = tagged_line tag (codes "NO [NOPERM] Not permitted")

-- the answer to a command that names a root that does not exist
abbrev pub no_root_text : List ℕ → List ℕ
no_root_text tag = tagged_line tag (codes "NO No such quota root")

-- the answer to STATUS of a mailbox that does not exist
abbrev pub no_mailbox_text : List ℕ → List ℕ
no_mailbox_text tag = tagged_line tag (codes "NO No such mailbox")

-- the answer to APPEND to a mailbox that does not exist (RFC 9051, section 6.3.12)
abbrev pub try_create_text : List ℕ → List ℕ
try_create_text tag = tagged_line tag (codes "NO [TRYCREATE] No such mailbox")

-- the answer to STATUS if an item is none that this service has
abbrev pub no_item_text : List ℕ → List ℕ
no_item_text tag = tagged_line tag (codes "NO Status item not supported")

-- the answer if the store failed
abbrev pub unavailable_text : List ℕ → List ℕ
unavailable_text tag = tagged_line tag (codes "NO [UNAVAILABLE] Store unavailable")

-- the answer if the account's history is full
abbrev pub journal_full_text : List ℕ → List ℕ
journal_full_text tag = tagged_line tag (codes "NO [LIMIT] Journal full")

-- the answer to GETQUOTAROOT if the mailbox's name has more than 255 bytes
abbrev pub name_too_long_text : List ℕ → List ℕ
name_too_long_text tag = tagged_line tag (codes "NO Name too long")

-- the answer to CAPABILITY: RFC 9051, section 7.2.2; RFC 9208, on capabilities
abbrev pub capability_text : List ℕ → List ℕ
capability_text tag = codes
    "* CAPABILITY IMAP4rev1 QUOTA QUOTASET QUOTA=RES-STORAGE QUOTA=RES-MESSAGE STATUS=SIZE\r\n"
    ++ tagged_line tag (codes "OK CAPABILITY completed")

-- the answer to NOOP
abbrev pub noop_text : List ℕ → List ℕ
noop_text tag = tagged_line tag (codes "OK NOOP completed")

-- the answer to LOGOUT
abbrev pub logout_text : List ℕ → List ℕ
logout_text tag = codes "* BYE quotad closing\r\n" ++ tagged_line tag (codes "OK LOGOUT completed")

-- the answer to LOGIN, by the account that the name and the password are of, if they are of one
abbrev pub login_text : List ℕ → Option ℕ → List ℕ
login_text tag (Some account) = tagged_line tag (codes "OK LOGIN completed")
login_text tag None = tagged_line tag (codes "NO [AUTHENTICATIONFAILED] Login failed")

-- the words after the tag that answer a text that is no command
abbrev pub fault_words : CommandFault → List ℕ
fault_words TooLong = codes "BYE Command too long"
fault_words InvalidTag = codes "BAD Invalid tag"
fault_words Unknown = codes "BAD Unknown command"
fault_words NotAuthenticated = codes "BAD Not authenticated"
fault_words AlreadyAuthenticated = codes "BAD Already authenticated"
fault_words (Syntax at) = codes "BAD Syntax error at " ++ decimal at
fault_words LiteralTooLarge = codes "BAD Literal too large"
fault_words MessageTooLarge = codes "NO [LIMIT] Message too large"
-- no text has this fault
fault_words NoMemory = codes "NO [UNAVAILABLE] Out of memory"

-- the tag of the line that answers a fault: the command's, or * if the text has none
abbrev pub fault_line_tag : CommandFault → (tag : List ℕ) → List ℕ
fault_line_tag TooLong tag = codes "*"
fault_line_tag InvalidTag tag = codes "*"
fault_line_tag Unknown tag = tag
fault_line_tag NotAuthenticated tag = tag
fault_line_tag AlreadyAuthenticated tag = tag
fault_line_tag (Syntax at) tag = tag
fault_line_tag LiteralTooLarge tag = tag
fault_line_tag MessageTooLarge tag = tag
fault_line_tag NoMemory tag = codes "*"

-- the answer to a text that is no command, by its fault
abbrev pub fault_text : (tag : List ℕ) → CommandFault → List ℕ
fault_text tag fault = tagged_line (fault_line_tag fault tag) (fault_words fault)

-- what a session writes first, if this account, or nobody, is logged in at its start (RFC 9051,
-- section 7.1)
abbrev pub greeting : Option ℕ → List ℕ
greeting (Some account) = codes "* PREAUTH quotad ready\r\n"
greeting None = codes "* OK quotad ready\r\n"
