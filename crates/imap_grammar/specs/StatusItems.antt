-- The reading of the items that STATUS asks for: RFC 9051, section 9, status-att; RFC 9208, formal
-- syntax: status-att.
use Rattle.std.specs.Prelude.{ℕ, if◌then◌else◌, bytes_eq, List, map, codes, Option, Some, None}
use Rattle.std.specs.Char.{to_ascii_lowercase}
use Rattle.imap_grammar.specs.declared.status.StatusItem.{StatusItem}
use Rattle.imap_grammar.specs.declared.status.StatusItem.TheVariants.{Messages, Unseen, Deleted, DeletedStorage, Size}
use Rattle.imap_grammar.specs.Reading.{Reader, ◌>>=◌, gives}
use Rattle.imap_grammar.specs.Astrings.{plain}
use Rattle.imap_grammar.specs.Lists.{some_items}

-- the item of a name in lower case
abbrev pub item_named : List ℕ → Option StatusItem
item_named name =
    if bytes_eq name (codes "messages") then Some Messages
    else if bytes_eq name (codes "unseen") then Some Unseen
    else if bytes_eq name (codes "deleted") then Some Deleted
    else if bytes_eq name (codes "deleted-storage") then Some DeletedStorage
    else if bytes_eq name (codes "size") then Some Size else None

-- the item of a name, in either case
abbrev pub item_of : List ℕ → Option StatusItem
item_of name = item_named (map to_ascii_lowercase name)

-- a name of an item, which this service may not have
abbrev pub status_item : Reader (Option StatusItem)
status_item = plain >>= (λ name. gives (item_of name))

-- one item or more, separated by spaces, and the closing parenthesis
abbrev pub status_items : Reader (List (Option StatusItem))
status_items = some_items status_item
