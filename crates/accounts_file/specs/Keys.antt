-- The keys of an accounts file, and their values.
use Rattle.std.specs.Prelude.{ℕ, List, codes, Option}
use Rattle.toml.specs.Data.{Data, Members, get_member}
use Rattle.accounts_file.specs.declared.key.Key.{Key}
use Rattle.accounts_file.specs.declared.key.Key.TheVariants.{Imap, Jmap, Policy, Workers, Account, AccountName, Password, Token, Admin, Journal, Recipients, Mailboxes, Root, RootName, Prefix, Storage, Messages}

-- a key's word in the file
abbrev pub word : Key → List ℕ
word Imap = codes "imap"
word Jmap = codes "jmap"
word Policy = codes "policy"
word Workers = codes "workers"
word Account = codes "account"
word AccountName = codes "name"
word Password = codes "password"
word Token = codes "token"
word Admin = codes "admin"
word Journal = codes "journal"
word Recipients = codes "recipients"
word Mailboxes = codes "mailboxes"
word Root = codes "root"
word RootName = codes "name"
word Prefix = codes "prefix"
word Storage = codes "storage"
word Messages = codes "messages"

-- the value at a key of a table
abbrev pub value_at : Key → Members → Option Data
value_at key table = get_member (word key) table
