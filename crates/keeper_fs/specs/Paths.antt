-- Paths of an account's files: a Maildir++ tree in a folder of its own, with the ledgers beside the
-- folders of INBOX.
use Rattle.std.specs.Prelude.{◌≡◌, ℕ, Bool, ◌&&◌, List, ◌++◌, length, codes, nat_eq, nat_lt, bytes_eq, if◌then◌else◌}
use Rattle.std.specs.String.{string_bytes}
use Rattle.std.specs.Str.{is_utf8}
use Rattle.std.specs.Fmt.{decimal}
use Rattle.keeper_fs.specs.declared.folders.Mailbox.{Mailbox}
use Rattle.keeper_fs.specs.Names.{is_file_name}

-- the path of a name in a folder
abbrev pub path_in : List ℕ → List ℕ → List ℕ
path_in folder name = folder ++ (codes "/" ++ name)

-- the folder of a mailbox: for INBOX the account's own, and for another mailbox `.<mailbox>` in it
-- (Maildir++)
abbrev pub mailbox_folder : List ℕ → List ℕ → List ℕ
mailbox_folder account mailbox =
    if bytes_eq mailbox (codes "INBOX") then account else path_in account (codes "." ++ mailbox)

-- the folders of the mailbox whose folder this is (Maildir)
pub record IsMailbox (folder : List ℕ) (mailbox : Mailbox) : Type 0 where
  pub own : string_bytes mailbox.folder ≡ folder
  pub tmp : string_bytes mailbox.tmp ≡ path_in folder (codes "tmp")
  pub new : string_bytes mailbox.new ≡ path_in folder (codes "new")
  pub cur : string_bytes mailbox.cur ≡ path_in folder (codes "cur")

-- the file name of a root's ledger (Maildir++, for root 0)
abbrev pub ledger_name : ℕ → List ℕ
ledger_name root =
    if nat_eq root 0 then codes "maildirsize" else codes "maildirsize." ++ decimal root

-- a path that is UTF-8 and not empty
abbrev pub is_path : List ℕ → Bool
is_path path = is_utf8 path && nat_lt 0 (length path)

-- an account of this name can have a folder below this one: its name is the name of one file or
-- folder, and this is a path
abbrev pub is_account_path : List ℕ → List ℕ → Bool
is_account_path folder account = is_file_name account && is_path folder
