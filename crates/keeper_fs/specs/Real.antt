-- Keepers and stores over folders: their counts, and where their files are. What the files hold is
-- not told.
use Rattle.std.specs.Prelude.{ℕ, List}
use Rattle.std.specs.String.{string_bytes}
use Rattle.keeper_fs.specs.declared.fs_keeper.FsKeeper.{FsKeeper}
use Rattle.keeper_fs.specs.declared.fs_stores.FsStores.{FsStores}

-- how often a call of a keeper other than an append has failed
abbrev pub faults_of : {R : Type 0} → FsKeeper R → ℕ
faults_of keeper = keeper.faults

-- how often an append has failed
abbrev pub append_faults_of : {R : Type 0} → FsKeeper R → ℕ
append_faults_of keeper = keeper.append_faults

-- how often a keeper has listed a mailbox
abbrev pub lists_of : {R : Type 0} → FsKeeper R → ℕ
lists_of keeper = keeper.lists

-- the path of a keeper's account
abbrev pub folder_of : {R : Type 0} → FsKeeper R → List ℕ
folder_of keeper = string_bytes keeper.folder

-- how often a call of stores has failed
abbrev pub store_faults_of : {R : Type 0} → FsStores R → ℕ
store_faults_of stores = stores.faults

-- the path below which stores have their accounts
abbrev pub store_folder_of : {R : Type 0} → FsStores R → List ℕ
store_folder_of stores = stores.folder.items
