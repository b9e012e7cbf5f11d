-- What a session of any front needs of a desk, and who may be logged in.
use Rattle.std.specs.Prelude.{◌≡◌, ◌<◌, ℕ, List, length, slice_get, Option, Some, IfSome}
use Rattle.accounts_file.specs.Hosts.{Hosts}
use Rattle.accounts_file.specs.declared.entry.AccountEntry.{AccountEntry}
use Rattle.desk.specs.Shares.{Share, share_at}

-- the most bytes that a session takes
abbrev pub input_limit : ℕ
input_limit = 1073741824

-- the account was opened with the roots and the journal limit of this entry, and at this epoch
pub record IsOpenedAs (entry : AccountEntry) (epoch : ℕ) (share : Share) : Type 0 where
  pub roots : share.origin.roots ≡ entry.setup.roots
  pub journal : share.origin.journal ≡ entry.setup.journal
  pub epoch_is : share.origin.epoch ≡ epoch

-- a desk with these shares has the accounts of the table, each opened with its entry and at the
-- table's epoch
pub record IsDeskOf (hosts : Hosts) (shares : List Share) : Type 0 where
  pub count : length shares ≡ length hosts.accounts
  pub each : (account : ℕ) (entry : AccountEntry) → slice_get hosts.accounts account ≡ Some entry
      → IsOpenedAs entry hosts.epoch (share_at shares account)

-- nobody is logged in, or an account of the table is
abbrev pub IsLogin : Hosts → Option ℕ → Type 0
IsLogin hosts login = IfSome login (λ account. account < length hosts.accounts)
