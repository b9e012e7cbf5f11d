-- A desk of the table of one account, opened over a keeper without files.
use Rattle.std.specs.Prelude.{◌≡◌, ◌+◌, [], Some}
use Rattle.quota_units.specs.Limiting.{LimitNumbers}
use Rattle.keeper.specs.Calls.{Told}
use Rattle.keeper.specs.Files.{no_files}
use Rattle.account_core.specs.Account.{Account}
use Rattle.account_core.specs.Histories.{Origin}
use Rattle.account_ledger.specs.Opening.{opening_account}
use Rattle.account_ledger.specs.States.{State}
use Rattle.accounts_file.specs.Hosts.{plain_roots, plain_setup}
use Rattle.desk.specs.Shares.{Share}

-- one root of the empty name, the mailboxes INBOX and Trash, and no message
abbrev pub empty_account : LimitNumbers → Account
empty_account limits = opening_account (plain_setup limits) 0 no_files

-- where the account's history begins
abbrev pub plain_origin : LimitNumbers → Origin
plain_origin limits = record {
  roots = plain_roots;
  journal = (plain_setup limits).journal;
  epoch = 0;
  account = Some (empty_account limits);
}

-- the owner's share of the account before its first call
abbrev pub plain_share : LimitNumbers → Share
plain_share limits = record { origin = plain_origin limits; caller = 0; seen = [] }

-- the account's keeper tells its files, no call of it has failed, and none will
pub record NeverFails (s : State) : Type 0 where
  pub told : Told
  pub is_told : s.store.told ≡ Some told
  pub none : s.store.faults + s.store.append_faults + told.due ≡ 0
