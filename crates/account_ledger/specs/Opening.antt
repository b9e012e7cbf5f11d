-- The account that a store's files make when the account is opened.
use Rattle.std.specs.Prelude.{ℕ, Option}
use Rattle.std.specs.Option.{option_map}
use Rattle.quota_roots.specs.declared.setup.Setup.{Setup}
use Rattle.keeper.specs.Files.{Files}
use Rattle.keeper.specs.Calls.{Told}
use Rattle.account_core.specs.Account.{Account}
use Rattle.account_opening.specs.Limits.{opening_limits}
use Rattle.account_ledger.specs.Messages.{messages_in}

abbrev pub opening_account : Setup → ℕ → Files → Account
opening_account setup epoch files = record {
  limits = opening_limits files setup.limits;
  mailboxes = setup.mailboxes;
  messages = messages_in setup.mailboxes files.rows;
  deliveries = 0;
  epoch = epoch;
  generation = 0;
}

-- the opening account, if the files are told
abbrev pub opening_of : Setup → ℕ → Option Told → Option Account
opening_of setup epoch told = option_map (λ t. opening_account setup epoch t.files) told
