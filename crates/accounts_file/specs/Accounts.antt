-- An account, as its table gives it.
use Rattle.std.specs.Prelude.{◌≡◌, ◌≤◌, ℕ, true, List, [], ◌∷◌, length, map, codes, bytes_eq, slice_get, Option, None, Some, unwrap_or, if◌then◌else◌}
use Rattle.std.specs.List.{list_all}
use Rattle.toml.specs.Data.{Data, Members, as_table}
use Rattle.quota_roots.specs.Setups.{is_mailbox}
use Rattle.accounts_file.specs.declared.key.Key.TheVariants.{Account, AccountName, Password, Token, Admin, Journal, Recipients, Mailboxes}
use Rattle.accounts_file.specs.declared.entry.AccountEntry.{AccountEntry}
use Rattle.accounts_file.specs.declared.error.AccountsError.{AccountsError}
use Rattle.accounts_file.specs.declared.error.AccountsError.TheVariants.{BadValue, Missing}
use Rattle.accounts_file.specs.Keys.{value_at}
use Rattle.accounts_file.specs.Refusals.{first_in, at_most}
use Rattle.accounts_file.specs.Values.{number_at, number_refusal, flag_at, flag_refusal, text_at, needed_text_refusal, texts_at, texts_refusal, items_at}
use Rattle.accounts_file.specs.RootTables.{tables_refusal, specs_of, all_limits, members_in, root_tables, roots_refusal, AreRootsRead}

-- the names without the first that is this one
abbrev pub without_first : List ℕ → List (List ℕ) → List (List ℕ)
without_first name [] = []
without_first name (other ∷ names) =
    if bytes_eq other name then names else other ∷ without_first name names

-- INBOX, and after it the other names
abbrev pub with_inbox : List (List ℕ) → List (List ℕ)
with_inbox names = codes "INBOX" ∷ without_first (codes "INBOX") names

abbrev pub mailboxes_at : Members → List (List ℕ)
mailboxes_at account = with_inbox (texts_at Mailboxes account)

abbrev pub mailboxes_refusal : Members → Option AccountsError
mailboxes_refusal account = first_in
    (texts_refusal Mailboxes account ∷ at_most Mailboxes 256 (length (mailboxes_at account)) ∷ [])

-- what is refused of an account's table, key by key
abbrev pub account_refusal : Members → Option AccountsError
account_refusal account =
    first_in (needed_text_refusal AccountName account ∷ needed_text_refusal Password account
    ∷ needed_text_refusal Token account
    ∷ flag_refusal Admin account ∷ number_refusal Journal account ∷ texts_refusal Recipients account
    ∷ mailboxes_refusal account ∷ roots_refusal account ∷ [])

-- the account of a table
abbrev pub account_of : Members → AccountEntry
account_of account =
    record {
      name = unwrap_or (text_at AccountName account) [];
      password = unwrap_or (text_at Password account) [];
      token = unwrap_or (text_at Token account) [];
      admin = flag_at Admin account;
      recipients = texts_at Recipients account;
      setup = record {
        roots = specs_of (root_tables account);
        limits = all_limits (root_tables account);
        mailboxes = mailboxes_at account;
        journal = unwrap_or (number_at Journal account) 65536;
      };
    }

abbrev pub account_value_refusal : Option Members → Option AccountsError
account_value_refusal None = Some (BadValue Account)
account_value_refusal (Some account) = account_refusal account

abbrev pub refusal_in : Data → Option AccountsError
refusal_in value = account_value_refusal (as_table value)

abbrev pub account_list_refusal : Option Data → Option AccountsError
account_list_refusal None = Some (Missing Account)
account_list_refusal (Some value) = tables_refusal Account 32 value

-- what is refused of the list of accounts, and then of each account
abbrev pub accounts_refusal : Members → Option AccountsError
accounts_refusal file = first_in (account_list_refusal (value_at Account file)
    ∷ first_in (map refusal_in (items_at Account file)) ∷ [])

abbrev pub account_in : Data → AccountEntry
account_in value = account_of (members_in value)

abbrev pub accounts_of : Members → List AccountEntry
accounts_of file = map account_in (items_at Account file)

-- what is known of an account before its mailboxes and its roots are compared
pub record IsDrafted (account : AccountEntry) : Type 0 where
  pub roots : AreRootsRead account.setup.roots account.setup.limits
  pub inbox : slice_get account.setup.mailboxes 0 ≡ Some (codes "INBOX")
  pub few : length account.setup.mailboxes ≤ 256
  pub named : list_all is_mailbox account.setup.mailboxes ≡ true
  pub some_room : 1 ≤ account.setup.journal
  pub most_room : account.setup.journal ≤ 524288
