-- The table of a host's accounts, and what is looked up in it.
use Rattle.std.specs.Prelude.{◌≡◌, ◌≤◌, ◌<◌, ℕ, Bool, true, not, ◌&&◌, List, [], ◌∷◌, length, map, position, slice_get, bytes_eq, nat_eq, codes, All, Option, None, Some, IfSome}
use Rattle.std.specs.List.{list_any}
use Rattle.std.specs.Str.{str_eq_ignore_ascii_case}
use Rattle.quota_units.specs.Limiting.{LimitNumbers}
use Rattle.quota_roots.specs.declared.root.RootSpec.{RootSpec}
use Rattle.quota_roots.specs.declared.setup.Setup.{Setup}
use Rattle.quota_roots.specs.Setups.{IsSound, are_different}
use Rattle.wire_io.specs.declared.ends.Wire.{Wire}
use Rattle.wire_io.specs.declared.ends.Wire.TheVariants.{Imap, Jmap, Policy}
use Rattle.accounts_file.specs.declared.entry.AccountEntry.{AccountEntry}
use Rattle.accounts_file.specs.declared.settings.Settings.{Settings}

pub record Hosts : Type 0 where
  pub settings : Settings
  pub accounts : List AccountEntry
  pub epoch : ℕ

-- no two of the accounts share a name or a token
pub record AreDifferent (accounts : List AccountEntry) : Type 0 where
  pub names : are_different (map (λ (account : AccountEntry). account.name) accounts) ≡ true
  pub tokens : are_different (map (λ (account : AccountEntry). account.token) accounts) ≡ true

-- 1 to 32 accounts, different, each with a sound setup
pub record AreAccounts (accounts : List AccountEntry) : Type 0 where
  pub some : 1 ≤ length accounts
  pub few : length accounts ≤ 32
  pub different : AreDifferent accounts
  pub sound : All (λ (account : AccountEntry). IsSound account.setup) accounts

-- a number that is given is that of one of the accounts
abbrev pub IsOneOf : List AccountEntry → Option ℕ → Type 0
IsOneOf accounts number = IfSome number (λ account. account < length accounts)

-- the account of this name
abbrev pub named : List AccountEntry → List ℕ → Option ℕ
named accounts name = position (λ account. bytes_eq account.name name) accounts

-- a secret that is there, and is this one
abbrev pub is_secret_of : List ℕ → List ℕ → Bool
is_secret_of kept given = not (nat_eq (length kept) 0) && bytes_eq kept given

-- the account of this name, if it has this password
abbrev pub logged_in : List AccountEntry → List ℕ → List ℕ → Option ℕ
logged_in accounts name password = position (λ account. bytes_eq account.name name
    && is_secret_of account.password password) accounts

-- the account that has this token
abbrev pub holder : List AccountEntry → List ℕ → Option ℕ
holder accounts token = position (λ account. is_secret_of account.token token) accounts

-- each account is found by its own name, by its name and password unless the password is empty, and
-- by its token unless the token is empty
pub record HaveDifferentLogins (accounts : List AccountEntry) : Type 0 where
  pub by_name : (account : ℕ) (entry : AccountEntry) → slice_get accounts account ≡ Some entry
      → named accounts entry.name ≡ Some account
  pub by_password : (account : ℕ) (entry : AccountEntry) → slice_get accounts account ≡ Some entry
      → 0 < length entry.password → logged_in accounts entry.name entry.password ≡ Some account
  pub by_token : (account : ℕ) (entry : AccountEntry) → slice_get accounts account ≡ Some entry
      → 0 < length entry.token → holder accounts entry.token ≡ Some account

-- the account that has the address among its recipients, in any ASCII case
abbrev pub receiver : List AccountEntry → List ℕ → Option ℕ
receiver accounts address = position (λ account.
    list_any (λ recipient. str_eq_ignore_ascii_case recipient address) account.recipients) accounts

-- the port of a protocol's listener; none if the listener is not opened
abbrev pub port_of : Settings → Wire → Option ℕ
port_of settings Imap = settings.imap
port_of settings Jmap = settings.jmap
port_of settings Policy = settings.policy

-- one root of the empty name, which governs every mailbox but Trash
abbrev pub plain_roots : List RootSpec
plain_roots = record { name = []; prefix = None } ∷ []

abbrev pub plain_setup : LimitNumbers → Setup
plain_setup limits =
    record {
      roots = plain_roots;
      limits = limits ∷ [];
      mailboxes = codes "INBOX" ∷ codes "Trash" ∷ [];
      journal = 65536;
    }

-- the account `main`, which may set limits, and to which nobody can log in
abbrev pub plain_account : LimitNumbers → AccountEntry
plain_account limits =
    record {
      name = codes "main";
      password = [];
      token = [];
      admin = true;
      recipients = [];
      setup = plain_setup limits;
    }

-- the table of that account alone
abbrev pub plain_hosts : LimitNumbers → Hosts
plain_hosts limits =
    record {
      settings = record { imap = None; jmap = None; policy = None; workers = 2 };
      accounts =
          plain_account limits ∷ [];
      epoch = 0;
    }
