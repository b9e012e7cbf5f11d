-- What an accounts file says: the table of its host, or its first refusal.
use Rattle.std.specs.Prelude.{ℕ, List, [], ◌∷◌, nat_le, sum_by, Option, None, Some, unwrap_or, if◌then◌else◌}
use Rattle.std.specs.Str.{is_utf8}
use Rattle.toml.specs.Data.{Members, no_members}
use Rattle.toml.specs.Parse.{parse_document}
use Rattle.accounts_file.specs.declared.key.Key.TheVariants.{Imap, Jmap, Policy, Workers, Journal}
use Rattle.accounts_file.specs.declared.entry.AccountEntry.{AccountEntry}
use Rattle.accounts_file.specs.declared.settings.Settings.{Settings}
use Rattle.accounts_file.specs.declared.error.AccountsError.{AccountsError}
use Rattle.accounts_file.specs.declared.error.AccountsError.TheVariants.{NotToml, BadValue}
use Rattle.accounts_file.specs.Refusals.{first_in}
use Rattle.accounts_file.specs.Values.{number_at, number_refusal}
use Rattle.accounts_file.specs.Accounts.{accounts_of, accounts_refusal}
use Rattle.accounts_file.specs.Doubles.{doubles_refusal}
use Rattle.accounts_file.specs.Hosts.{Hosts}

-- the table that bytes spell in TOML 1.1
abbrev pub document : List ℕ → Option Members
document bytes = if is_utf8 bytes then parse_document bytes else None

abbrev pub settings_refusal : Members → Option AccountsError
settings_refusal file = first_in (number_refusal Imap file ∷ number_refusal Jmap file
    ∷ number_refusal Policy file ∷ number_refusal Workers file ∷ [])

abbrev pub settings_of : Members → Settings
settings_of file =
    record {
      imap = number_at Imap file;
      jmap = number_at Jmap file;
      policy = number_at Policy file;
      workers = unwrap_or (number_at Workers file) 2;
    }

-- the sum of the journals of all accounts
abbrev pub all_journals : List AccountEntry → ℕ
all_journals accounts = sum_by (λ account. account.setup.journal) accounts

abbrev pub journals_refusal : List AccountEntry → Option AccountsError
journals_refusal accounts =
    if nat_le (all_journals accounts) 4194304 then None else Some (BadValue Journal)

-- what is refused of a file, in order
abbrev pub file_refusal : Members → Option AccountsError
file_refusal file =
    first_in (settings_refusal file ∷ accounts_refusal file ∷ doubles_refusal (accounts_of file)
    ∷ journals_refusal (accounts_of file) ∷ [])

abbrev pub refusal_or_not_toml : Option Members → Option AccountsError
refusal_or_not_toml None = Some NotToml
refusal_or_not_toml (Some file) = file_refusal file

-- the first refusal of these bytes
abbrev pub refusal_of : List ℕ → Option AccountsError
refusal_of bytes = refusal_or_not_toml (document bytes)

-- the table of these bytes, opened at this epoch
abbrev pub hosts_of : List ℕ → ℕ → Hosts
hosts_of bytes epoch =
    let file = unwrap_or (document bytes) no_members in
    record { settings = settings_of file; accounts = accounts_of file; epoch = epoch }
