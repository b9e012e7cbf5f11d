-- What the program writes and its status, as functions of the accounts file, the files of the
-- accounts and the input, if nothing fails.
use Rattle.std.specs.Prelude.{◌≡◌, ◌≢◌, ℕ, nat_lt, List, [], ◌∷◌, ◌++◌, map, Option, Some, None, if◌then◌else◌}
use Rattle.std.specs.Io.KnownBytes.{Appends}
use Rattle.std.specs.Option.{option_map, option_flatten, option_or}
use Rattle.keeper.specs.Calls.{Told}
use Rattle.keeper.specs.Accounts.{keeper_in}
use Rattle.keeper.specs.declared.rows.FileRow.{FileRow}
use Rattle.account_opening.specs.Bases.{listings, findings_of}
use Rattle.account_opening.specs.declared.error.OpenError.{OpenError}
use Rattle.account_opening.specs.declared.error.OpenError.TheVariants.{TooManyMessages, DoubleName, EpochUsed}
use Rattle.account_ledger.specs.Opening.{opening_of}
use Rattle.accounts_file.specs.declared.entry.AccountEntry.{AccountEntry}
use Rattle.accounts_file.specs.declared.error.AccountsError.{AccountsError}
use Rattle.accounts_file.specs.Files.{hosts_of, refusal_of}
use Rattle.accounts_file.specs.Hosts.{Hosts}
use Rattle.desk.specs.Shares.{Share}
use Rattle.sessions.specs.declared.front.Front.{Front}
use Rattle.sessions.specs.Fronts.{greeting_of}
use Rattle.owner_sessions.specs.Owner.{session_over}
use Rattle.quotactl.specs.Ends.{exit_status}
use Rattle.quotactl.specs.Lines.{usage_line, file_line, file_status, no_account_line, opening_line, opening_status, summary_lines}
use Rattle.quotactl.specs.Words.{HostedForm, imap_of}
use Rattle.quotactl.specs.Hosting.{front_in}

-- what the program writes, and its status
pub record Outcome : Type 0 where
  pub text : List ℕ
  pub status : ℕ

-- no read and no write failed, and memory did not run out
pub record IsUnbroken (read_failed write_failed : Type 0) (status : ℕ) : Type 0 where
  pub reads : ¬ read_failed
  pub writes : ¬ write_failed
  pub memory : status ≢ 6

-- this was written, and this is the status
pub record HasOutcome (written written' : Option (List ℕ)) (status : ℕ) (outcome : Outcome)
    : Type 0 where
  pub status_is : status ≡ outcome.status
  pub appended : Appends written written' outcome.text

abbrev pub usage_outcome : Outcome
usage_outcome = record { text = usage_line; status = 1 }

abbrev pub workload_outcome : (requests : ℕ) → Outcome
workload_outcome requests = record { text = summary_lines requests; status = 0 }

-- a session of this front over accounts of the owner of these shares
abbrev pub session_outcome : Hosts → Front → List Share → List ℕ → Outcome
session_outcome hosts front shares input = record {
  text = greeting_of front ++ (session_over hosts front shares input).text;
  status = exit_status (session_over hosts front shares input).end;
}

abbrev pub file_refused_outcome : AccountsError → Outcome
file_refused_outcome fault = record { text = file_line fault; status = file_status fault }

-- no account has the name that the session gives; a session that gives none does not come to this
abbrev pub no_account_outcome : HostedForm → Outcome
no_account_outcome (imap_of (Some name)) = record { text = no_account_line name; status = 8 }
no_account_outcome session = record { text = []; status = 8 }

abbrev pub not_opened_outcome : OpenError → Outcome
not_opened_outcome cause = record { text = opening_line cause; status = opening_status cause }

abbrev pub or_else_outcome : {X : Type 0} → Option X → (X → Outcome) → Outcome → Outcome
or_else_outcome None of_some otherwise = otherwise
or_else_outcome (Some x) of_some otherwise = of_some x

-- the first cause for a refusal that the files of these mailboxes give, if they give one
abbrev pub refusal_by : ℕ → List (List FileRow) → Option OpenError
refusal_by epoch all =
    let found = findings_of epoch all in
    if nat_lt 1048576 found.files then Some (TooManyMessages found.files)
    else option_or (option_map (λ name. DoubleName name) found.double)
    (option_map (λ name. EpochUsed name) found.used)

module _ {K : Type 0} (told : K → Option Told) where
  -- each keeper that the stores have tells its files, and no failure of it is due
  abbrev pub HaveNoneDue : List (List ℕ × Option K) → Type 0
  HaveNoneDue accounts = (name : List ℕ) (keeper : K) → keeper_in name accounts ≡ Some keeper
      → (t : Told) × (told keeper ≡ Some t) × (t.due ≡ 0)

  -- what the keeper of the account of this name tells
  abbrev pub told_in : List ℕ → List (List ℕ × Option K) → Option Told
  told_in name accounts = option_flatten (option_map told (keeper_in name accounts))

  -- why the account of this entry is not opened, if its files prevent it
  abbrev pub refusal_in : ℕ → List (List ℕ × Option K) → AccountEntry → Option OpenError
  refusal_in epoch accounts entry = option_flatten (option_map (λ t. refusal_by epoch
      (listings entry.setup.mailboxes t.files.rows)) (told_in entry.name accounts))

  -- the same of the first account that is not opened
  abbrev pub first_refusal : ℕ → List (List ℕ × Option K) → List AccountEntry → Option OpenError
  first_refusal epoch accounts [] = None
  first_refusal epoch accounts (entry ∷ entries) =
      option_or (refusal_in epoch accounts entry) (first_refusal epoch accounts entries)

  -- the owner's share of the account of this entry, before its first call
  abbrev pub share_in : ℕ → List (List ℕ × Option K) → AccountEntry → Share
  share_in epoch accounts entry = record {
    origin = record {
      roots = entry.setup.roots;
      journal = entry.setup.journal;
      epoch = epoch;
      account = opening_of entry.setup epoch (told_in entry.name accounts);
    };
    caller = 0;
    seen = [];
  }

  -- for the accounts of this table
  abbrev pub table_outcome : Hosts → Front → List (List ℕ × Option K) → List ℕ → Outcome
  table_outcome hosts front accounts input =
      or_else_outcome (first_refusal hosts.epoch accounts hosts.accounts) not_opened_outcome
      (session_outcome hosts front (map (share_in hosts.epoch accounts) hosts.accounts) input)

  -- for an accounts file, if this session is asked for
  abbrev pub file_outcome : List ℕ → ℕ → HostedForm → List (List ℕ × Option K) → List ℕ → Outcome
  file_outcome file epoch session accounts input =
      or_else_outcome (refusal_of file) file_refused_outcome
      (or_else_outcome (front_in (hosts_of file epoch).accounts session)
      (λ front. table_outcome (hosts_of file epoch) front accounts input)
      (no_account_outcome session))
