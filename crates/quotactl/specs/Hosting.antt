-- What the program does with the accounts of a file.
use Rattle.std.specs.Prelude.{◌≡◌, ◌⊎◌, ℕ, List, map, Option, Some, None}
use Rattle.std.specs.List.{AllZip}
use Rattle.std.specs.Option.{option_map}
use Rattle.std.specs.Io.KnownBytes.{Keeps}
use Rattle.keeper.specs.Calls.{Told, Changes}
use Rattle.wire_io.specs.declared.ends.SessionEnd.{SessionEnd}
use Rattle.account_opening.specs.declared.error.OpenError.{OpenError}
use Rattle.account_ledger.specs.States.{State}
use Rattle.accounts_file.specs.declared.entry.AccountEntry.{AccountEntry}
use Rattle.accounts_file.specs.declared.error.AccountsError.{AccountsError}
use Rattle.accounts_file.specs.declared.error.AccountsError.TheVariants.{NoMemory}
use Rattle.accounts_file.specs.Files.{hosts_of, refusal_of}
use Rattle.accounts_file.specs.Hosts.{Hosts, named}
use Rattle.desk.specs.Logs.{IsLog}
use Rattle.host_opening.specs.Opening.{OpensEach, WasOpened}
use Rattle.host_opening.specs.Refusing.{RefusesFirst}
use Rattle.host_opening.specs.Closing.{ClosesEach}
use Rattle.plain_desk.specs.Continuing.{EachContinues}
use Rattle.plain_desk.specs.Owning.{AreOwned, share_of}
use Rattle.sessions.specs.declared.front.Front.{Front}
use Rattle.sessions.specs.declared.front.Front.TheVariants.{Imap, ImapAs, Policy}
use Rattle.sessions.specs.Fronts.{IsSessionOf}
use Rattle.quotactl.specs.Ends.{exit_status}
use Rattle.quotactl.specs.Words.{HostedForm, imap_of, policy_socket}
use Rattle.quotactl.specs.Lines.{MayEndWith, file_line, file_status, no_account_line, opening_line, opening_status}

-- the front of a session over these accounts; none if the session names an account and none of
-- them has the name
abbrev pub front_in : List AccountEntry → HostedForm → Option Front
front_in accounts (imap_of None) = Some Imap
front_in accounts (imap_of (Some name)) = option_map ImapAs (named accounts name)
front_in accounts policy_socket = Some Policy

-- the session names this account, and the table has none of the name
pub record IsNobody (hosts : Hosts) (session : HostedForm) (name : List ℕ) : Type 0 where
  pub is_named : session ≡ imap_of (Some name)
  pub absent : named hosts.accounts name ≡ None

-- the file gives this table, and this front of the session
pub record Gives (file : List ℕ) (epoch : ℕ) (session : HostedForm) (hosts : Hosts)
    (front : Front) : Type 0 where
  pub accepted : refusal_of file ≡ None
  pub table : hosts ≡ hosts_of file epoch
  pub front_is : front_in hosts.accounts session ≡ Some front

module _ {K : Type 0} (told : K → Option Told) (faults append_faults lists : K → ℕ) where
  -- The accounts of the table are opened, a session of this front over them is served to its end,
  -- and the accounts are closed.
  pub record ServesAccounts (hosts : Hosts) (front : Front)
      (stores stores' : Option (List (List ℕ × Option K)))
      (left left' written written' : Option (List ℕ)) (status : ℕ) : Type 0 where
    pub opened : List State
    pub closed : List State
    pub between : Option (List (List ℕ × Option K))
    pub end : SessionEnd
    pub were_opened : AllZip (WasOpened hosts.epoch) hosts.accounts opened
    pub opens : Changes (OpensEach told hosts.epoch hosts.accounts opened) stores between
    pub session : IsSessionOf hosts front (IsLog (map share_of opened) (map share_of closed))
        left left' written written' end
    pub continues : EachContinues opened closed
    pub owned : AreOwned closed
    pub closes : Changes (ClosesEach told faults append_faults lists hosts.accounts closed)
        between stores'
    pub status_is : status ≡ exit_status end

  -- what the program does with the accounts of a table
  pub data ServesTable (hosts : Hosts) (front : Front)
      (stores stores' : Option (List (List ℕ × Option K)))
      (left left' written written' : Option (List ℕ)) (status : ℕ) : Type 0 where
    -- an account is not opened, or memory runs out for it; those before it are closed again
    not_opened : (cause : OpenError)
        → Changes (RefusesFirst told hosts.epoch cause hosts.accounts) stores stores'
        → Keeps left left'
        → MayEndWith written written' (opening_line cause) (opening_status cause) status
        → ServesTable hosts front stores stores' left left' written written' status
    -- a session is served
    served : ServesAccounts hosts front stores stores' left left' written written' status
        → ServesTable hosts front stores stores' left left' written written' status

  -- what the program does with an accounts file, if it is asked for this session
  pub data ServesFile (file : List ℕ) (epoch : ℕ) (session : HostedForm)
      (stores stores' : Option (List (List ℕ × Option K)))
      (left left' written written' : Option (List ℕ)) (status : ℕ) : Type 0 where
    -- the file is refused, or memory runs out for its table
    file_refused : (fault : AccountsError) → (fault ≡ NoMemory) ⊎ (refusal_of file ≡ Some fault)
        → stores' ≡ stores → Keeps left left'
        → MayEndWith written written' (file_line fault) (file_status fault) status
        → ServesFile file epoch session stores stores' left left' written written' status
    -- the file has no account of the name
    no_account : (name : List ℕ) → refusal_of file ≡ None
        → IsNobody (hosts_of file epoch) session name → stores' ≡ stores → Keeps left left'
        → MayEndWith written written' (no_account_line name) 8 status
        → ServesFile file epoch session stores stores' left left' written written' status
    -- the file has the account, if one is named
    accepted : (hosts : Hosts) (front : Front) → Gives file epoch session hosts front
        → ServesTable hosts front stores stores' left left' written written' status
        → ServesFile file epoch session stores stores' left left' written written' status
