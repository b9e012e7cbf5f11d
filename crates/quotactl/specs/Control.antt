-- What the program does with its arguments.
use Rattle.std.specs.Prelude.{◌≡◌, ◌*◌, ℕ, List, [], ◌∷◌, codes, Option, Some, None}
use Rattle.std.specs.List.{All}
use Rattle.std.specs.Io.KnownBytes.{Keeps}
use Rattle.quota_units.specs.Limiting.{LimitNumbers}
use Rattle.keeper.specs.Calls.{Told}
use Rattle.wire_io.specs.Transcript.{Transcript}
use Rattle.wire_io.specs.declared.ends.SessionEnd.{SessionEnd}
use Rattle.accounts_file.specs.Hosts.{Hosts, plain_hosts}
use Rattle.desk.specs.Shares.{Share}
use Rattle.desk.specs.Logs.{IsLog}
use Rattle.sessions.specs.declared.front.Front.TheVariants.{ImapAs}
use Rattle.sessions.specs.Fronts.{IsSessionOf}
use Rattle.owner_sessions.specs.Plain.{plain_share}
use Rattle.owner_sessions.specs.Owner.{IsUndisturbed, session_over}
use Rattle.quotactl.specs.Ends.{exit_status}
use Rattle.quotactl.specs.Lines.{EndsWith, MayEndWith, summary_lines, usage_line}
use Rattle.command_words.specs.Words.{IsSessionForm, IsWorkloadForm, IsNoForm}
use Rattle.quotactl.specs.Words.{HostedForm, IsHostedForm}
use Rattle.quotactl.specs.Checking.{ChecksLedger}
use Rattle.quotactl.specs.Hosting.{ServesFile}

abbrev pub units_of_storage : ℕ → LimitNumbers
units_of_storage n = record { octets = Some (1024 * n); count = None }

-- the table of one account with this many units of storage
abbrev pub hosts_with : ℕ → Hosts
hosts_with n = plain_hosts (units_of_storage n)

-- the owner's share of that account, before its first call
abbrev pub fresh : ℕ → List Share
fresh n = plain_share (units_of_storage n) ∷ []

-- the session that an input gives, of the owner of that account
abbrev pub session_of : ℕ → List ℕ → Transcript (List Share)
session_of n input = session_over (hosts_with n) (ImapAs 0) (fresh n) input

-- what happens if an account with this many units of storage is opened and a session of its owner
-- is served
pub data Runs (left left' written written' : Option (List ℕ)) (n status : ℕ) : Type 0 where
  -- the session was served to its end; the owner alone asked the account, and its keeper never
  -- failed
  served : (shares' : List Share) (end : SessionEnd)
      → IsSessionOf (hosts_with n) (ImapAs 0) (IsLog (fresh n) shares')
      left left' written written' end
      → All IsUndisturbed shares' → status ≡ exit_status end
      → Runs left left' written written' n status
  -- memory ran out for the account
  no_account : Keeps left left' → Keeps written written' → status ≡ 6
      → Runs left left' written written' n status

module _ {K : Type 0} (told : K → Option Told) (faults append_faults lists : K → ℕ) where
  -- what the program does, depending on its arguments, with this accounts file and at this epoch
  pub data Controls (words : List (List ℕ)) (file : List ℕ) (epoch : ℕ)
      (stores stores' : Option (List (List ℕ × Option K)))
      (left left' written written' : Option (List ℕ)) (status : ℕ) : Type 0 where
    -- the program serves a session of an account with `n` units
    runs : (n : ℕ) → IsSessionForm words n → Runs left left' written written' n status
        → Controls words file epoch stores stores' left left' written written' status
    -- the program serves a session over the accounts of the file
    serves : (session : HostedForm) → IsHostedForm words session
        → ServesFile told faults append_faults lists file epoch session stores stores'
        left left' written written' status
        → Controls words file epoch stores stores' left left' written written' status
    -- the program says what a ledger holds
    checks : words ≡ codes "check" ∷ [] → ChecksLedger left left' written written' status
        → Controls words file epoch stores stores' left left' written written' status
    -- the program works a workload of so many requests, and sums it up
    works : (requests : ℕ) → IsWorkloadForm words requests → Keeps left left'
        → MayEndWith written written' (summary_lines requests) 0 status
        → Controls words file epoch stores stores' left left' written written' status
    -- memory runs out as the arguments are read
    unread : Keeps left left' → Keeps written written' → status ≡ 6
        → Controls words file epoch stores stores' left left' written written' status
    -- the arguments are unrecognised
    refuses : IsNoForm words → Keeps left left' → EndsWith written written' usage_line 1 status
        → Controls words file epoch stores stores' left left' written written' status
