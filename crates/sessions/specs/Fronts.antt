-- What a session of each front is, and how its input ends it.
use Rattle.std.specs.Prelude.{ℕ, List, [], Option, Some, None}
use Rattle.wire_io.specs.declared.ends.SessionEnd.{SessionEnd}
use Rattle.wire_io.specs.Serving.{IsSession}
use Rattle.wire_io.specs.Session.{EndsAsDecided}
use Rattle.accounts_file.specs.Hosts.{Hosts}
use Rattle.account_core.specs.History.{Answer}
use Rattle.desk.specs.Asking.{DeskCall}
use Rattle.front_core.specs.Desks.{input_limit}
use Rattle.imap_front.specs.Texts.{greeting}
use Rattle.imap_front.specs.Imap.{imap}
use Rattle.policy_front.specs.Policy.{policy}
use Rattle.sessions.specs.declared.front.Front.{Front}
use Rattle.sessions.specs.declared.front.Front.TheVariants.{Imap, ImapAs, Policy}

-- the number of the account that is logged in at the start, if one is
abbrev pub start_of : Front → Option ℕ
start_of Imap = None
start_of (ImapAs account) = Some account
start_of Policy = None

-- what the session writes first
abbrev pub greeting_of : Front → List ℕ
greeting_of Imap = greeting None
greeting_of (ImapAs account) = greeting (Some account)
greeting_of Policy = []

-- The bytes that left the source, the calls on the desk with their answers, the bytes that the sink
-- gained and the end are a session of the front. `Logs` says of the calls what they did to the
-- desk.
abbrev pub IsSessionOf : Hosts → Front → (Logs : List (DeskCall × Answer) → Type 0)
    → (left left' written written' : Option (List ℕ)) → SessionEnd → Type 0
IsSessionOf hosts Imap Logs left left' written written' end =
    IsSession (imap hosts) (greeting_of Imap) None input_limit Logs left left' written written' end
IsSessionOf hosts (ImapAs account) Logs left left' written written' end =
    IsSession (imap hosts) (greeting_of (ImapAs account)) (Some account) input_limit Logs
    left left' written written' end
IsSessionOf hosts Policy Logs left left' written written' end =
    IsSession (policy hosts) [] None input_limit Logs left left' written written' end

-- The input decides an end, and the session of the front has that end unless something failed or
-- memory ran out.
abbrev pub EndsAsInputDecides : Hosts → Front → (input : List ℕ) → (failed : Type 0) → SessionEnd
    → Type 0
EndsAsInputDecides hosts Imap input failed end =
    EndsAsDecided (imap hosts) None input_limit input failed end
EndsAsInputDecides hosts (ImapAs account) input failed end =
    EndsAsDecided (imap hosts) (Some account) input_limit input failed end
EndsAsInputDecides hosts Policy input failed end =
    EndsAsDecided (policy hosts) None input_limit input failed end
