-- A session of a policy server.
use Rattle.std.specs.Prelude.{ℕ, List, [], Option, None}
use Rattle.wire_io.specs.declared.ends.SessionEnd.{SessionEnd}
use Rattle.wire_io.specs.Serving.{IsSession}
use Rattle.accounts_file.specs.Hosts.{Hosts}
use Rattle.account_core.specs.History.{Answer}
use Rattle.desk.specs.Asking.{DeskCall}
use Rattle.front_core.specs.Desks.{input_limit}
use Rattle.policy_front.specs.Policy.{policy}

-- The bytes that left the source, the calls on the desk with their answers, the bytes that the sink
-- gained and the end are a session of a policy server, which greets nobody. `Logs` says of the
-- calls what they did to the desk.
abbrev pub IsPolicySession : Hosts → (Logs : List (DeskCall × Answer) → Type 0)
    → (left left' written written' : Option (List ℕ)) → SessionEnd → Type 0
IsPolicySession hosts Logs left left' written written' end =
    IsSession (policy hosts) [] None input_limit Logs left left' written written' end
