-- What the answers of a session have in common.
use Rattle.std.specs.Prelude.{◌≡◌, ℕ, List}
use Rattle.wire_io.specs.Lines.{HasNoEnd}
use Rattle.wire_io.specs.declared.ends.After.{After}
use Rattle.wire_io.specs.Work.{Does}
use Rattle.accounts_file.specs.Hosts.{Hosts}
use Rattle.account_core.specs.History.{Answer}
use Rattle.desk.specs.Asking.{DeskCall}
use Rattle.policy_front.specs.Requests.{Request}
use Rattle.policy_front.specs.Answers.{action}
use Rattle.policy_front.specs.Policy.{work}

-- `action=` and words on one line, and then an empty line, which is the only one
abbrev pub IsAction : List ℕ → Type 0
IsAction text = (words : List ℕ) × HasNoEnd words × (text ≡ action words)

-- Whatever the answers to its calls, a request is answered by one action.
abbrev pub RequestsHaveActions : Type 0
RequestsHaveActions = (hosts : Hosts) (request : Request) (log : List (DeskCall × Answer))
    (text : List ℕ) (after : After) → Does (work hosts request) log text after → IsAction text
