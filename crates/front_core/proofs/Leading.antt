-- A desk after a request and after a session.
use Rattle.std.proofs.Common.{ℕ, List, Option, Result, ap, ◌∙◌}
use Rattle.wire_io.specs.declared.ends.After.{After}
use Rattle.wire_io.specs.declared.ends.SessionEnd.{SessionEnd}
use Rattle.wire_io.specs.Protocol.{Protocol}
use Rattle.wire_io.specs.Requests.{TakesRequest}
use Rattle.wire_io.specs.Serving.{IsSession}
use Rattle.wire_io.proofs.Serving.{session_with}
use Rattle.accounts_file.specs.Hosts.{Hosts}
use Rattle.account_core.specs.Histories.{Origin}
use Rattle.account_core.specs.History.{Answer}
use Rattle.desk.specs.Shares.{HaveNoFailure, Share}
use Rattle.desk.specs.Asking.{DeskCall}
use Rattle.desk.specs.Logs.{IsLog, IsRepliedLog}
use Rattle.desk.proofs.Replying.{logs_without_failure_are_replied}
use Rattle.front_core.specs.Desks.{IsDeskOf}

-- a desk of the table's accounts stays one
pub desk_after : (hosts : Hosts) (shares shares' : List Share) (log : List (DeskCall × Answer)) → IsDeskOf hosts shares → IsLog shares shares' log → IsDeskOf hosts shares'
desk_after hosts shares shares' log desk made = record {
  count = made.count ∙ desk.count;
  each = λ account entry is.
      let opened = desk.each account entry is in
      let kept = (made.each account).origin in
      record {
        roots = ap (λ (o : Origin). o.roots) kept ∙ opened.roots;
        journal = ap (λ (o : Origin). o.journal) kept ∙ opened.journal;
        epoch_is = ap (λ (o : Origin). o.epoch) kept ∙ opened.epoch_is;
      };
}

-- calls that were made, and what else the desk kept
module _ {State Request Call Answer : Type 0} (p : Protocol State Request Call Answer) (limit : ℕ) (Logs : List (Call × Answer) → Type 0) (Leads : Type 0) (left left' : Option (List ℕ)) where
  pub takes_and_leads : (state state' : State) (waiting waiting' : List ℕ) (taken taken' at at' : ℕ) (prompted text : List ℕ) (result : Result After SessionEnd) → Leads
      → TakesRequest p limit state state' Logs left left' waiting waiting' taken taken' at at' prompted text result
      → TakesRequest p limit state state' (λ log. Logs log × Leads) left left' waiting waiting' taken taken' at at' prompted text result
  takes_and_leads state state' waiting waiting' taken taken' at at' prompted text result leads t = record {
    given = t.given;
    log = t.log;
    hands = t.hands;
    counts = t.counts;
    logged = (t.logged, leads);
    comes = t.comes;
  }

  module _ (greeting : List ℕ) (start : State) (written written' : Option (List ℕ)) (end : SessionEnd) (s : IsSession p greeting start limit (λ log. Logs log × Leads) left left' written written' end) where
    pub session_alone : IsSession p greeting start limit Logs left left' written written' end
    session_alone = session_with p greeting start limit (λ log. Logs log × Leads) Logs left left' written written' end (λ log made. made.0) s

    pub session_leads : Leads
    session_leads = s.logged.1

-- a session without failures
module _ {State Request : Type 0} (p : Protocol State Request DeskCall Answer) where
  pub session_replied : (greeting : List ℕ) (start : State) (limit : ℕ) (shares shares' : List Share) (left left' written written' : Option (List ℕ)) (end : SessionEnd)
      → HaveNoFailure shares' → IsSession p greeting start limit (IsLog shares shares') left left' written written' end
      → IsSession p greeting start limit (IsRepliedLog shares shares') left left' written written' end
  session_replied greeting start limit shares shares' left left' written written' end none s =
      session_with p greeting start limit (IsLog shares shares') (IsRepliedLog shares shares') left left' written written' end (λ log made. logs_without_failure_are_replied shares shares' log made none) s
