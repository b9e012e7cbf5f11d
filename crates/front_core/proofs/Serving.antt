-- A request that was taken from a feed, and its answer.
use Rattle.std.proofs.Common.{◌≡◌, ◌<◌, ◌+◌, ℕ, suc, List, [], ◌∷◌, ◌++◌, length, ap, arith, Option, Result, Ok, Err, refl, sym, subst, inl, inr}
use Rattle.std.specs.Io.KnownBytes.{Appends}
use Rattle.wire_io.specs.declared.ends.After.{After}
use Rattle.wire_io.specs.declared.ends.SessionEnd.{SessionEnd}
use Rattle.wire_io.specs.declared.ends.SessionEnd.TheVariants.{WriteFault, NoMemory}
use Rattle.wire_io.specs.Work.{Work, Does, AsksFirst}
use Rattle.wire_io.specs.Protocol.{Protocol, IsFilled}
use Rattle.wire_io.specs.Sending.{AppendsPart}
use Rattle.wire_io.specs.Requests.{TakesRequest, ServesRequest}
use Rattle.wire_io.proofs.Requests.{take_answered, take_abandoned, serve_sent, serve_cut, serve_ended}
use Rattle.wire_io.proofs.Cuts.{some_byte}
use Rattle.account_core.specs.History.{Answer}
use Rattle.accounts_file.specs.Hosts.{Hosts}
use Rattle.desk.specs.Shares.{Share}
use Rattle.desk.specs.Asking.{DeskCall}
use Rattle.desk.specs.Logs.{IsLog}
use Rattle.desk.proofs.Logging.{log_nothing}
use Rattle.front_core.specs.Desks.{IsDeskOf}
use Rattle.front_core.specs.Taking.{Takes}
use Rattle.front_core.specs.Works.{DoesWork, LeavesWork}
use Rattle.front_core.proofs.Leading.{desk_after}

module _ {State Request Taken : Type 0} (p : Protocol State Request DeskCall Answer) (filled : IsFilled p) (limit : ℕ) (request_of : Taken → Request) (state state' : State) (shares shares' : List Share) (Leads : Type 0) (leads : Leads) (left left' written sent : Option (List ℕ)) (waiting waiting' : List ℕ) (taken taken' at at' : ℕ) where
  abbrev Logs : List (DeskCall × Answer) → Type 0
  Logs log = IsLog shares shares' log × Leads

  module _ (own : Taken) (t : Takes p state limit request_of left left' written sent waiting waiting' taken taken' at at' (Ok own)) where
    -- the answer to the request was made
    answered : (text : List ℕ) (after : After) → DoesWork shares shares' (p.work state (request_of own)) text after → state' ≡ p.next state (request_of own)
        → TakesRequest p limit state state' Logs left left' waiting waiting' taken taken' at at' t.prompted text (Ok after)
    answered text after (log, does, made) is =
        take_answered p limit state state' Logs left left' waiting waiting' taken taken' at at' t.prompted t.given t.moves.hands t.moves.counts t.comes.1 text after
        (record { request = request_of own; log = log; spelled = t.comes.0; worked = does; logged = (made, leads); next_is = is })

    -- and it was written
    pub answer_sent : (written' : Option (List ℕ)) (text : List ℕ) (after : After) → DoesWork shares shares' (p.work state (request_of own)) text after → state' ≡ p.next state (request_of own) → Appends sent written' text
        → ServesRequest p limit state state' Logs left left' written written' waiting waiting' taken taken' at at' (Ok after)
    answer_sent written' text after does is appended =
        serve_sent p limit state state' Logs left left' waiting waiting' taken taken' at at' t.prompted written sent written' t.moves.appended text after (answered text after does is) appended

    -- or a prefix of it was
    pub answer_cut : (written' : Option (List ℕ)) (text : List ℕ) (after : After) → DoesWork shares shares' (p.work state (request_of own)) text after → state' ≡ p.next state (request_of own) → AppendsPart sent written' text
        → ServesRequest p limit state state' Logs left left' written written' waiting waiting' taken taken' at at' (Err WriteFault)
    answer_cut written' text after does is part =
        serve_cut p limit state state' Logs left left' waiting waiting' taken taken' at at' t.prompted written sent written' t.moves.appended text after (answered text after does is) part

    -- or memory ran out for it
    pub answer_abandoned : LeavesWork shares shares' (p.work state (request_of own))
        → ServesRequest p limit state state' Logs left left' written sent waiting waiting' taken taken' at at' (Err NoMemory)
    answer_abandoned (log, made, begins) =
        serve_ended p limit state state' Logs left left' waiting waiting' taken taken' at at' t.prompted written sent sent t.moves.appended [] NoMemory
        (take_abandoned p limit state state' Logs left left' waiting waiting' taken taken' at at' t.prompted t.given t.moves.hands t.moves.counts t.comes.1 [] (inr (request_of own, t.comes.0))
        (record { log = log; logged = (made, leads); begun = inr (request_of own, t.comes.0, begins) }))

    -- a request has a byte
    pub taken_more : at < at'
    taken_more =
        let byte = some_byte p filled state t.given (request_of own) t.comes.0 in
        let sized : length t.given ≡ suc (length byte.1) = ap length byte.2 in
        omega (arith, t.moves.counts, sized)

  -- the session ended within the request
  pub not_taken : (end : SessionEnd) (result : Result After SessionEnd) → result ≡ Err end → IsLog shares shares' [] → Takes p state limit request_of left left' written sent waiting waiting' taken taken' at at' (Err end)
      → ServesRequest p limit state state' Logs left left' written sent waiting waiting' taken taken' at at' result
  not_taken end result is nothing t = subst (λ r. ServesRequest p limit state state' Logs left left' written sent waiting waiting' taken taken' at at' r) (sym is) (record {
    given = t.given;
    log = [];
    text = t.prompted;
    hands = t.moves.hands;
    counts = t.moves.counts;
    logged = (nothing, leads);
    appended = t.moves.appended;
    served = t.comes;
  })

-- the desk that a request leaves has the table's accounts
module _ (hosts : Hosts) (shares shares' : List Share) (work : Work DeskCall Answer) (desk : IsDeskOf hosts shares) where
  pub desk_of_work : (text : List ℕ) (after : After) → DoesWork shares shares' work text after → IsDeskOf hosts shares'
  desk_of_work text after (log, does, made) = desk_after hosts shares shares' log desk made

  pub desk_left : LeavesWork shares shares' work → IsDeskOf hosts shares'
  desk_left (log, made, begins) = desk_after hosts shares shares' log desk made
