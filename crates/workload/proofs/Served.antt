-- What a workload's session writes and leaves.
use Rattle.std.proofs.Common.{◌≡◌, ◌≢◌, ℕ, List, [], ◌∷◌, map, Option, Some, subst}
use Rattle.std.specs.List.{All}
use Rattle.wire_io.specs.declared.ends.SessionEnd.{SessionEnd}
use Rattle.wire_io.specs.declared.ends.SessionEnd.TheVariants.{ReadFault, WriteFault, NoMemory}
use Rattle.accounts_file.specs.Hosts.{Hosts, plain_hosts}
use Rattle.account_ledger.specs.States.{State}
use Rattle.desk.specs.Shares.{Share}
use Rattle.desk.specs.Logs.{IsLog}
use Rattle.plain_desk.specs.Continuing.{EachContinues}
use Rattle.plain_desk.specs.Owning.{AreOwned, share_of}
use Rattle.sessions.specs.declared.front.Front.TheVariants.{Policy}
use Rattle.sessions.specs.Fronts.{IsSessionOf}
use Rattle.owner_sessions.specs.Laws.{IsGiven}
use Rattle.owner_sessions.specs.Plain.{NeverFails, plain_share}
use Rattle.owner_sessions.proofs.Alone.{all_undisturbed}
use Rattle.owner_sessions.proofs.Sessions.{inputs_decide_sessions}
use Rattle.workload.specs.Accounts.{limits}
use Rattle.workload.specs.Summaries.{session_on}
use Rattle.workload.proofs.Desks.{opening_told}

-- the session of these bytes wrote this and left these shares
pub record IsServed (bytes written : List ℕ) (shares : List Share) : Type 0 where
  pub text : written ≡ (session_on bytes).text
  pub world : shares ≡ (session_on bytes).world

-- a session that reads and writes memory, if memory lasted
module _ (hosts : Hosts) (states states' : List State) (bytes input before written : List ℕ) (left' : Option (List ℕ)) (end : SessionEnd)
    (table : hosts ≡ plain_hosts limits) (fresh : map share_of states ≡ plain_share limits ∷ []) (read : input ≡ bytes) (empty : before ≡ []) where
  plain_session : IsSessionOf hosts Policy (IsLog (map share_of states) (map share_of states')) (Some input) left' (Some before) (Some written) end
      → IsSessionOf (plain_hosts limits) Policy (IsLog (plain_share limits ∷ []) (map share_of states')) (Some bytes) left' (Some []) (Some written) end
  plain_session session =
      subst (λ (h : Hosts). IsSessionOf h Policy (IsLog (plain_share limits ∷ []) (map share_of states')) (Some bytes) left' (Some []) (Some written) end) table
      (subst (λ (x : List Share). IsSessionOf hosts Policy (IsLog x (map share_of states')) (Some bytes) left' (Some []) (Some written) end) fresh
      (subst (λ (l : List ℕ). IsSessionOf hosts Policy (IsLog (map share_of states) (map share_of states')) (Some l) left' (Some []) (Some written) end) read
      (subst (λ (l : List ℕ). IsSessionOf hosts Policy (IsLog (map share_of states) (map share_of states')) (Some input) left' (Some l) (Some written) end) empty session)))

  pub served : All NeverFails states → EachContinues states states' → AreOwned states'
      → IsSessionOf hosts Policy (IsLog (map share_of states) (map share_of states')) (Some input) left' (Some before) (Some written) end
      → end ≢ ReadFault → end ≢ WriteFault → end ≢ NoMemory → IsServed bytes written (map share_of states')
  unfolding session_on
  served never on owned session reads writes memory =
      let given : IsGiven (plain_hosts limits) Policy (plain_share limits ∷ []) (map share_of states') bytes (Some []) (Some written) end =
      inputs_decide_sessions (plain_hosts limits) Policy (plain_share limits ∷ []) (map share_of states') (Some bytes) left' (Some []) (Some written) end
      (plain_session session) opening_told (all_undisturbed states states' never on owned) (reads, writes) memory in
      record { text = given.appended; world = given.left }
