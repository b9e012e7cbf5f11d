-- A session over accounts that their owner alone asks is the one that its input gives.
use Rattle.std.proofs.Common.{◌≡◌, ◌≢◌, ℕ, List, [], ◌++◌, Option, Some, None, IfSome, subst}
use Rattle.std.specs.Io.KnownBytes.{Appends}
use Rattle.std.specs.List.{All}
use Rattle.wire_io.specs.declared.ends.SessionEnd.{SessionEnd}
use Rattle.wire_io.specs.declared.ends.SessionEnd.TheVariants.{NoMemory}
use Rattle.wire_io.specs.Protocol.{Protocol, IsFilled}
use Rattle.wire_io.specs.Serving.{IsSession}
use Rattle.wire_io.specs.Session.{IsQuiet}
use Rattle.wire_io.specs.Transcript.{transcript}
use Rattle.wire_io.proofs.Transcribing.{session_decided}
use Rattle.accounts_file.specs.Hosts.{Hosts}
use Rattle.account_core.specs.History.{Answer}
use Rattle.desk.specs.Asking.{DeskCall}
use Rattle.desk.specs.Shares.{Share}
use Rattle.desk.specs.Logs.{IsLog}
use Rattle.front_core.specs.Desks.{input_limit}
use Rattle.imap_front.specs.Filled.{imap_filled}
use Rattle.imap_front.specs.Imap.{imap}
use Rattle.imap_front.specs.Texts.{greeting}
use Rattle.policy_front.specs.Policy.{policy}
use Rattle.policy_front.specs.Filled.{policy_filled}
use Rattle.sessions.specs.declared.front.Front.{Front}
use Rattle.sessions.specs.declared.front.Front.TheVariants.{Imap, ImapAs, Policy}
use Rattle.owner_sessions.specs.Owner.{HasAccount, IsUndisturbed, owners}
use Rattle.owner_sessions.specs.Laws.{IsGiven, InputsDecideSessions}
use Rattle.owner_sessions.proofs.Alone.{alone_answers}

-- of any protocol: the end, all that is written, and the shares
module _ {State Request : Type 0} (p : Protocol State Request DeskCall Answer) (filled : IsFilled p) (first : List ℕ) (start : State) (shares shares' : List Share) (written written' : Option (List ℕ)) (end : SessionEnd)
    (has : All HasAccount shares) (alone : All IsUndisturbed shares') (quiet : IsQuiet end) (some : end ≢ NoMemory) where
  abbrev IsOutput : List ℕ → Type 0
  IsOutput input = (end ≡ (transcript p owners input_limit start shares input).end) × Appends written written' (first ++ (transcript p owners input_limit start shares input).text)
      × (shares' ≡ (transcript p owners input_limit start shares input).world)

  pub input_decides : (left left' : Option (List ℕ)) → IsSession p first start input_limit (IsLog shares shares') left left' written written' end → IfSome left IsOutput
  input_decides None left' s = tt
  input_decides (Some input) None s = absurd s.consumed
  input_decides (Some input) (Some rest) s =
      let is = session_decided p owners input_limit filled first start input s.taken rest s.log s.text end shares shares'
      s.consumed s.session (alone_answers shares shares' s.log s.logged has alone) quiet some in
      (is.1, subst (Appends written written') is.0 s.appended, is.2)

-- a session of each front
pub inputs_decide_sessions : InputsDecideSessions
inputs_decide_sessions hosts front shares shares' None left' written written' end s has alone quiet some = tt
inputs_decide_sessions hosts Imap shares shares' (Some input) left' written written' end s has alone quiet some =
    let out = input_decides (imap hosts) (imap_filled hosts) (greeting None) None shares shares' written written' end has alone quiet some (Some input) left' s in
    record { end_is = out.0; appended = out.1; left = out.2 }
inputs_decide_sessions hosts (ImapAs account) shares shares' (Some input) left' written written' end s has alone quiet some =
    let out = input_decides (imap hosts) (imap_filled hosts) (greeting (Some account)) (Some account) shares shares' written written' end has alone quiet some (Some input) left' s in
    record { end_is = out.0; appended = out.1; left = out.2 }
inputs_decide_sessions hosts Policy shares shares' (Some input) left' written written' end s has alone quiet some =
    let out = input_decides (policy hosts) (policy_filled hosts) [] None shares shares' written written' end has alone quiet some (Some input) left' s in
    record { end_is = out.0; appended = out.1; left = out.2 }
