-- What the session of an input is, if nothing fails.
use Rattle.std.specs.Prelude.{◌≡◌, ◌≢◌, ℕ, List, ◌++◌, Option, IfSome}
use Rattle.std.specs.Io.KnownBytes.{Appends}
use Rattle.std.specs.List.{All}
use Rattle.wire_io.specs.declared.ends.SessionEnd.{SessionEnd}
use Rattle.wire_io.specs.declared.ends.SessionEnd.TheVariants.{NoMemory}
use Rattle.wire_io.specs.Session.{IsQuiet}
use Rattle.accounts_file.specs.Hosts.{Hosts}
use Rattle.desk.specs.Shares.{Share}
use Rattle.desk.specs.Logs.{IsLog}
use Rattle.sessions.specs.declared.front.Front.{Front}
use Rattle.sessions.specs.Fronts.{greeting_of, IsSessionOf}
use Rattle.owner_sessions.specs.Owner.{HasAccount, IsUndisturbed, session_over}

-- this is the end of the session that the input gives, this was written, and these are the owner's
-- shares after it
pub record IsGiven (hosts : Hosts) (front : Front) (shares shares' : List Share) (input : List ℕ)
    (written written' : Option (List ℕ)) (end : SessionEnd) : Type 0 where
  pub end_is : end ≡ (session_over hosts front shares input).end
  pub appended : Appends written written'
      (greeting_of front ++ (session_over hosts front shares input).text)
  pub left : shares' ≡ (session_over hosts front shares input).world

-- A session over accounts that their owner alone asks, and whose keepers did not fail, is the one
-- that its input gives, unless a read or a write fails or memory runs out.
abbrev pub InputsDecideSessions : Type 0
InputsDecideSessions = (hosts : Hosts) (front : Front) (shares shares' : List Share)
    (left left' written written' : Option (List ℕ)) (end : SessionEnd)
    → IsSessionOf hosts front (IsLog shares shares') left left' written written' end
    → All HasAccount shares → All IsUndisturbed shares' → IsQuiet end → end ≢ NoMemory
    → IfSome left (λ input. IsGiven hosts front shares shares' input written written' end)
