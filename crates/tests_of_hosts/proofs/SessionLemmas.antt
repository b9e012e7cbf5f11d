-- What the log of a session says of the histories of a host's accounts.
use Rattle.std.proofs.Common.{ℕ, true, false, List, [], ◌∷◌, ◌++◌, Option, refl, sym, append-nil, ◌∙◌}
use Rattle.account_core.specs.declared.calls.Call.{Call}
use Rattle.account_core.specs.declared.calls.Entry.{Entry}
use Rattle.account_core.specs.History.{Answer, replied, store, journal_full, entry_of}
use Rattle.account_core.specs.Histories.{Begins, Origin}
use Rattle.account_core.specs.Logs.{Logged, Sits}
use Rattle.account_core.proofs.Histories.{begins_along}
use Rattle.accounts_file.specs.Hosts.{Hosts}
use Rattle.desk.specs.Asking.{DeskCall}
use Rattle.desk.specs.Logs.{IsLog, IsRepliedLog, PartsAreOwnEntries}
use Rattle.desk.specs.Shares.{Share}
use Rattle.sessions.specs.Fronts.{IsSessionOf}
use Rattle.sessions.specs.declared.front.Front.{Front}
use Rattle.sessions.specs.declared.front.Front.TheVariants.{Imap, ImapAs, Policy}
use Rattle.wire_io.specs.declared.ends.SessionEnd.{SessionEnd}
use Rattle.tests_of_hosts.specs.Headline.{IsPlaced, IsRepliedAndPlaced}

sits_begins : (origin : Origin) (number : ℕ) (entries : List Entry) (call : Call) (answer : Answer) (entries' : List Entry) → Sits origin number entries call answer entries' → Begins entries entries'
sits_begins origin number entries call (replied given) entries' (room, reply, is) = (entry_of number call false ∷ [], sym is)
sits_begins origin number entries call store entries' (room, is) = (entry_of number call true ∷ [], sym is)
sits_begins origin number entries call journal_full entries' (full, is) = ([], append-nil entries ∙ sym is)

logged_begins : (Others : List Entry → Type 0) (origin : Origin) (number : ℕ) (seen : List Entry) (log : List (Call × Answer)) (seen' : List Entry)
    → Logged Others origin number seen log seen' → Begins seen seen'
logged_begins Others origin number seen [] seen' (others, apart, is) = (others, sym is)
logged_begins Others origin number seen ((call, answer) ∷ log) seen' (others, next, apart, sits, rest) =
    begins_along seen (seen ++ others) seen' (others, refl)
    (begins_along (seen ++ others) next seen' (sits_begins origin number (seen ++ others) call answer next sits) (logged_begins Others origin number next log seen' rest))

placed : PartsAreOwnEntries → (shares shares' : List Share) (log : List (DeskCall × Answer)) → IsLog shares shares' log → IsPlaced shares shares' log
placed own shares shares' log logged = record {
  logged = logged;
  begins = λ account. logged_begins _ _ _ _ _ _ (logged.each account).logged;
  once = own shares shares' log logged;
}

with_logs : (hosts : Hosts) (front : Front) (L M : List (DeskCall × Answer) → Type 0) (left left' written written' : Option (List ℕ)) (end : SessionEnd)
    → ((log : List (DeskCall × Answer)) → L log → M log) → IsSessionOf hosts front L left left' written written' end → IsSessionOf hosts front M left left' written written' end
with_logs hosts Imap L M left left' written written' end f s =
    record { taken = s.taken; log = s.log; text = s.text; consumed = s.consumed; appended = s.appended; logged = f s.log s.logged; session = s.session }
with_logs hosts (ImapAs n) L M left left' written written' end f s =
    record { taken = s.taken; log = s.log; text = s.text; consumed = s.consumed; appended = s.appended; logged = f s.log s.logged; session = s.session }
with_logs hosts Policy L M left left' written written' end f s =
    record { taken = s.taken; log = s.log; text = s.text; consumed = s.consumed; appended = s.appended; logged = f s.log s.logged; session = s.session }

pub session_placed : PartsAreOwnEntries → (hosts : Hosts) (front : Front) (shares shares' : List Share) (left left' written written' : Option (List ℕ)) (end : SessionEnd)
    → IsSessionOf hosts front (IsLog shares shares') left left' written written' end → IsSessionOf hosts front (IsPlaced shares shares') left left' written written' end
session_placed own hosts front shares shares' left left' written written' end =
    with_logs hosts front (IsLog shares shares') (IsPlaced shares shares') left left' written written' end (placed own shares shares')

pub session_replied : PartsAreOwnEntries → (hosts : Hosts) (front : Front) (shares shares' : List Share) (left left' written written' : Option (List ℕ)) (end : SessionEnd)
    → IsSessionOf hosts front (IsRepliedLog shares shares') left left' written written' end → IsSessionOf hosts front (IsRepliedAndPlaced shares shares') left left' written written' end
session_replied own hosts front shares shares' left left' written written' end =
    with_logs hosts front (IsRepliedLog shares shares') (IsRepliedAndPlaced shares shares') left left' written written' end (λ log r. (placed own shares shares' log r.0, r.1))
