-- Logs of calls: how the calls of one caller, with their answers, sit in a history.
use Rattle.std.specs.Prelude.{◌≡◌, ◌≢◌, ◌<◌, ℕ, true, false, List, [], ◌∷◌, ◌++◌, length, Result, Ok, Err, IfSome}
use Rattle.account_core.specs.declared.calls.Call.{Call}
use Rattle.account_core.specs.declared.calls.Reply.{Reply}
use Rattle.account_core.specs.declared.calls.Entry.{Entry}
use Rattle.account_core.specs.declared.calls.StepError.{StepError}
use Rattle.account_core.specs.declared.calls.StepError.TheVariants.{NoMemory, Store, JournalFull}
use Rattle.account_core.specs.Forms.{HasForm}
use Rattle.account_core.specs.History.{Answer, replied, store, journal_full, reply, entry_of}
use Rattle.account_core.specs.Histories.{Origin, calls_by}

-- A reply to a call after these entries. If the opening account is known, it is the machine's
-- reply. It always has the form of a reply to the call, with roots that exist.
pub record IsReply (origin : Origin) (entries : List Entry) (call : Call)
    (given : Reply) : Type 0 where
  pub machine : IfSome origin.account (λ opening. given ≡ reply origin.roots opening entries call)
  pub mailboxes : List (List ℕ)
  pub form : HasForm origin.roots mailboxes call given

-- The call of a caller with this number comes right after these entries, gets this answer, and
-- leads to the entries that follow: the call's entry is the next one if there is room, and
-- otherwise the history is full.
abbrev pub Sits : Origin → ℕ → List Entry → Call → Answer → List Entry → Type 0
Sits origin number entries call (replied given) entries' =
    (length entries < origin.journal) × IsReply origin entries call given
    × (entries' ≡ entries ++ entry_of number call false ∷ [])
Sits origin number entries call store entries' =
    (length entries < origin.journal) × (entries' ≡ entries ++ entry_of number call true ∷ [])
Sits origin number entries call journal_full entries' =
    (length entries ≡ origin.journal) × (entries' ≡ entries)

-- no entry is the caller's
abbrev pub AreOthers : ℕ → List Entry → Type 0
AreOthers number [] = Unit {0}
AreOthers number (entry ∷ entries) = (entry.caller ≢ number) × AreOthers number entries

-- there is no entry
abbrev pub AreNone : List Entry → Type 0
AreNone entries = entries ≡ []

-- The caller has seen the entries seen of the history before the calls of this log, and seen' after
-- them. Before each call, and after the last, there may be entries that meet Others.
abbrev pub Logged : (List Entry → Type 0) → Origin → ℕ → List Entry → List (Call × Answer)
    → List Entry → Type 0
Logged Others origin number seen [] seen' =
    (others : List Entry) × Others others × (seen' ≡ seen ++ others)
Logged Others origin number seen ((call, answer) ∷ log) seen' =
    (others next : List Entry) × Others others
    × Sits origin number (seen ++ others) call answer next
    × Logged Others origin number next log seen'

-- the entries of a caller's calls; a call that a full history refused has none
abbrev pub entries_of : ℕ → List (Call × Answer) → List Entry
entries_of number [] = []
entries_of number ((call, replied given) ∷ log) = entry_of number call false ∷ entries_of number log
entries_of number ((call, store) ∷ log) = entry_of number call true ∷ entries_of number log
entries_of number ((call, journal_full) ∷ log) = entries_of number log

-- what a call does to the history, by its result
abbrev pub Serves : Origin → ℕ → List Entry → Call → Result Reply StepError → List Entry → Type 0
Serves origin number seen call (Ok given) seen' =
    Sits origin number seen call (replied given) seen'
Serves origin number seen call (Err Store) seen' = Sits origin number seen call store seen'
Serves origin number seen call (Err (JournalFull most)) seen' =
    (most ≡ origin.journal) × Sits origin number seen call journal_full seen'
Serves origin number seen call (Err NoMemory) seen' = seen' ≡ seen

-- Two logs, one after the other, are one log, and its entries are those of both.
abbrev pub LogsJoin : Type 0
LogsJoin =
    (origin : Origin) (number : ℕ) (first between last : List Entry)
    (log more : List (Call × Answer))
    → Logged (AreOthers number) origin number first log between
    → Logged (AreOthers number) origin number between more last
    → Logged (AreOthers number) origin number first (log ++ more) last
    × (entries_of number (log ++ more) ≡ entries_of number log ++ entries_of number more)

-- The caller's own entries, among those that it has seen, grow by the entries of its log, and by no
-- other.
abbrev pub LogsAreTheCallersOwn : Type 0
LogsAreTheCallersOwn =
    (origin : Origin) (number : ℕ) (seen seen' : List Entry) (log : List (Call × Answer))
    → Logged (AreOthers number) origin number seen log seen'
    → calls_by number seen' ≡ calls_by number seen ++ entries_of number log
