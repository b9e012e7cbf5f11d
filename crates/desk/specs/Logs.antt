-- The log of a desk: the calls that it was asked, one after another, with their answers.
use Rattle.std.specs.Prelude.{◌≡◌, ℕ, ◌==◌, List, [], ◌∷◌, ◌++◌, length, map, set, Result, Ok, Err}
use Rattle.std.specs.List.{All, filter}
use Rattle.account_core.specs.declared.calls.Call.{Call}
use Rattle.account_core.specs.declared.calls.Reply.{Reply}
use Rattle.account_core.specs.declared.calls.StepError.{StepError}
use Rattle.account_core.specs.declared.calls.StepError.TheVariants.{NoMemory, Store, JournalFull}
use Rattle.account_core.specs.History.{Answer, replied, store, journal_full}
use Rattle.account_core.specs.Logs.{AreOthers, Logged, entries_of}
use Rattle.desk.specs.Shares.{Share, mine, share_at, AreWithinJournals, HaveNoFailure}
use Rattle.desk.specs.Asking.{Asks, DeskCall, MayAsk}

-- the calls of a log on the account of this number, with their answers
abbrev pub part : ℕ → List (DeskCall × Answer) → List (Call × Answer)
part account log =
    map (λ entry. (entry.0.call, entry.1)) (filter (λ entry. entry.0.account == account) log)

-- These calls on one account, with their answers, take the desk's share of it from the first to the
-- second. Each call has its own place among the entries that were seen.
pub record IsPart (share share' : Share) (log : List (Call × Answer)) : Type 0 where
  pub origin : share'.origin ≡ share.origin
  pub caller : share'.caller ≡ share.caller
  pub logged : Logged (AreOthers share.caller) share.origin share.caller share.seen log share'.seen

-- These calls, with their answers, take the desk's shares from the first list to the second.
pub record IsLog (shares shares' : List Share) (log : List (DeskCall × Answer)) : Type 0 where
  pub count : length shares' ≡ length shares
  pub asked : All (λ entry. MayAsk (length shares) entry.0) log
  pub each : (account : ℕ)
      → IsPart (share_at shares account) (share_at shares' account) (part account log)

-- what the log has for a call with this result; a call for which memory ran out is not logged
abbrev pub log_of : DeskCall → Result Reply StepError → List (DeskCall × Answer)
log_of asked (Ok given) = (asked, replied given) ∷ []
log_of asked (Err Store) = (asked, store) ∷ []
log_of asked (Err (JournalFull most)) = (asked, journal_full) ∷ []
log_of asked (Err NoMemory) = []

-- each call got a reply of the account machine: no store failed, and no history was full
abbrev pub AreReplied : {Asked : Type 0} → List (Asked × Answer) → Type 0
AreReplied [] = Unit {0}
AreReplied ((asked, replied given) ∷ log) = AreReplied log
AreReplied ((asked, store) ∷ log) = ⊥
AreReplied ((asked, journal_full) ∷ log) = ⊥

-- These calls take the desk's shares from the first list to the second, and each got the machine's
-- reply at its own place in the account's history.
abbrev pub IsRepliedLog : (shares shares' : List Share) → List (DeskCall × Answer) → Type 0
IsRepliedLog shares shares' log = IsLog shares shares' log × AreReplied log

-- A call that leaves the shares of all other accounts as they are is a log.
abbrev pub CallsAreLogs : Type 0
CallsAreLogs =
    (shares shares' : List Share) (asked : DeskCall) (result : Result Reply StepError)
    → MayAsk (length shares) asked
    → Asks (share_at shares asked.account) asked.call result (share_at shares' asked.account)
    → shares' ≡ set shares asked.account (share_at shares' asked.account)
    → IsLog shares shares' (log_of asked result)

-- Two logs, one after the other, are one log.
abbrev pub LogsJoin : Type 0
LogsJoin =
    (first between last : List Share) (log more : List (DeskCall × Answer))
    → IsLog first between log → IsLog between last more → IsLog first last (log ++ more)

-- The desk's own entries of each account grow by those of the log's calls on it, and by no others.
abbrev pub PartsAreOwnEntries : Type 0
PartsAreOwnEntries =
    (shares shares' : List Share) (log : List (DeskCall × Answer)) → IsLog shares shares' log
    → (account : ℕ)
    → mine (share_at shares' account)
    ≡ mine (share_at shares account)
    ++ entries_of (share_at shares account).caller (part account log)

-- If a call of the log found the history of its account full, no later call on that account has an
-- entry, and the desk has seen as many entries as the journal takes.
abbrev pub FullHistoriesStay : Type 0
FullHistoriesStay =
    (shares shares' : List Share) (log : List (DeskCall × Answer)) → IsLog shares shares' log
    → AreWithinJournals shares'
    → (account : ℕ) (before after : List (Call × Answer)) (call : Call)
    → part account log ≡ before ++ (call, journal_full) ∷ after
    → (entries_of (share_at shares account).caller after ≡ [])
    × (length (share_at shares' account).seen ≡ (share_at shares' account).origin.journal)

-- If no entry that was seen by the end has fault, and no history is full then, each call of the log
-- got the machine's reply.
abbrev pub LogsWithoutFailureAreReplied : Type 0
LogsWithoutFailureAreReplied =
    (shares shares' : List Share) (log : List (DeskCall × Answer)) → IsLog shares shares' log
    → HaveNoFailure shares' → IsRepliedLog shares shares' log
