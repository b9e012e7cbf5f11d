-- What a workload comes to: a session of the policy protocol over one account that nobody else
-- asks, how its answers are counted, and what the account uses after it.
use Rattle.std.specs.Prelude.{ℕ, ◌==◌, Bool, if◌then◌else◌, List, [], ◌∷◌, nat_eq, bytes_eq, codes}
use Rattle.std.specs.List.{count_by, slice_split, starts_with}
use Rattle.quota_units.specs.declared.totals.Totals.{Totals}
use Rattle.wire_io.specs.Transcript.{Transcript}
use Rattle.accounts_file.specs.Hosts.{plain_hosts}
use Rattle.account_core.specs.History.{replay}
use Rattle.account_ledger.specs.Stores.{usage_at}
use Rattle.desk.specs.Shares.{Share, share_at}
use Rattle.sessions.specs.declared.front.Front.TheVariants.{Policy}
use Rattle.owner_sessions.specs.Owner.{opening_in, session_over}
use Rattle.owner_sessions.specs.Plain.{plain_share}
use Rattle.workload.specs.Accounts.{limits}
use Rattle.workload.specs.Requests.{input}
use Rattle.workload.specs.declared.summary.Summary.{Summary}

-- the session that these bytes give, over the account of the plain table with these limits, which
-- is empty at its start
unfoldable pub session_on : List ℕ → Transcript (List Share)
session_on bytes = session_over (plain_hosts limits) Policy (plain_share limits ∷ []) bytes

-- the lines of a text, which line feeds, byte 10, end
abbrev pub lines_in : List ℕ → List (List ℕ)
lines_in text = slice_split (λ b. b == 10) text

-- how many lines of a text pass a test
abbrev pub lines_that : (List ℕ → Bool) → List ℕ → ℕ
lines_that test text = count_by test (lines_in text)

abbrev pub if_so : Bool → ℕ
if_so test = if test then 1 else 0

-- a delivery was accepted
abbrev pub is_delivered : List ℕ → Bool
is_delivered line = starts_with nat_eq line (codes "action=delivered ")

-- a delivery was refused
abbrev pub is_refused : List ℕ → Bool
is_refused line = starts_with nat_eq line (codes "action=over ")

-- a message was removed
abbrev pub is_removal : List ℕ → Bool
is_removal line = bytes_eq line (codes "action=done")

-- a message to be removed was not there
abbrev pub is_missing : List ℕ → Bool
is_missing line = bytes_eq line (codes "action=no-message")

-- the usage of root 0 of an account after what the owner has seen
abbrev pub usage_of : Share → Totals
usage_of share =
    usage_at share.origin.roots 0 (replay share.origin.roots (opening_in share) share.seen)

-- the summary of `n` requests
unfoldable pub summary : ℕ → Summary
summary n =
    let session = session_on (input n) in
    let usage = usage_of (share_at session.world 0) in record {
      requests = n;
      delivered = lines_that is_delivered session.text;
      refused = lines_that is_refused session.text;
      removed = lines_that is_removal session.text;
      missing = lines_that is_missing session.text;
      octets = usage.octets;
      messages = usage.count;
    }
