-- Accounts with one owner, as a world. The world is the owner's shares of the accounts, which only
-- the owner's calls change.
use Rattle.std.specs.Prelude.{◌≡◌, false, ℕ, Bool, nat_le, List, [], ◌∷◌, ◌++◌, length, set, Option, None, Some, unwrap_or, if◌then◌else◌}
use Rattle.wire_io.specs.Transcript.{Answers, Transcript, transcript}
use Rattle.account_core.specs.declared.calls.Call.{Call}
use Rattle.account_core.specs.Account.{Account}
use Rattle.account_core.specs.History.{Answer, replied, journal_full, reply, entry_of}
use Rattle.account_core.specs.Legality.{fault_count}
use Rattle.accounts_file.specs.Hosts.{Hosts}
use Rattle.desk.specs.Asking.{DeskCall}
use Rattle.desk.specs.Shares.{Share, mine, share_at}
use Rattle.front_core.specs.Desks.{input_limit}
use Rattle.imap_front.specs.Imap.{imap}
use Rattle.policy_front.specs.Policy.{policy}
use Rattle.sessions.specs.declared.front.Front.{Front}
use Rattle.sessions.specs.declared.front.Front.TheVariants.{Imap, ImapAs, Policy}

-- an account without mailboxes
abbrev pub no_account : Account
no_account = record {
  limits = [];
  mailboxes = [];
  messages = [];
  deliveries = 0;
  epoch = 0;
  generation = 0;
}

abbrev pub opening_in : Share → Account
opening_in share = unwrap_or share.origin.account no_account

abbrev pub is_full : Share → Bool
is_full share = nat_le share.origin.journal (length share.seen)

-- The answer to a call on the account of a share. Each call becomes an entry until the journal is
-- full.
abbrev pub answer_in : Share → Call → Answer
answer_in share call = if is_full share then journal_full
    else replied (reply share.origin.roots (opening_in share) share.seen call)

-- the share after the call
abbrev pub share_after : Share → Call → Share
share_after share call = if is_full share then share
    else record share { seen = share.seen ++ entry_of share.caller call false ∷ [] }

abbrev pub owners : Answers (List Share) DeskCall Answer
owners = record {
  answer = λ shares asked. answer_in (share_at shares asked.account) asked.call;
  after = λ shares asked. set shares asked.account
      (share_after (share_at shares asked.account) asked.call);
}

-- the session of the front that an input gives, over accounts of the owner of these shares; it
-- leaves the owner's shares as they are then
abbrev pub session_over : Hosts → Front → List Share → List ℕ → Transcript (List Share)
session_over hosts Imap shares input =
    transcript (imap hosts) owners input_limit None shares input
session_over hosts (ImapAs account) shares input =
    transcript (imap hosts) owners input_limit (Some account) shares input
session_over hosts Policy shares input =
    transcript (policy hosts) owners input_limit None shares input

-- the opening account is told
pub record HasAccount (share : Share) : Type 0 where
  pub account : Account
  pub is_told : share.origin.account ≡ Some account

-- the history has the owner's entries and no others, and no entry has fault
pub record IsUndisturbed (share : Share) : Type 0 where
  pub whole : mine share ≡ share.seen
  pub no_fault : fault_count share.seen ≡ 0
