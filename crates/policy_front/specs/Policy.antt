-- The policy protocol over the accounts of a table: what is done for a request, and how it is
-- answered.
use Rattle.std.specs.Prelude.{ℕ, if◌then◌else◌, List, [], length, codes, Option, Some, None}
use Rattle.std.specs.Option.{option_and_then}
use Rattle.wire_io.specs.Work.{Work, ask, say}
use Rattle.wire_io.specs.Protocol.{Protocol, HasOneCut}
use Rattle.wire_io.specs.declared.ends.After.TheVariants.{Open, Closing, Stopping}
use Rattle.quota_units.specs.declared.flags.Flags.{Flags}
use Rattle.quota_roots.specs.MailboxNames.{canonical}
use Rattle.accounts_file.specs.Hosts.{Hosts, named, receiver}
use Rattle.account_core.specs.declared.calls.Call.{Call}
use Rattle.account_core.specs.declared.calls.Call.TheVariants.{Check as CheckCall, Deliver as DeliverCall, Remove as RemoveCall, Mark as MarkCall, Move as MoveCall}
use Rattle.account_core.specs.History.{Answer}
use Rattle.desk.specs.Asking.{DeskCall}
use Rattle.front_core.specs.Works.{is_too_long, call_on}
use Rattle.policy_front.specs.Requests.{Request, check, deliver, remove, mark, move, stop, other, bad, whole}
use Rattle.policy_front.specs.Answers.{action, answer_text, dunno, no_account, no_mailbox, no_message}
use Rattle.policy_front.specs.declared.kind.Kind.{Kind}
use Rattle.policy_front.specs.declared.kind.Kind.TheVariants.{Check, Deliver, Remove, Mark, Move}

-- these words are the answer, and the session goes on
abbrev pub answers : List ℕ → Work DeskCall Answer
answers words = say (action words) Open

-- the same work, if the name is not too long; else these words are the answer
abbrev pub if_short : (name words : List ℕ) → Work DeskCall Answer → Work DeskCall Answer
if_short name words work = if is_too_long name then answers words else work

abbrev pub if_mailbox : (mailbox : List ℕ) → Work DeskCall Answer → Work DeskCall Answer
if_mailbox mailbox work = if_short mailbox no_mailbox work

abbrev pub if_message : (name : List ℕ) → Work DeskCall Answer → Work DeskCall Answer
if_message name work = if_short name no_message work

-- what is done on the account of this number, if there is one; else these words are the answer
abbrev pub on_account : (words : List ℕ) → (ℕ → Work DeskCall Answer) → Option ℕ
    → Work DeskCall Answer
on_account words next (Some account) = next account
on_account words next None = answers words

-- this call on the account of this number, with the octets of its message, and then the answer to
-- the request of this kind
abbrev pub asks : (epoch : ℕ) → Kind → (account : ℕ) → Call → (octets : List ℕ)
    → Work DeskCall Answer
asks epoch kind account call octets =
    ask (call_on account call octets) (λ answer. say (answer_text epoch kind answer) Open)

-- What is done on the account of this number. The mailboxes are in canonical spelling.
module _ (epoch account : ℕ) where
  abbrev pub check_work : (size : ℕ) → Work DeskCall Answer
  check_work size = asks epoch Check account (CheckCall size) []

  abbrev pub deliver_work : (mailbox : List ℕ) → Flags → (message : List ℕ) → Work DeskCall Answer
  deliver_work mailbox flags message = if_mailbox mailbox
      (asks epoch Deliver account (DeliverCall mailbox (length message) flags) message)

  abbrev pub remove_work : (mailbox name : List ℕ) → Work DeskCall Answer
  remove_work mailbox name = if_mailbox mailbox
      (if_message name (asks epoch Remove account (RemoveCall mailbox name) []))

  abbrev pub mark_work : (mailbox name : List ℕ) → Flags → Work DeskCall Answer
  mark_work mailbox name flags = if_mailbox mailbox
      (if_message name (asks epoch Mark account (MarkCall mailbox name flags) []))

  abbrev pub move_work : (mailbox name to : List ℕ) → Work DeskCall Answer
  move_work mailbox name to = if_mailbox mailbox
      (if_mailbox to (if_message name (asks epoch Move account (MoveCall mailbox name to) [])))

module _ (hosts : Hosts) where
  -- what is done on the account of this name
  abbrev pub on_named : (name : List ℕ) → (ℕ → Work DeskCall Answer) → Work DeskCall Answer
  on_named name next = on_account no_account next (named hosts.accounts name)

  -- what is done on the account that has this address among its recipients
  abbrev pub on_receiver : Option (List ℕ) → (ℕ → Work DeskCall Answer) → Work DeskCall Answer
  on_receiver recipient next =
      on_account dunno next (option_and_then (receiver hosts.accounts) recipient)

  abbrev pub work : Request → Work DeskCall Answer
  work (check recipient size) =
      on_receiver recipient (λ account. check_work hosts.epoch account size)
  work (deliver owner mailbox flags message) =
      on_named owner (λ account. deliver_work hosts.epoch account (canonical mailbox) flags message)
  work (remove owner mailbox name) =
      on_named owner (λ account. remove_work hosts.epoch account (canonical mailbox) name)
  work (mark owner mailbox name flags) =
      on_named owner (λ account. mark_work hosts.epoch account (canonical mailbox) name flags)
  work (move owner mailbox name to) = on_named owner (λ account.
      move_work hosts.epoch account (canonical mailbox) name (canonical to))
  work stop = say (action (codes "stopping")) Stopping
  work other = answers dunno
  work bad = say (action (codes "bad request")) Closing

-- Sessions over the accounts of this table. Nobody logs in, and nothing is written before a request
-- is whole.
abbrev pub policy : Hosts → Protocol (Option ℕ) Request DeskCall Answer
policy hosts = record {
  whole = λ login. whole;
  prompts = λ login come. [];
  work = λ login. work hosts;
  next = λ login request. login;
}

-- Each text is cut into requests in exactly one way.
abbrev pub PolicyCutsOneWay : Type 0
PolicyCutsOneWay = (hosts : Hosts) (login : Option ℕ) (text : List ℕ)
    → HasOneCut (policy hosts) login text
