-- What the session does after a request never depends on the answers to its calls.
use Rattle.std.proofs.Common.{ℕ, Bool, true, false, if◌then◌else◌, List, [], ◌∷◌, length, codes, Option, Some, None, option_and_then}
use Rattle.wire_io.specs.declared.ends.After.{After}
use Rattle.wire_io.specs.declared.ends.After.TheVariants.{Open, Closing, Stopping}
use Rattle.wire_io.specs.Work.{Work, say, AlwaysEnds}
use Rattle.wire_io.specs.Session.{EndsOneWay}
use Rattle.quota_roots.specs.MailboxNames.{canonical}
use Rattle.accounts_file.specs.Hosts.{Hosts, named, receiver}
use Rattle.account_core.specs.declared.calls.Call.{Call}
use Rattle.account_core.specs.declared.calls.Call.TheVariants.{Check as CheckCall, Deliver as DeliverCall, Remove as RemoveCall, Mark as MarkCall, Move as MoveCall}
use Rattle.account_core.specs.History.{Answer}
use Rattle.front_core.specs.Works.{is_too_long}
use Rattle.desk.specs.Asking.{DeskCall}
use Rattle.policy_front.specs.Requests.{check, deliver, remove, mark, move, stop, other, bad}
use Rattle.policy_front.specs.Answers.{action, dunno, no_account, no_mailbox, no_message}
use Rattle.policy_front.specs.Policy.{answers, if_short, on_account, asks, policy}
use Rattle.policy_front.specs.Policy.{check_work, deliver_work, remove_work, mark_work, move_work}
use Rattle.policy_front.specs.declared.kind.Kind.{Kind}
use Rattle.policy_front.specs.declared.kind.Kind.TheVariants.{Check, Deliver, Remove, Mark, Move}

said : (text : List ℕ) (after : After)
    → AlwaysEnds {Call = DeskCall} {Answer = Answer} (say text after) after
said text after [] written word does = does.1
said text after (entry ∷ log) written word does = absurd does

asked : (epoch : ℕ) (kind : Kind) (account : ℕ) (call : Call) (octets : List ℕ)
    → AlwaysEnds (asks epoch kind account call octets) Open
asked epoch kind account call octets [] written word does = absurd does
asked epoch kind account call octets (entry ∷ []) written word does = does.1.1
asked epoch kind account call octets (entry ∷ more ∷ log) written word does = absurd does.1

short_or_said : (long : Bool) (words : List ℕ) (work : Work DeskCall Answer)
    → AlwaysEnds work Open → AlwaysEnds (if long then answers words else work) Open
short_or_said true words work one_way = said (action words) Open
short_or_said false words work one_way = one_way

short : (name words : List ℕ) (work : Work DeskCall Answer)
    → AlwaysEnds work Open → AlwaysEnds (if_short name words work) Open
short name words work one_way = short_or_said (is_too_long name) words work one_way

found : (words : List ℕ) (next : ℕ → Work DeskCall Answer)
    → ((account : ℕ) → AlwaysEnds (next account) Open)
    → (account : Option ℕ) → AlwaysEnds (on_account words next account) Open
found words next one_way (Some account) = one_way account
found words next one_way None = said (action words) Open

pub policy_one_way : (hosts : Hosts) → EndsOneWay (policy hosts)
policy_one_way hosts login (check recipient size) = (
  Open,
  found dunno (λ account. check_work hosts.epoch account size)
      (λ account. asked hosts.epoch Check account (CheckCall size) [])
      (option_and_then (receiver hosts.accounts) recipient),
)
policy_one_way hosts login (deliver owner mailbox flags message) =
    let folder = canonical mailbox in (
      Open,
      found no_account (λ account. deliver_work hosts.epoch account folder flags message)
          (λ account.
          let call = DeliverCall folder (length message) flags in
          short folder no_mailbox (asks hosts.epoch Deliver account call message)
          (asked hosts.epoch Deliver account call message)) (named hosts.accounts owner),
    )
policy_one_way hosts login (remove owner mailbox name) =
    let folder = canonical mailbox in (
      Open,
      found no_account (λ account. remove_work hosts.epoch account folder name) (λ account.
          let work = asks hosts.epoch Remove account (RemoveCall folder name) [] in
          short folder no_mailbox (if_short name no_message work) (short name no_message work
          (asked hosts.epoch Remove account (RemoveCall folder name) [])))
          (named hosts.accounts owner),
    )
policy_one_way hosts login (mark owner mailbox name flags) =
    let folder = canonical mailbox in (
      Open,
      found no_account (λ account. mark_work hosts.epoch account folder name flags) (λ account.
          let work = asks hosts.epoch Mark account (MarkCall folder name flags) [] in
          short folder no_mailbox (if_short name no_message work) (short name no_message work
          (asked hosts.epoch Mark account (MarkCall folder name flags) [])))
          (named hosts.accounts owner),
    )
policy_one_way hosts login (move owner mailbox name to) =
    let folder = canonical mailbox in
    let goal = canonical to in (
      Open,
      found no_account (λ account. move_work hosts.epoch account folder name goal) (λ account.
          let work = asks hosts.epoch Move account (MoveCall folder name goal) [] in
          short folder no_mailbox (if_short goal no_mailbox (if_short name no_message work))
          (short goal no_mailbox (if_short name no_message work) (short name no_message work
          (asked hosts.epoch Move account (MoveCall folder name goal) []))))
          (named hosts.accounts owner),
    )
policy_one_way hosts login stop = (Stopping, said (action (codes "stopping")) Stopping)
policy_one_way hosts login other = (Open, said (action dunno) Open)
policy_one_way hosts login bad = (Closing, said (action (codes "bad request")) Closing)
