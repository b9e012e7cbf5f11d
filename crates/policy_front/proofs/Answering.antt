-- Requests that are answered without a call.
use Rattle.std.proofs.Common.{◌≡◌, ◌≢◌, ℕ, true, false, List, [], Option, Some, None, Result, Ok, Err, Bor, IfSome, IfNone, OnOk, refl, sym, ap, ◌∙◌, subst}
use Rattle.std.proofs.lemmas.Bool.{cond-true, cond-false}
use Rattle.wire_io.specs.declared.ends.After.{After}
use Rattle.wire_io.specs.Work.{Work, say, Does}
use Rattle.quota_units.specs.declared.flags.Flags.{Flags}
use Rattle.quota_roots.specs.MailboxNames.{canonical}
use Rattle.accounts_file.specs.Hosts.{Hosts, named}
use Rattle.account_core.specs.declared.calls.Call.TheVariants.{Move as MoveCall}
use Rattle.account_core.specs.History.{Answer}
use Rattle.desk.specs.Shares.{Share}
use Rattle.desk.specs.Asking.{DeskCall}
use Rattle.desk.proofs.Logging.{log_nothing}
use Rattle.front_core.specs.Works.{is_too_long, DoesWork}
use Rattle.policy_front.specs.Answers.{action, no_account, no_mailbox, no_message}
use Rattle.policy_front.specs.Policy.{answers, if_mailbox, if_message, on_account, asks, deliver_work, move_work, work}
use Rattle.policy_front.specs.Texts.{asked_of}
use Rattle.policy_front.specs.Taking.{after_asked, request_with}
use Rattle.policy_front.specs.declared.kind.Kind.TheVariants.{Move}
use Rattle.policy_front.specs.declared.reading.PolicyRequest.{PolicyRequest}
use Rattle.policy_front.specs.declared.reading.PolicyRequest.TheVariants.{Deliver}

-- a text alone
pub said : {E : Type 0} (shares : List Share) (work : Work DeskCall Answer) (text words : List ℕ) (after : After) (result : Result (Unit {0}) E) → work ≡ say words after
    → OnOk result (text ≡ words) → OnOk result (DoesWork shares shares work text after)
said shares work text words after (Ok u) e is = ([], subst (λ w. Does w [] text after) (sym e) (is, refl), log_nothing shares)
said shares work text words after (Err f) e is = tt

-- the same of a text that is there
pub says : (shares : List Share) (work : Work DeskCall Answer) (text words : List ℕ) (after : After) → work ≡ say words after → text ≡ words → DoesWork shares shares work text after
says shares work text words after e is = ([], subst (λ w. Does w [] text after) (sym e) (is, refl), log_nothing shares)

-- a delivery to an account that is not there
pub nobody_receives : (hosts : Hosts) (request : PolicyRequest) (account mailbox : Bor (List ℕ)) (octets : ℕ) (flags : Flags) (message : List ℕ) → request ≡ Deliver account mailbox octets flags
    → named hosts.accounts account.now ≡ None → work hosts (request_with (asked_of request) message) ≡ say (action no_account) (after_asked request)
nobody_receives hosts request account mailbox octets flags message is none =
    ap (λ q. work hosts (request_with (asked_of q) message)) is
    ∙ ap (on_account no_account (λ n. deliver_work hosts.epoch n (canonical mailbox.now) flags message)) none
    ∙ ap (λ (q : PolicyRequest). say (action no_account) (after_asked q)) (sym is)

-- a name that is not too long, and one that is
pub short_name : (bytes : List ℕ) (given : Option (List ℕ)) (name : List ℕ) → given ≡ Some name → IfSome given (λ n. is_too_long bytes ≡ false) → is_too_long bytes ≡ false
short_name bytes (Some n) name is short = short
short_name bytes None name is short = absurd cc

pub long_name : (bytes : List ℕ) (given : Option (List ℕ)) → ((name : List ℕ) → given ≢ Some name) → IfNone given (is_too_long bytes ≡ true) → is_too_long bytes ≡ true
long_name bytes (Some n) not long = absurd (not n refl)
long_name bytes None not long = long

-- a move of a message whose name is too long
pub no_such_message : (epoch account : ℕ) (mailbox name to : List ℕ) → is_too_long mailbox ≡ false → is_too_long to ≡ false → is_too_long name ≡ true
    → move_work epoch account mailbox name to ≡ answers no_message
no_such_message epoch account mailbox name to short other long =
    cond-false (is_too_long mailbox) (answers no_mailbox) (if_mailbox to (if_message name (asks epoch Move account (MoveCall mailbox name to) []))) short
    ∙ cond-false (is_too_long to) (answers no_mailbox) (if_message name (asks epoch Move account (MoveCall mailbox name to) [])) other
    ∙ cond-true (is_too_long name) (answers no_message) (asks epoch Move account (MoveCall mailbox name to) []) long
