-- What the calls of a legal history meet, and how many of its entries have fault; and laws of
-- deliveries and moves, over every history.
use Rattle.std.specs.Prelude.{◌≡◌, ◌≢◌, ◌≤◌, ◌↔◌, ◌+◌, ◌-◌, ◌^◌, ℕ, min, true, false, if◌then◌else◌, List, [], ◌∷◌, ◌++◌, length, sum_by, codes, Some, None}
use Rattle.quota_units.specs.Limiting.{LimitNumbers}
use Rattle.quota_units.specs.declared.flags.Flags.{Flags}
use Rattle.quota_units.specs.declared.resource.Resource.{Resource}
use Rattle.quota_units.specs.declared.totals.Totals.{Totals}
use Rattle.quota_roots.specs.declared.root.RootSpec.{RootSpec}
use Rattle.quota_roots.specs.Governing.{gaining, governing, governs_at}
use Rattle.admission.specs.Fitting.{allows, limits_at, totals_at, FitsEach}
use Rattle.account_core.specs.declared.calls.Call.{Call}
use Rattle.account_core.specs.declared.calls.Call.TheVariants.{Deliver, Check, Move, Install}
use Rattle.account_core.specs.declared.calls.Entry.{Entry}
use Rattle.account_core.specs.declared.calls.Reply.{Reply}
use Rattle.account_core.specs.declared.calls.Reply.TheVariants.{Over, Delivered, Moved}
use Rattle.account_core.specs.Account.{Account, Message}
use Rattle.account_core.specs.Messages.{named_message}
use Rattle.account_core.specs.Machine.{has_mailbox, usages}
use Rattle.account_core.specs.History.{replay, reply, entry_of}

-- the condition on the call of an entry: a message has at most 67108864 octets
abbrev pub MayBeServed : Call → Type 0
MayBeServed (Deliver mailbox octets flags) = octets ≤ 67108864
MayBeServed call = Unit {0}

-- the condition on a call that an account is asked; an install is none, and has a method of its own
abbrev pub MayBeAsked : Call → Type 0
MayBeAsked (Install generation) = ⊥
MayBeAsked call = MayBeServed call

-- a delivery has as many bytes as its octets say; any other call has none
abbrev pub HasBytes : Call → List ℕ → Type 0
HasBytes (Deliver mailbox octets flags) bytes = octets ≡ length bytes
HasBytes call bytes = bytes ≡ []

-- the call of each entry may be served
abbrev pub AreServed : List Entry → Type 0
AreServed [] = Unit {0}
AreServed (entry ∷ entries) = MayBeServed entry.call × AreServed entries

-- how many entries have fault
abbrev pub fault_count : List Entry → ℕ
fault_count entries = sum_by (λ entry. if entry.fault then 1 else 0) entries

-- A history is legal: it has no more entries than the journal takes, the call of each may be
-- served, and no more of them have fault than the store has counted faults since the opening. A
-- count that has stopped at 2^64 - 1 may stand for more faults.
pub record IsLegal (journal first_faults faults : ℕ) (history : List Entry) : Type 0 where
  pub within : length history ≤ journal
  pub served : AreServed history
  pub excused : min (first_faults + fault_count history) (2 ^ 64 - 1) ≤ faults

-- the limits allow these totals
pub record AreWithin (limits : LimitNumbers) (totals : Totals) : Type 0 where
  pub octets : allows limits.octets totals.octets ≡ true
  pub count : allows limits.count totals.count ≡ true

-- the usage of the root of this number is within its limits
abbrev pub IsWithin : List RootSpec → Account → ℕ → Type 0
IsWithin roots account root =
    AreWithin (limits_at account.limits root) (totals_at (usages roots account) root)

-- the message fits each root that governs the mailbox, on top of the root's usage
abbrev pub FitsIn : List RootSpec → Account → List ℕ → ℕ → Type 0
FitsIn roots account mailbox octets =
    FitsEach account.limits (usages roots account) (governing roots mailbox) octets

-- No accepted message breaks a limit: after the entry of an accepted delivery, each root that
-- governs the mailbox has a usage within its limits. This holds after every history, so after every
-- legal one.
abbrev pub NoneBroken : Type 0
NoneBroken =
    (roots : List RootSpec) (opening : Account) (history : List Entry) (caller : ℕ)
    (mailbox : List ℕ) (octets : ℕ) (flags : Flags) (number : ℕ)
    → reply roots opening history (Deliver mailbox octets flags) ≡ Delivered number
    → (root : ℕ) → governs_at roots root mailbox ≡ true
    → IsWithin roots (replay roots opening
    (history ++ entry_of caller (Deliver mailbox octets flags) false ∷ [])) root

abbrev pub IsOver : Reply → Type 0
IsOver given = (root : ℕ) × (resource : Resource) × (given ≡ Over root resource)

-- The machine answers `Over` to a delivery to a mailbox that exists, or to a check, exactly if the
-- message does not fit.
abbrev pub OverWhereNoFit : Type 0
OverWhereNoFit =
    (roots : List RootSpec) (opening : Account) (history : List Entry) (octets : ℕ)
    → ((mailbox : List ℕ) (flags : Flags)
    → has_mailbox (replay roots opening history) mailbox ≡ true
    → (IsOver (reply roots opening history (Deliver mailbox octets flags))
    ↔ ¬ FitsIn roots (replay roots opening history) mailbox octets))
    × (IsOver (reply roots opening history (Check octets))
    ↔ ¬ FitsIn roots (replay roots opening history) (codes "INBOX") octets)

-- the message fits each root that governs the target of a move and not its source
abbrev pub FitsMoved : List RootSpec → Account → List ℕ → List ℕ → ℕ → Type 0
FitsMoved roots account from to octets =
    FitsEach account.limits (usages roots account) (gaining roots from to) octets

-- No moved message breaks a limit: after the entry of a move with the reply `Moved`, each root that
-- governs the target and not the source has a usage within its limits.
abbrev pub NoneBrokenByMoves : Type 0
NoneBrokenByMoves =
    (roots : List RootSpec) (opening : Account) (history : List Entry) (caller : ℕ)
    (from base to : List ℕ)
    → reply roots opening history (Move from base to) ≡ Moved
    → (root : ℕ) → governs_at roots root to ≡ true → governs_at roots root from ≡ false
    → IsWithin roots
    (replay roots opening (history ++ entry_of caller (Move from base to) false ∷ [])) root

-- the message exists, and nothing but a limit can keep it from the target
pub record MayMove (account : Account) (from base to : List ℕ) (message : Message) : Type 0 where
  pub source : has_mailbox account from ≡ true
  pub target : has_mailbox account to ≡ true
  pub there : named_message from base account.messages ≡ Some message
  pub apart : from ≢ to
  pub free : named_message to base account.messages ≡ None

-- The machine answers `Over` to a move exactly if nothing but a limit keeps the message from the
-- target, and the message does not fit the roots that govern the target and not the source.
abbrev pub MoveOverWhereNoFit : Type 0
MoveOverWhereNoFit =
    (roots : List RootSpec) (opening : Account) (history : List Entry) (from base to : List ℕ)
    → (IsOver (reply roots opening history (Move from base to))
    ↔ ((message : Message) × MayMove (replay roots opening history) from base to message
    × ¬ FitsMoved roots (replay roots opening history) from to message.octets))
