-- What a desk may be asked, and what a call does to the desk's share of the account.
use Rattle.std.specs.Prelude.{◌≡◌, ◌<◌, ℕ, List, ◌++◌, Result}
use Rattle.account_core.specs.declared.calls.Call.{Call}
use Rattle.account_core.specs.declared.calls.Call.TheVariants.{ScanBegin, ScanPart}
use Rattle.account_core.specs.declared.calls.Reply.{Reply}
use Rattle.account_core.specs.declared.calls.Entry.{Entry}
use Rattle.account_core.specs.declared.calls.StepError.{StepError}
use Rattle.account_core.specs.Legality.{HasBytes, MayBeAsked}
use Rattle.account_core.specs.Logs.{AreOthers, Serves}
use Rattle.desk.specs.Shares.{Share}

-- any call but the three of a scan, with a message of at most 67108864 octets
abbrev pub IsDeskCall : Call → Type 0
IsDeskCall ScanBegin = ⊥
IsDeskCall (ScanPart index) = ⊥
IsDeskCall call = MayBeAsked call

-- What a call does to the share of its account, by its result. The desk may see new entries of
-- other callers first. The call comes right after them, and its entry, if it has one, is the last.
pub record Asks (share : Share) (call : Call) (result : Result Reply StepError)
    (share' : Share) : Type 0 where
  pub origin : share'.origin ≡ share.origin
  pub caller : share'.caller ≡ share.caller
  pub others : List Entry
  pub apart : AreOthers share.caller others
  pub serves : Serves share.origin share.caller (share.seen ++ others) call result share'.seen

-- a call on the account of this number, with the octets of its message
pub record DeskCall : Type 0 where
  pub account : ℕ
  pub call : Call
  pub bytes : List ℕ

-- a desk with this number of accounts may be asked this
pub record MayAsk (accounts : ℕ) (asked : DeskCall) : Type 0 where
  pub account : asked.account < accounts
  pub call : IsDeskCall asked.call
  pub bytes : HasBytes asked.call asked.bytes
