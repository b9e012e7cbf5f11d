-- Histories of an account: entries one after another, the account that they make, and the machine's
-- reply to a call after them.
use Rattle.std.specs.Prelude.{◌≢◌, ℕ, Bool, if◌then◌else◌, List, [], ◌∷◌, Result, Err}
use Rattle.quota_roots.specs.declared.root.RootSpec.{RootSpec}
use Rattle.account_core.specs.declared.calls.Call.{Call}
use Rattle.account_core.specs.declared.calls.Reply.{Reply}
use Rattle.account_core.specs.declared.calls.Entry.{Entry}
use Rattle.account_core.specs.declared.calls.StepError.{StepError}
use Rattle.account_core.specs.declared.calls.StepError.TheVariants.{JournalFull}
use Rattle.account_core.specs.Account.{Account}
use Rattle.account_core.specs.Machine.{reply_of, step}

-- what a call comes to: the machine's reply, a failed store, or a full history
pub data Answer : Type 0 where
  replied : Reply → Answer
  store : Answer
  journal_full : Answer

-- the answer is never that the journal is full
abbrev pub NeverFull : {T : Type 0} → Result T StepError → Type 0
NeverFull result = (limit : ℕ) → result ≢ Err (JournalFull limit)

-- the account after an entry; an entry with fault leaves the account as it was
abbrev pub account_after : List RootSpec → Account → Entry → Account
account_after roots account entry = if entry.fault then account else step roots account entry.call

-- the account after a history
abbrev pub replay : List RootSpec → Account → List Entry → Account
replay roots account [] = account
replay roots account (entry ∷ entries) = replay roots (account_after roots account entry) entries

-- the machine's reply to a call after a history
abbrev pub reply : List RootSpec → Account → List Entry → Call → Reply
reply roots opening history call = reply_of roots (replay roots opening history) call

abbrev pub entry_of : ℕ → Call → Bool → Entry
entry_of caller call fault = record { caller = caller; call = call; fault = fault }
