-- Sets of passes of a host, and what a call in a turn does to a pass.
use Rattle.std.specs.Prelude.{◌≡◌, ◌+◌, ◌<◌, ℕ, Bool, true, false, List, map, length, slice_get, Some, Result, Ok, Err}
use Rattle.std.specs.List.{All}
use Rattle.account_core.specs.declared.calls.Reply.{Reply}
use Rattle.account_core.specs.declared.calls.StepError.{StepError}
use Rattle.account_core.specs.declared.calls.StepError.TheVariants.{Store}
use Rattle.account_lock.specs.Known.{View}
use Rattle.account_lock.specs.Passes.{view, IsOf}
use Rattle.account_lock.specs.declared.pass.Pass.{Pass}
use Rattle.account_lock.specs.declared.lock.Lock.{Lock}
use Rattle.desk.specs.Shares.{Share, IsWithinJournal}
use Rattle.account_host.specs.declared.set.SeatSet.{SeatSet}
use Rattle.account_host.specs.declared.host.Host.{Host}
use Rattle.account_host.specs.Sets.{views, views_of}

-- a pass's share of its account
abbrev pub share_of : View → Share
share_of v = record { origin = v.origin; caller = v.number; seen = v.seen }

abbrev pub pass_share : Pass → Share
pass_share pass = share_of (view pass)

-- no more entries were seen than the journal takes
abbrev pub IsWithin : View → Type 0
IsWithin v = IsWithinJournal (share_of v)

-- the history has room for one more entry than were seen
abbrev pub HasRoom : Share → Type 0
HasRoom share = length share.seen < share.origin.journal

-- whether a call with this result has an entry
abbrev pub has_entry : Result Reply StepError → Bool
has_entry (Ok given) = true
has_entry (Err Store) = true
has_entry (Err fault) = false

-- What a call keeps of its pass: where the history begins, its number, the passes that it stands
-- for, what was joined into it, and how many were made. Its own entries and their number grow
-- alike.
pub record Goes (v w : View) : Type 0 where
  pub origin : w.origin ≡ v.origin
  pub number : w.number ≡ v.number
  pub held : w.held ≡ v.held
  pub olds : w.olds ≡ v.olds
  pub made : w.made ≡ v.made
  pub own : w.own + length v.mine ≡ v.own + length w.mine

-- one pass of each lock, in the order of the locks
pub record AreSeated {A : Type 0} (locks : List (Lock A)) (passes : List Pass) : Type 0 where
  pub count : length passes ≡ length locks
  pub each : (account : ℕ) (lock : Lock A) (pass : Pass) → slice_get locks account ≡ Some lock
      → slice_get passes account ≡ Some pass → IsOf lock pass

module _ {K : Type 0} where
  -- how many passes of each account may be made
  abbrev pub callers_of : Host K → ℕ
  callers_of host = host.callers

  -- The set has one pass of each of the host's accounts. None has seen more entries than its
  -- account's journal takes.
  pub record IsSetOf (host : Host K) (set : SeatSet) : Type 0 where
    pub seated : AreSeated host.locks.items set.passes.items
    pub within : All IsWithin (views_of set)
