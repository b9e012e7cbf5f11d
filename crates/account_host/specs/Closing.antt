-- How a host ends: each account comes back with its whole history.
use Rattle.std.specs.Prelude.{◌≡◌, List, ◌++◌, reverse, length}
use Rattle.std.specs.List.{AllZip}
use Rattle.account_core.specs.Histories.{Begins, CallersBelow, EachBegins, calls_by}
use Rattle.account_ledger.specs.States.{State}
use Rattle.account_lock.specs.Known.{View}
use Rattle.account_lock.specs.Passes.{view}
use Rattle.account_lock.specs.declared.pass.Pass.{Pass}

-- An account with its whole history, as the first pass knows it, which stands for all passes. The
-- history has exactly the entries that these passes made, and what each of them had seen begins it.
pub record Closes (v : View) (s : State) : Type 0 where
  pub origin : s.origin ≡ v.origin
  pub entries : length s.history ≡ v.own
  pub callers : CallersBelow v.made s.history
  pub seen : Begins v.seen s.history
  pub olds : EachBegins v.olds s.history
  pub mine : calls_by 0 s.history ≡ v.mine

abbrev pub PassCloses : Pass → State → Type 0
PassCloses pass s = Closes (view pass) s

-- the accounts of these passes came after those that were there, the last one first
pub record Ends (passes : List Pass) (states states' : List State) : Type 0 where
  pub more : List State
  pub added : states' ≡ states ++ more
  pub closed : AllZip PassCloses (reverse passes) more
