-- How a host begins: each account is put under a lock.
use Rattle.std.specs.Prelude.{◌≡◌, ◌≤◌, ℕ, List, [], reverse, length, vec_capacity}
use Rattle.std.specs.List.{All, AllZip}
use Rattle.account_ledger.specs.States.{State}
use Rattle.account_lock.specs.Known.{View}
use Rattle.account_lock.specs.Passes.{limit_of, IsNew, IsOf}
use Rattle.account_host.specs.declared.locking.Locked.{Locked}
use Rattle.account_host.specs.Sets.{views}

-- the account has no entry yet
abbrev pub IsFresh : State → Type 0
IsFresh s = s.history ≡ []

-- the first pass of an account that is put under a lock
pub record IsFirstOf (s : State) (v : View) : Type 0 where
  pub origin : v.origin ≡ s.origin
  pub number : v.number ≡ 0
  pub made : v.made ≡ 1
  pub seen : v.seen ≡ []
  pub new : IsNew v

-- an account that is handed back without an entry
pub record GivenBack (s s' : State) : Type 0 where
  pub origin : s'.origin ≡ s.origin
  pub history : s'.history ≡ []

-- The accounts are under locks, the last one first.
pub record LocksEach {K : Type 0} (callers : ℕ) (states : List State)
    (locked : Locked K) : Type 0 where
  pub seated : AllZip IsOf locked.locks.items locked.passes.items
  pub limits : All (λ lock. limit_of lock ≡ callers) locked.locks.items
  pub first : AllZip IsFirstOf (reverse states) (views locked.passes.items)
  pub empty : locked.spare.items ≡ []
  pub room : length states ≤ vec_capacity locked.spare
