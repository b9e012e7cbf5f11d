-- When a host may make one more set of passes.
use Rattle.std.specs.Prelude.{◌≡◌, ◌≢◌, ◌<◌, ℕ, List, length, Result, Ok, Err}
use Rattle.std.specs.List.{All}
use Rattle.account_lock.specs.Known.{View}
use Rattle.account_host.specs.declared.faults.EnlistError.{EnlistError}
use Rattle.account_host.specs.declared.faults.EnlistError.TheVariants.{Full, NoMemory}
use Rattle.account_host.specs.Sets.{view_at}

-- of no account as many passes were made as may be
abbrev pub HaveRoom : ℕ → List View → Type 0
HaveRoom callers vs = All (λ v. v.made ≢ callers) vs

-- of some account as many passes were made as may be
pub record HasFull (callers : ℕ) (vs : List View) : Type 0 where
  pub account : ℕ
  pub there : account < length vs
  pub full : (view_at vs account).made ≡ callers

-- it is refused as full exactly if some account is full
abbrev pub MayEnlist : {X : Type 0} → ℕ → List View → Result X EnlistError → Type 0
MayEnlist callers vs (Ok set) = HaveRoom callers vs
MayEnlist callers vs (Err (Full limit)) = (limit ≡ callers) × HasFull callers vs
MayEnlist callers vs (Err NoMemory) = HaveRoom callers vs
