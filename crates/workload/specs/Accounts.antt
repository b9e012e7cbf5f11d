-- The account of a workload.
use Rattle.std.specs.Prelude.{◌≡◌, List, length, Some}
use Rattle.quota_units.specs.Limiting.{LimitNumbers}
use Rattle.account_ledger.specs.States.{State}
use Rattle.plain_desk.specs.Owning.{state_at}
use Rattle.owner_sessions.specs.Plain.{NeverFails, plain_origin}

-- 1024 units of 1024 octets, and 500 messages
abbrev pub limits : LimitNumbers
limits = record { octets = Some 1048576; count = Some 500 }

-- a desk of one account, that of the plain table with these limits, whose keeper never fails
pub record HasOneAccount (states : List State) : Type 0 where
  pub one : length states ≡ 1
  pub origin : (state_at states 0).origin ≡ plain_origin limits
  pub never_fails : NeverFails (state_at states 0)
