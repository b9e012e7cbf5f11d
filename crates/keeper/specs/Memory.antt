-- Keepers in memory.
use Rattle.std.specs.Prelude.{ℕ, List, length, Option}
use Rattle.keeper.specs.Files.{Files}
use Rattle.keeper.specs.Calls.{Told}
use Rattle.keeper.specs.Plan.{Planned}

-- a keeper that fails the calls of a plan: its files, and the plan
pub record MemKeeper : Type 0 where
  pub files : Files
  pub plan : Planned

-- the failures due are those that the plan still has
abbrev pub told_of : MemKeeper → Told
told_of keeper = record { files = keeper.files; due = length keeper.plan.fails }

-- a keeper that never fails: its files, and how often it listed a mailbox
pub record FixedKeeper : Type 0 where
  pub files : Files
  pub lists : ℕ

abbrev pub told_of_fixed : FixedKeeper → Told
told_of_fixed keeper = record { files = keeper.files; due = 0 }

-- stores of keepers in memory: the name of each account, with its keeper unless the account is
-- open, and how often a call failed
pub record MemStores : Type 0 where
  pub accounts : List (List ℕ × Option MemKeeper)
  pub faults : ℕ

-- the keeper with both counts of faults at 0
abbrev pub forgiven : MemKeeper → MemKeeper
forgiven keeper = record keeper { plan = record keeper.plan { faults = 0; append_faults = 0 } }
