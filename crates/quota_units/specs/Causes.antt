-- Counts of faults: a call that fails raises the count of the object that was called, and any
-- other call leaves it.
use Rattle.std.specs.Prelude.{◌≡◌, ◌≤◌, ◌+◌, ◌-◌, ◌^◌, ℕ, min}

-- one more, or the largest number of the type if one more is above it
abbrev pub next_count : ℕ → ℕ
next_count before = min (before + 1) (2 ^ 64 - 1)

-- a count went up, or is at the largest number of its type
abbrev pub Rose : ℕ → ℕ → Type 0
Rose before now = next_count before ≤ now

-- what a call did to a count of faults
pub record HasCause (failed : Type 0) (before now : ℕ) : Type 0 where
  pub later : before ≤ now
  pub rose : failed → Rose before now
  pub kept : ¬ failed → now ≡ before
