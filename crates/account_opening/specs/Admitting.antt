-- Whether an account may be opened, and why not.
use Rattle.std.specs.Prelude.{◌≡◌, ◌<◌, ◌≤◌, ◌-◌, ◌^◌, ℕ, min, List, Some, None, Vec, Result, Ok, Err}
use Rattle.std.specs.Option.{option_map}
use Rattle.quota_units.specs.Limiting.{LimitNumbers}
use Rattle.quota_roots.specs.declared.setup.Setup.{Setup}
use Rattle.keeper.specs.Files.{Files}
use Rattle.keeper.specs.Calls.{Told}
use Rattle.keeper.specs.declared.failed.KeepError.{KeepError}
use Rattle.keeper.specs.declared.failed.KeepError.TheVariants.{NoMemory, Failed}
use Rattle.account_opening.specs.declared.error.OpenError.{OpenError}
use Rattle.account_opening.specs.declared.error.OpenError.TheVariants.{Store, TooManyMessages, DoubleName, EpochUsed, NoMemory as open_no_memory}
use Rattle.account_opening.specs.declared.findings.Findings.{Findings}
use Rattle.account_opening.specs.Bases.{listings, how_many_files, first_double, first_used, shown, findings_of}
use Rattle.account_opening.specs.Limits.{opening_limits}

-- why an account is not opened, if the keeper gave an error
abbrev pub open_error : KeepError → OpenError
open_error NoMemory = open_no_memory
open_error Failed = Store

-- nothing in the files prevents opening the account
pub record CanOpen (setup : Setup) (epoch : ℕ) (files : Files) : Type 0 where
  pub few : how_many_files (listings setup.mailboxes files.rows) ≤ 1048576
  pub apart : first_double (listings setup.mailboxes files.rows) ≡ None
  pub unused : first_used epoch (listings setup.mailboxes files.rows) ≡ None

-- the files give this cause for a refusal
abbrev pub HasReason : Setup → ℕ → OpenError → Files → Type 0
HasReason setup epoch Store files = Unit {0}
HasReason setup epoch open_no_memory files = Unit {0}
HasReason setup epoch (TooManyMessages found) files =
    (1048576 < how_many_files (listings setup.mailboxes files.rows))
    × (found ≡ min (how_many_files (listings setup.mailboxes files.rows)) (2 ^ 64 - 1))
HasReason setup epoch (DoubleName name) files =
    (how_many_files (listings setup.mailboxes files.rows) ≤ 1048576)
    × (Some name ≡ option_map shown (first_double (listings setup.mailboxes files.rows)))
HasReason setup epoch (EpochUsed name) files =
    (how_many_files (listings setup.mailboxes files.rows) ≤ 1048576)
    × (first_double (listings setup.mailboxes files.rows) ≡ None)
    × (Some name ≡ option_map shown (first_used epoch (listings setup.mailboxes files.rows)))

-- the files stay, and nothing prevents opening the account, or it is refused for this cause
abbrev pub MayOpen : Setup → ℕ → Files → Files → Type 0
MayOpen setup epoch files files' = (files' ≡ files) × CanOpen setup epoch files

abbrev pub IsRefused : Setup → ℕ → OpenError → Files → Files → Type 0
IsRefused setup epoch cause files files' = (files' ≡ files) × HasReason setup epoch cause files

-- The files stay. Either nothing prevents opening the account, and these are its limits; or it is
-- refused for this cause.
abbrev pub Admits : {A : Type 0} → Setup → ℕ → Result (Vec LimitNumbers A) OpenError → Told → Told
    → Type 0
Admits setup epoch (Ok limits) told told' = (limits.items ≡ opening_limits told.files setup.limits)
    × (told'.files ≡ told.files) × CanOpen setup epoch told.files
Admits setup epoch (Err cause) told told' = IsRefused setup epoch cause told.files told'.files

-- the files stay, and these are the findings in these mailboxes
abbrev pub FindsSome : ℕ → List (List ℕ) → Findings → Told → Told → Type 0
FindsSome epoch mailboxes found told told' =
    (found ≡ findings_of epoch (listings mailboxes told.files.rows)) × (told'.files ≡ told.files)

abbrev pub Finds : {E : Type 0} → ℕ → List (List ℕ) → Result Findings E → Told → Told → Type 0
Finds epoch mailboxes (Ok found) told told' = FindsSome epoch mailboxes found told told'
Finds epoch mailboxes (Err e) told told' = told'.files ≡ told.files

-- the account is refused for the first cause that these findings give, if they give one
abbrev pub IsJudged : {T : Type 0} → Findings → Result T OpenError → Type 0
IsJudged found (Ok done) = (found.files ≤ 1048576) × (found.double ≡ None) × (found.used ≡ None)
IsJudged found (Err Store) = ⊥
IsJudged found (Err open_no_memory) = ⊥
IsJudged found (Err (TooManyMessages files)) = (1048576 < found.files) × (files ≡ found.files)
IsJudged found (Err (DoubleName name)) = (found.files ≤ 1048576) × (Some name ≡ found.double)
IsJudged found (Err (EpochUsed name)) = (found.files ≤ 1048576) × (found.double ≡ None)
    × (Some name ≡ found.used)
