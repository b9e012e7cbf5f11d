-- The limits that an account is opened with.
use Rattle.std.specs.Prelude.{◌≡◌, ℕ, List, length, map, Option, Some, None, unwrap_or, Vec, Result, Ok, Err}
use Rattle.std.specs.List.{range_with_len}
use Rattle.quota_units.specs.Limiting.{LimitNumbers}
use Rattle.keeper.specs.Files.{Files, ledger_at}
use Rattle.keeper.specs.Calls.{Told}
use Rattle.maildirsize.specs.Definition.{definition_of}
use Rattle.admission.specs.Fitting.{limits_at}

-- the limits that a ledger's first line defines, or else the root's own
abbrev pub limits_of_ledger : Option (List ℕ) → LimitNumbers → LimitNumbers
limits_of_ledger None own = own
limits_of_ledger (Some bytes) own = unwrap_or (definition_of bytes) own

abbrev pub limits_below : ℕ → Files → List LimitNumbers → List LimitNumbers
limits_below count files limits = map (λ root.
    limits_of_ledger (ledger_at files root) (limits_at limits root)) (range_with_len 0 count)

-- the limits of each root, by its ledger
abbrev pub opening_limits : Files → List LimitNumbers → List LimitNumbers
opening_limits files limits = limits_below (length limits) files limits

-- the files stay, and these are the limits of the roots below `count`
abbrev pub ReadsSome : ℕ → List LimitNumbers → List LimitNumbers → Told → Told → Type 0
ReadsSome count own limits told told' = (limits ≡ limits_below count told.files own)
    × (told'.files ≡ told.files)

abbrev pub ReadsLimits : {A E : Type 0} → List LimitNumbers → Result (Vec LimitNumbers A) E → Told
    → Told → Type 0
ReadsLimits own (Ok limits) told told' = ReadsSome (length own) own limits.items told told'
ReadsLimits own (Err e) told told' = told'.files ≡ told.files
