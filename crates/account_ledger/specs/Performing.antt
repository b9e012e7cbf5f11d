-- What a call does to an account's store. `Is` says which account it is, if that is known.
use Rattle.std.specs.Prelude.{◌≡◌, ◌≢◌, ◌⊎◌, ◌≤◌, ℕ, List, Result, Err, IfOk}
use Rattle.quota_units.specs.Causes.{Rose, next_count}
use Rattle.keeper.specs.Calls.{Changes, Due, OnFiles}
use Rattle.account_core.specs.declared.calls.Call.{Call}
use Rattle.account_core.specs.declared.calls.Call.TheVariants.{ScanBegin, ScanPart}
use Rattle.account_core.specs.declared.calls.Reply.{Reply}
use Rattle.account_core.specs.declared.calls.StepError.{StepError}
use Rattle.account_core.specs.declared.calls.StepError.TheVariants.{Store as StoreError, NoMemory}
use Rattle.account_core.specs.Account.{Account}
use Rattle.account_core.specs.Forms.{HasForm}
use Rattle.account_core.specs.History.{NeverFull}
use Rattle.account_core.specs.Machine.{reply_of}
use Rattle.account_ledger.specs.Stores.{Store, Agrees, Keeps, NoneFalls}
use Rattle.account_ledger.specs.Settling.{SettledFor, SettlesSome, needs}
use Rattle.account_ledger.specs.Writing.{Spares, WritesBy, misses}
use Rattle.account_ledger.specs.Filing.{RowsBy}

-- how often a call lists mailboxes, by the keeper's count: the beginning of a scan never lists one,
-- and a part of a scan lists one at most
abbrev pub ListsFor : Call → ℕ → ℕ → Type 0
ListsFor ScanBegin lists lists' = lists' ≡ lists
ListsFor (ScanPart index) lists lists' = (lists' ≡ lists) ⊎ (lists' ≡ next_count lists)
ListsFor call lists lists' = Unit {0}

-- if the store failed in a call, the call used up a failure that was due
abbrev pub UsesDue : {T : Type 0} → Result T StepError → Store → Store → Type 0
UsesDue result f f' =
    Due (result ≡ Err StoreError) f.faults f.append_faults f'.faults f'.append_faults f.told f'.told

-- if the call gets a reply, the reply is the account machine's
abbrev pub Replies : (Account → Type 0) → Call → Result Reply StepError → Store → Type 0
Replies Is call result f =
    IfOk result (λ given. (account : Account) → Is account → given ≡ reply_of f.roots account call)

-- What a call does to the ledgers and the standings of roots. It settles the roots that it needs
-- and that are in doubt, and then it writes lines or limits.
pub record PerformsLedgers (Is : Account
    → Type 0) (call : Call) (result : Result Reply StepError) (f f' : Store) : Type 0 where
  -- the store after the settling and before the writing; it still agrees with the account
  pub middle : Store
  pub keeps : Keeps f middle
  pub agrees : Agrees Is middle
  pub settles : SettlesSome Is (needs f.roots call) f middle
  pub settled : IfOk result (λ given. SettledFor (misses given) (needs f.roots call) f middle)
  pub later : f.faults ≤ middle.faults
  pub calm : result ≢ Err StoreError → middle.faults ≡ f.faults
  pub writes : WritesBy Is call result middle f'

abbrev pub PerformsRows : Call → List ℕ → Result Reply StepError → Store → Store → Type 0
PerformsRows call bytes result f f' =
    Changes (OnFiles (λ files files'. RowsBy f.epoch call bytes result files.rows files'.rows))
    f.told f'.told

-- all that a call does
pub record Performs (Is : Account → Type 0) (call : Call) (bytes : List ℕ)
    (result : Result Reply StepError) (f f' : Store) : Type 0 where
  pub keeps : Keeps f f'
  pub reply : Replies Is call result f
  pub form : IfOk result (HasForm f.roots f.mailboxes call)
  pub ledgers : PerformsLedgers Is call result f f'
  pub rows : PerformsRows call bytes result f f'
  pub spared : result ≡ Err NoMemory → Spares call f f'
  pub due : UsesDue result f f'
  pub later : NoneFalls f f'
  pub cause : result ≡ Err StoreError → Rose f.faults f'.faults
  pub lists : ListsFor call f.lists f'.lists
  pub never_full : NeverFull result
