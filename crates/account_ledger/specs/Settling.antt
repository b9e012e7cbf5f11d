-- Which roots a call needs, and what settling them does to an account's store.
use Rattle.std.specs.Prelude.{◌≡◌, ◌⊎◌, ℕ, Bool, true, false, nat_eq, codes, List, length, Option, Some, None, Result, Err}
use Rattle.quota_roots.specs.declared.root.RootSpec.{RootSpec}
use Rattle.quota_roots.specs.Governing.{governs_at, gains_at}
use Rattle.quota_roots.specs.RootLists.{root_named}
use Rattle.keeper.specs.Files.{Files, ButLedgers, ledger_at}
use Rattle.keeper.specs.Calls.{Changes, OnFiles}
use Rattle.admission.specs.Fitting.{limits_at}
use Rattle.account_core.specs.declared.calls.Call.{Call}
use Rattle.account_core.specs.declared.calls.Call.TheVariants.{Deliver, Check, Move, Quota, SetLimits, Roots}
use Rattle.account_core.specs.declared.calls.StepError.{StepError}
use Rattle.account_core.specs.declared.calls.StepError.TheVariants.{NoMemory}
use Rattle.account_core.specs.Account.{Account}
use Rattle.root_ledgers.specs.declared.book.Standing.{Standing}
use Rattle.root_ledgers.specs.declared.book.Standing.TheVariants.{Settled, Doubt}
use Rattle.root_ledgers.specs.Settling.{MarksOne}
use Rattle.root_ledgers.specs.Ledgers.{folded}
use Rattle.account_ledger.specs.Stores.{Store, standing_at, usage_at}

-- a root was found, and this is its number
abbrev pub is_root : Option ℕ → ℕ → Bool
is_root None root = false
is_root (Some place) root = nat_eq place root

-- the roots that a call needs, and that it settles first
abbrev pub needs : List RootSpec → Call → ℕ → Bool
needs roots (Deliver mailbox octets flags) root = governs_at roots root mailbox
needs roots (Check octets) root = governs_at roots root (codes "INBOX")
needs roots (Quota name) root = is_root (root_named roots name) root
needs roots (SetLimits name limits) root = is_root (root_named roots name) root
needs roots (Roots mailbox) root = governs_at roots root mailbox
needs roots (Move from base to) root = gains_at roots root from to
needs roots call root = false

-- a root that may be settled was in doubt and is settled now
abbrev pub IsSettledNow : (ℕ → Bool) → List Standing → List Standing → ℕ → Type 0
IsSettledNow may standings standings' root =
    (may root ≡ true) × (standing_at standings root ≡ Doubt)
    × (standing_at standings' root ≡ Settled)

-- nothing changes but the ledgers of roots that were in doubt and are settled now
pub record SettlesLedgers (may : ℕ
    → Bool) (standings standings' : List Standing) (files files' : Files) : Type 0 where
  pub same : ButLedgers files files'
  pub each : (root : ℕ)
      → (ledger_at files' root ≡ ledger_at files root) ⊎ IsSettledNow may standings standings' root

-- if a root was in doubt and is settled now, its ledger is the folded text of its limits and usage
abbrev pub AreFolded : List RootSpec → Account → List Standing → List Standing → Files → Files
    → Type 0
AreFolded roots account standings standings' files files' =
    (root : ℕ) → standing_at standings root ≡ Doubt → standing_at standings' root ≡ Settled
    → ledger_at files' root
    ≡ Some (folded (limits_at account.limits root) (usage_at roots root account))

-- some of the roots that may be settled are settled, and the other roots and files stay
pub record SettlesSome (Is : Account → Type 0) (may : ℕ → Bool) (f f' : Store) : Type 0 where
  pub files : Changes (OnFiles (SettlesLedgers may f.standings f'.standings)) f.told f'.told
  pub texts : (account : Account) → Is account
      → Changes (OnFiles (AreFolded f.roots account f.standings f'.standings)) f.told f'.told
  pub count : length f'.standings ≡ length f.standings
  pub each : (root : ℕ)
      → MarksOne (may root) (standing_at f.standings root) (standing_at f'.standings root)
  pub appends : f'.append_faults ≡ f.append_faults

-- the ledgers, the standings and the count of append faults stay
pub record LedgersStay (f f' : Store) : Type 0 where
  pub standings : f'.standings ≡ f.standings
  pub ledgers : Changes (OnFiles (λ files files'. (root : ℕ)
      → ledger_at files' root ≡ ledger_at files root)) f.told f'.told
  pub appends : f'.append_faults ≡ f.append_faults

-- the ledgers, the standings and both counts of faults stay
abbrev pub LedgersAndFaultsStay : Store → Store → Type 0
LedgersAndFaultsStay f f' = LedgersStay f f' × (f'.faults ≡ f.faults)

-- if memory ran out, the ledgers, the standings and both counts of faults stay
abbrev pub SparesLedgers : {T : Type 0} → Result T StepError → Store → Store → Type 0
SparesLedgers result f f' = result ≡ Err NoMemory → LedgersAndFaultsStay f f'

-- each of these roots is settled
abbrev pub AreSettled : (ℕ → Bool) → Store → Type 0
AreSettled may f = (root : ℕ) → may root ≡ true → standing_at f.standings root ≡ Settled

-- A call that gets a reply has settled the roots that it needs. If the reply says that something is
-- missing or taken, the call has settled none.
abbrev pub SettledFor : Bool → (ℕ → Bool) → Store → Store → Type 0
SettledFor true may f f' = LedgersAndFaultsStay f f'
SettledFor false may f f' = AreSettled may f'
