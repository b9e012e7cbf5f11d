-- What holds of an account between two sessions of its owner.
use Rattle.std.specs.Prelude.{◌≡◌, ◌<◌, ℕ, length, IfSome}
use Rattle.keeper.specs.Files.{ledger_at}
use Rattle.admission.specs.Fitting.{limits_at}
use Rattle.account_core.specs.Account.{Account}
use Rattle.account_core.specs.Histories.{calls_by}
use Rattle.account_core.specs.Legality.{IsLegal}
use Rattle.root_ledgers.specs.declared.book.Standing.TheVariants.{Settled}
use Rattle.root_ledgers.specs.Ledgers.{IsRight}
use Rattle.account_ledger.specs.States.{State, IsAccount}
use Rattle.account_ledger.specs.Stores.{fresh_scan, standing_at}

-- the history is legal, and each of its entries is the owner's
pub record HasLegalHistory (s : State) : Type 0 where
  pub legal : IsLegal s.origin.journal s.first_faults s.store.faults s.history
  pub own : calls_by 0 s.history ≡ s.history

-- if the keeper tells its files, the ledger of each settled root is a written text whose lines add
-- up to a fresh scan
abbrev pub HasFreshSums : State → Type 0
HasFreshSums s = (account : Account) → IsAccount s account → IfSome s.store.told (λ told.
    (root : ℕ) → root < length s.store.roots → standing_at s.store.standings root ≡ Settled
    → IsRight (limits_at account.limits root)
    (fresh_scan s.store.roots root account.mailboxes told.files.rows) (ledger_at told.files root))
