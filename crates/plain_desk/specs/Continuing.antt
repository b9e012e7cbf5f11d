-- What the owner's calls keep of an account besides its history.
use Rattle.std.specs.Prelude.{◌≡◌, ◌≤◌, ◌<◌, ◌+◌, ◌-◌, ◌^◌, ℕ, List, length, map, Option, Some, None, IfSome}
use Rattle.std.specs.List.{All, AllZip}
use Rattle.std.proofs.Common.{refl, ◌∙◌, arith}
use Rattle.keeper.specs.Calls.{Told, Due}
use Rattle.account_core.specs.Legality.{fault_count}
use Rattle.account_ledger.specs.States.{State, IsInOrder, Opened}
use Rattle.account_ledger.specs.Stores.{NoneFalls}
use Rattle.desk.specs.Shares.{HaveNoFailure}
use Rattle.plain_desk.specs.Owning.{AreOwned, share_of}

-- The second is a later state of the same account. What the account was opened with stays, neither
-- count of faults falls, and the faults and the failures that are due, added up, never grow.
pub record Continues (s s' : State) : Type 0 where
  pub opened : Opened s s'
  pub later : NoneFalls s.store s'.store
  pub due : Due ⊥ s.store.faults s.store.append_faults s'.store.faults s'.store.append_faults
      s.store.told s'.store.told

-- later states of the same accounts
abbrev pub EachContinues : List State → List State → Type 0
EachContinues states states' = AllZip Continues states states'

due_itself : (faults appends : ℕ) (told : Option Told)
    → Due ⊥ faults appends faults appends told told
due_itself faults appends None = tt
due_itself faults appends (Some told) = record { fewer = λ no. absurd no; bounded = omega arith }

pub continues_itself : (s : State) → Continues s s
continues_itself s = record {
  opened = record { origin = refl; first_faults = refl };
  later = record { faults = omega arith; appends = omega arith };
  due = due_itself s.store.faults s.store.append_faults s.store.told;
}

due_on : (f a f' a' f'' a'' : ℕ) (told told' told'' : Option Told) → Due ⊥ f a f' a' told told'
    → Due ⊥ f' a' f'' a'' told' told'' → Due ⊥ f a f'' a'' told told''
due_on f a f' a' f'' a'' None None None one two = tt
due_on f a f' a' f'' a'' None None (Some t'') one two = absurd two
due_on f a f' a' f'' a'' None (Some t') told'' one two = absurd one
due_on f a f' a' f'' a'' (Some t) None told'' one two = absurd one
due_on f a f' a' f'' a'' (Some t) (Some t') None one two = absurd two
due_on f a f' a' f'' a'' (Some t) (Some t') (Some t'') one two =
    let p : (f' + a') + t'.due ≤ (f + a) + t.due = one.bounded in
    let q : (f'' + a'') + t''.due ≤ (f' + a') + t'.due = two.bounded in
    record { fewer = λ no. absurd no; bounded = omega arith }

pub continues_on : (first between last : State) → Continues first between → Continues between last
    → Continues first last
continues_on first between last one two =
    let p : first.store.faults ≤ between.store.faults = one.later.faults in
    let q : between.store.faults ≤ last.store.faults = two.later.faults in
    let r : first.store.append_faults ≤ between.store.append_faults = one.later.appends in
    let s : between.store.append_faults ≤ last.store.append_faults = two.later.appends in
    record {
      opened = record {
        origin = two.opened.origin ∙ one.opened.origin;
        first_faults = two.opened.first_faults ∙ one.opened.first_faults;
      };
      later = record { faults = omega arith; appends = omega arith };
      due = due_on first.store.faults first.store.append_faults between.store.faults
          between.store.append_faults last.store.faults last.store.append_faults
          first.store.told between.store.told last.store.told one.due two.due;
    }

-- If no failure of its keeper was due when an account was opened, no entry of its history has
-- fault.
abbrev pub NoneDueNoFault : Type 0
NoneDueNoFault =
    (opened now : State) → Continues opened now → IsInOrder now
    → opened.store.faults ≡ opened.first_faults → opened.first_faults < 2 ^ 64 - 1
    → IfSome opened.store.told (λ told. told.due ≡ 0 → fault_count now.history ≡ 0)

-- the account's keeper tells its files, no call of it but an append has failed since the opening,
-- and no failure is due
pub record HasNoneDue (s : State) : Type 0 where
  pub told : Told
  pub is_told : s.store.told ≡ Some told
  pub none_due : told.due ≡ 0
  pub none_yet : s.store.faults ≡ s.first_faults
  pub countable : s.first_faults < 2 ^ 64 - 1

-- the history has room for one more entry
abbrev pub HasRoom : State → Type 0
HasRoom s = length s.history < s.origin.journal

-- If no failure of any keeper was due, no account has a failure after the owner's calls, as long as
-- its journal lasts.
abbrev pub NoneDueNoFailures : Type 0
NoneDueNoFailures =
    (states states' : List State) → EachContinues states states' → AreOwned states'
    → All HasNoneDue states → All HasRoom states' → HaveNoFailure (map share_of states')
