-- The desk of a workload: one account, which stays the same account, and whose keeper never fails.
use Rattle.std.proofs.Common.{◌≡◌, ◌≤◌, ◌+◌, List, [], ◌∷◌, map, Option, Some, None, refl, sym, ap, ◌∙◌, arith}
use Rattle.std.proofs.lemmas.List.Elements.{All-cons, All-nil}
use Rattle.std.specs.List.{All}
use Rattle.keeper.specs.Calls.{Told, Due}
use Rattle.account_ledger.specs.States.{State}
use Rattle.desk.specs.Shares.{Share}
use Rattle.plain_desk.specs.Continuing.{Continues, EachContinues}
use Rattle.plain_desk.specs.Owning.{share_of}
use Rattle.owner_sessions.specs.Owner.{HasAccount}
use Rattle.owner_sessions.specs.Plain.{NeverFails, empty_account, plain_share}
use Rattle.workload.specs.Accounts.{limits, HasOneAccount}

-- its opening account is told
pub opening_told : All HasAccount (plain_share limits ∷ [])
opening_told = All-cons HasAccount (plain_share limits) [] (record { account = empty_account limits; is_told = refl }) (All-nil HasAccount)

-- a keeper that never fails goes on so
still_never : (s s' : State) → NeverFails s → Continues s s' → NeverFails s'
still_never s s' never on = by s.store.told s'.store.told refl refl on.due
  where
    by : (o o' : Option Told) → s.store.told ≡ o → s'.store.told ≡ o'
        → Due ⊥ s.store.faults s.store.append_faults s'.store.faults s'.store.append_faults o o' → NeverFails s'
    by None o' e e' due = let is : None ≡ Some never.told = sym e ∙ never.is_told in absurd cc
    by (Some t) None e e' due = absurd due
    by (Some t) (Some t') e e' due =
        let is : Some t ≡ Some never.told = sym e ∙ never.is_told in
        let same : t ≡ never.told = cc in
        let none : s.store.faults + s.store.append_faults + t.due ≡ 0 = ap (λ (u : Told). s.store.faults + s.store.append_faults + u.due) same ∙ never.none in
        let p : (s'.store.faults + s'.store.append_faults) + t'.due ≤ (s.store.faults + s.store.append_faults) + t.due = due.bounded in
        record { told = t'; is_told = e'; none = omega arith }

-- the desk that was opened is one
pub fresh_account : (states : List State) → map share_of states ≡ plain_share limits ∷ [] → All NeverFails states → HasOneAccount states
fresh_account [] fresh never = absurd cc
fresh_account (x ∷ []) fresh never =
    let share : share_of x ≡ plain_share limits = cc in
    record { one = refl; origin = ap (λ (s : Share). s.origin) share; never_fails = never 0 x (omega arith) }
fresh_account (x ∷ y ∷ ys) fresh never = absurd cc

-- and stays one
pub same_account : (states states' : List State) → HasOneAccount states → EachContinues states states' → HasOneAccount states'
same_account [] ys is on = absurd (omega (arith, is.one))
same_account (x ∷ []) [] is on = absurd on
same_account (x ∷ []) (y ∷ []) is on = record { one = refl; origin = on.0.opened.origin ∙ is.origin; never_fails = still_never x y is.never_fails on.0 }
same_account (x ∷ []) (y ∷ z ∷ zs) is on = absurd on.1
same_account (x ∷ w ∷ xs) ys is on = absurd (omega (arith, is.one))
