use Rattle.std.proofs.Common.{◌≡◌, ◌+◌, List, ℕ, Ok, ap, sym, subst, ◌∙◌, refl, rules, arith}
use Rattle.keeper.specs.Accounts.{Opens, Closes}
use Rattle.keeper.specs.declared.failed.KeepError.{KeepError}
use Rattle.keeper.proofs.Changing.{changes_weaken, changes_then}
use Rattle.account_opening.specs.declared.error.OpenError.{OpenError}
use Rattle.account_opening.specs.declared.error.OpenError.TheVariants.{Store}
use Rattle.host_opening.specs.Opening.{OpensOne}
use Rattle.host_opening.specs.Refusing.{RefusesOne}
use Rattle.host_opening.proofs.Opened.{opened_with, opens_one}
use Rattle.host_opening.proofs.Refused.{refuses_given}
use Rattle.host_opening.proofs.account.open_account.Goals as goal

pub returns-in-Ok-open-clause-opens : goal.returns-in-Ok-open-clause-opens
returns-in-Ok-open-clause-opens g c =
    let tell = g.M.K.Keeper.told in
    let keeper = c.in_ok-keeper.keeper in
    let entry = c.args.entry.now in
    let s = c.in-Ok-open.state in
    let is = opened_with (tell keeper) (g.M.K.Keeper.faults keeper) (g.M.K.Keeper.append_faults keeper) c.args.epoch c.in-Ok.setup entry s c.in-Ok.ensures
    c.in_ok-keeper.ensures.fresh.0 c.in_ok-keeper.ensures.fresh.1 c.in-Ok-open.ensures.opened c.in-Ok-open.ensures.admitted c.in-Ok-open.ensures.due c.in-Ok-open.ensures.appends c.in-Ok-open.ensures.order in
    changes_weaken (Opens {E = KeepError} (λ kept k. (tell k ≡ tell kept) × (g.M.K.Keeper.lists k ≡ g.M.K.Keeper.lists kept)) c.as_slice.result.now (Ok keeper))
    (OpensOne tell c.args.epoch entry s)
    (λ a b opens. opens_one tell KeepError (λ kept k. (tell k ≡ tell kept) × (g.M.K.Keeper.lists k ≡ g.M.K.Keeper.lists kept)) (λ kept k same. same.0) c.args.epoch entry s keeper a b is
    (subst (λ (name : List ℕ). Opens {E = KeepError} (λ kept k. (tell k ≡ tell kept) × (g.M.K.Keeper.lists k ≡ g.M.K.Keeper.lists kept)) name (Ok keeper) a b) c.as_slice.ensures.value opens))
    (g.M.Stores.told c.args.stores.now) (g.M.Stores.told c.open.new.self) c.in_ok-keeper.ensures.accounts

pub returns-in-Err-clause-refuses : goal.returns-in-Err-clause-refuses
returns-in-Err-clause-refuses g c =
    let tell = g.M.K.Keeper.told in
    let keeper = c.in_ok-keeper.keeper in
    let fault = c.in-Err.field-0 in
    let entry = c.args.entry.now in
    let none : g.M.K.Keeper.faults keeper + g.M.K.Keeper.append_faults keeper ≡ 0 = omega (arith, c.in_ok-keeper.ensures.fresh.0, c.in_ok-keeper.ensures.fresh.1) in
    changes_then (Opens {E = KeepError} (λ kept k. (tell k ≡ tell kept) × (g.M.K.Keeper.lists k ≡ g.M.K.Keeper.lists kept)) c.as_slice.result.now (Ok keeper))
    (Closes c.as_slice-in-Err.result.now fault.keeper) (RefusesOne tell c.args.epoch fault.cause entry)
    (λ a b d opens closes. refuses_given tell KeepError (λ kept k. (tell k ≡ tell kept) × (g.M.K.Keeper.lists k ≡ g.M.K.Keeper.lists kept)) (λ kept k same. same.0)
    c.args.epoch fault.cause c.in-Ok.setup entry (g.M.K.Keeper.faults keeper + g.M.K.Keeper.append_faults keeper)
    (g.M.K.Keeper.faults fault.keeper + g.M.K.Keeper.append_faults fault.keeper) keeper fault.keeper a b d c.in-Ok.ensures none c.in-Err.ensures.refused c.in-Err.ensures.due_then
    (subst (λ (name : List ℕ). Opens {E = KeepError} (λ kept k. (tell k ≡ tell kept) × (g.M.K.Keeper.lists k ≡ g.M.K.Keeper.lists kept)) name (Ok keeper) a b) c.as_slice.ensures.value opens)
    (subst (λ (name : List ℕ). Closes name fault.keeper b d) c.as_slice-in-Err.ensures.value closes))
    (g.M.Stores.told c.args.stores.now) (g.M.Stores.told c.open.new.self) (g.M.Stores.told c.close.new.self) c.in_ok-keeper.ensures.accounts c.close.ensures.accounts
