use Rattle.std.proofs.Common.{◌≡◌, ◌≤◌, ◌+◌, ℕ, List, [], ◌∷◌, ◌++◌, length, take, slice_get, Some, Option, Ok, Err, Result, sym, ap, subst, ◌∙◌, refl, rules, arith}
use Rattle.std.specs.List.{AllZip}
use Rattle.std.proofs.lemmas.List.{take_all}
use Rattle.keeper.specs.Calls.{Changes}
use Rattle.keeper.proofs.Changing.{changes_same, changes_then}
use Rattle.account_opening.specs.declared.error.OpenError.{OpenError}
use Rattle.account_opening.specs.declared.error.OpenError.TheVariants.{Store, NoMemory}
use Rattle.accounts_file.specs.declared.entry.AccountEntry.{AccountEntry}
use Rattle.host_opening.specs.Opening.{OpensOne, OpensEach, WasOpened}
use Rattle.host_opening.specs.Refusing.{RefusesOne, RefusesFirst}
use Rattle.host_opening.specs.Closing.{ClosesEach, faults_of}
use Rattle.host_opening.proofs.Entries.{take_next, zip_push, before_apart}
use Rattle.host_opening.proofs.Opened.{opens_so_far, none_counted}
use Rattle.host_opening.proofs.Closed.{cause_within}
use Rattle.host_opening.proofs.Refused.{refuses_all, refuses_first, same_err}
use Rattle.host_opening.proofs.host.open_accounts.Goals as goal

pub loop-account-preserved : goal.loop-account-preserved
loop-account-preserved g c =
    let tell = g.M.K.Keeper.told in
    let entries = c.args.table.now.accounts in
    let epoch = c.args.table.now.epoch in
    let i = c.loop-account.account in
    let ss = c.loop-account.states.items in
    let s = c.in-Ok-open_account.state in
    let e = c.entry.result.now in
    let inv = c.loop-account.invariant in
    let read : slice_get entries i ≡ Some e = c.entry.ensures.value in
    let opened : WasOpened epoch e s = subst (λ (n : ℕ). WasOpened n e s) c.epoch.ensures c.in-Ok-open_account.ensures.opened in
    let opens : Changes (OpensOne tell epoch e s) (g.M.Stores.told c.loop-account.stores) (g.M.Stores.told c.open_account.new.stores) =
    subst (λ (n : ℕ). Changes (OpensOne tell n e s) (g.M.Stores.told c.loop-account.stores) (g.M.Stores.told c.open_account.new.stores)) c.epoch.ensures c.in-Ok-open_account.ensures.opens in
    record {
      opened = rw (take_next entries i e read, c.push_reserved.ensures.items) (zip_push (WasOpened epoch) (take i entries) ss e s inv.opened opened);
      opens = rw c.push_reserved.ensures.items
          (changes_then (OpensEach tell epoch (take i entries) ss) (OpensOne tell epoch e s) (OpensEach tell epoch (take (i + 1) entries) (ss ++ s ∷ []))
          (λ a b d each one. opens_so_far tell epoch entries c.count-count.ensures.accounts i e ss s a b d read each one)
          (g.M.Stores.told c.args.stores.now) (g.M.Stores.told c.loop-account.stores) (g.M.Stores.told c.open_account.new.stores) inv.opens opens);
      no_fault = c.in-Ok-open_account.ensures.cause.kept (search rules) ∙ inv.no_fault;
      long = search rules;
      room = search rules;
    }

pub returns-in-Err-clause-refuses : goal.returns-in-Err-clause-refuses
returns-in-Err-clause-refuses g c =
    let tell = g.M.K.Keeper.told in
    let entries = c.args.table.now.accounts in
    let epoch = c.args.table.now.epoch in
    let i = c.loop-account.account in
    let ss = c.loop-account.states.items in
    let e = c.entry.result.now in
    let cause = c.in-Err.cause in
    let inv = c.loop-account.invariant in
    let read : slice_get entries i ≡ Some e = c.entry.ensures.value in
    let b = g.M.Stores.told c.loop-account.stores in
    let d = g.M.Stores.told c.open_account.new.stores in
    let last = g.M.Stores.told c.close_first.new.stores in
    let refuses : Changes (RefusesOne tell epoch cause e) b d = subst (λ (n : ℕ). Changes (RefusesOne tell n cause e) b d) c.epoch.ensures c.in-Err.ensures.refuses in
    let closes : Changes (ClosesEach tell g.M.K.Keeper.faults g.M.K.Keeper.append_faults g.M.K.Keeper.lists (take i entries) ss) d last =
    subst (λ (n : ℕ). Changes (ClosesEach tell g.M.K.Keeper.faults g.M.K.Keeper.append_faults g.M.K.Keeper.lists (take n entries) ss) d last) inv.long c.close_first.ensures.closes in
    changes_then (OpensEach tell epoch (take i entries) ss)
    (λ x z. (y : List (List ℕ × Option g.row.M-K.Denot)) × RefusesOne tell epoch cause e x y × ClosesEach tell g.M.K.Keeper.faults g.M.K.Keeper.append_faults g.M.K.Keeper.lists (take i entries) ss y z)
    (RefusesFirst tell epoch cause entries)
    (λ x y z opened rest. refuses_first tell g.M.K.Keeper.faults g.M.K.Keeper.append_faults g.M.K.Keeper.lists epoch cause entries i e ss x y rest.0 z read
    (before_apart entries c.count-count.ensures.accounts i e read) opened rest.1 rest.2)
    (g.M.Stores.told c.args.stores.now) b last inv.opens
    (changes_then (RefusesOne tell epoch cause e) (ClosesEach tell g.M.K.Keeper.faults g.M.K.Keeper.append_faults g.M.K.Keeper.lists (take i entries) ss)
    (λ x z. (y : List (List ℕ × Option g.row.M-K.Denot)) × RefusesOne tell epoch cause e x y × ClosesEach tell g.M.K.Keeper.faults g.M.K.Keeper.append_faults g.M.K.Keeper.lists (take i entries) ss y z)
    (λ x y z one all. (y, one, all)) b d last refuses closes)

pub returns-in-Err-clause-cause : goal.returns-in-Err-clause-cause
returns-in-Err-clause-cause g c =
    let none : faults_of c.loop-account.states.items ≡ 0 = none_counted c.args.table.now.epoch (take c.loop-account.account c.args.table.now.accounts) c.loop-account.states.items c.loop-account.invariant.opened in
    cause_within _ _ (same_err _ _ c.in-Err.cause Store) (same_err _ _ c.in-Err.cause Store) (g.M.Stores.faults c.args.stores.now) (g.M.Stores.faults c.loop-account.stores) (g.M.Stores.faults c.open_account.new.stores) (g.M.Stores.faults c.close_first.new.stores)
    c.loop-account.invariant.no_fault c.in-Err.ensures.cause (c.close_first.ensures.cause.kept (λ some. absurd (omega (arith, none, some))))

pub returns-clause-opens : goal.returns-clause-opens
returns-clause-opens g c =
    let entries = c.args.table.now.accounts in
    let all : length entries ≤ c.loop-account.account = search rules in
    subst (λ (es : List AccountEntry). Changes (OpensEach g.M.K.Keeper.told c.args.table.now.epoch es c.loop-account.states.items) (g.M.Stores.told c.args.stores.now) (g.M.Stores.told c.loop-account.stores))
    (take_all c.loop-account.account entries all) c.loop-account.invariant.opens

pub returns-clause-cause : goal.returns-clause-cause
returns-clause-cause g c = record {
  later = omega (arith, c.loop-account.invariant.no_fault);
  rose = search rules;
  kept = λ no. c.loop-account.invariant.no_fault;
}

pub returns-in_default-clause-refuses : goal.returns-in_default-clause-refuses
returns-in_default-clause-refuses g c =
    changes_same (RefusesFirst g.M.K.Keeper.told c.args.table.now.epoch NoMemory c.args.table.now.accounts)
    (λ a. refuses_all g.M.K.Keeper.told c.args.table.now.epoch c.args.table.now.accounts a c.count-count.ensures.accounts.some) (g.M.Stores.told c.args.stores.now)
