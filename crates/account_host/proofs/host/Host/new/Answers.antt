use Rattle.std.proofs.Common.{◌≡◌, ◌≤◌, List, length, map, reverse, vec_capacity, refl, sym, ap, ◌∙◌, subst, rules, arith}
use Rattle.std.specs.List.{All, AllZip}
use Rattle.std.proofs.lemmas.List.{length-map, length-reverse, reverse-reverse}
use Rattle.std.proofs.lemmas.Slice.Zip.{AllZip-long}
use Rattle.account_ledger.specs.States.{State}
use Rattle.account_lock.specs.Passes.{view, IsOf}
use Rattle.account_host.specs.Sets.{views}
use Rattle.account_host.specs.Beginning.{IsFirstOf, IsFresh}
use Rattle.account_host.proofs.Seated.{seated_of}
use Rattle.account_host.proofs.Ended.{all_reverse, begun_numbers, begun_within, turned_back}
use Rattle.account_host.proofs.host.Host.new.Goals as goal

pub lock_each-requires : goal.lock_each-requires
lock_each-requires g c = record {
  callers = c.requires.callers;
  fresh = rw c.reverse.ensures.items (all_reverse IsFresh c.args.states.items c.requires.fresh);
}

pub invariant_of-host : goal.invariant_of-host
invariant_of-host g c =
    let locked = c.in-Ok.ensures.locked in
    let states = c.args.states.items in
    let turned = c.reverse.new.self.items in
    let locks = c.in-Ok.field-0.locks.items in
    let passes = c.in-Ok.field-0.passes.items in
    let back : reverse turned ≡ states = ap reverse c.reverse.ensures.items ∙ reverse-reverse states in
    let accounts : AllZip IsFirstOf states (views passes) = subst (λ (l : List State). AllZip IsFirstOf l (views passes)) back locked.first in
    let a : length passes ≡ length locks = AllZip-long IsOf locks passes locked.seated in
    let b : length (views passes) ≡ length states = AllZip-long IsFirstOf states (views passes) accounts in
    let d : length (views passes) ≡ length passes = length-map passes view in
    let e : length turned ≡ length states = ap length c.reverse.ensures.items ∙ length-reverse states in
    let room : length turned ≤ vec_capacity c.in-Ok.field-0.spare = locked.room in
    let few : length states ≤ 32 = c.requires.few in
    record {
      limits = locked.limits;
      empty = locked.empty;
      room = let fits : length locks ≤ vec_capacity c.in-Ok.field-0.spare = omega arith in fits;
      few = let fits : length locks ≤ 32 = omega arith in fits;
    }

pub returns-in-Ok : goal.returns-in-Ok
returns-in-Ok g c =
    let locked = c.in-Ok.ensures.locked in
    let states = c.args.states.items in
    let turned = c.reverse.new.self.items in
    let locks = c.in-Ok.field-0.locks.items in
    let passes = c.in-Ok.field-0.passes.items in
    let back : reverse turned ≡ states = ap reverse c.reverse.ensures.items ∙ reverse-reverse states in
    let accounts : AllZip IsFirstOf states (views passes) = subst (λ (l : List State). AllZip IsFirstOf l (views passes)) back locked.first in
    record {
      set = record { seated = seated_of locks passes locked.seated; within = begun_within states (views passes) accounts };
      callers = refl;
      accounts = accounts;
      first = begun_numbers states (views passes) accounts;
      refused = tt;
    }

pub returns-in-Err : goal.returns-in-Err
returns-in-Err g c = record {
  set = tt;
  callers = tt;
  accounts = tt;
  first = tt;
  refused = turned_back c.args.states.items c.reverse.new.self.items c.in-Err.field-0.states.items c.reverse-in-Err.new.self.items c.reverse.ensures.items c.in-Err.ensures.refused
      c.reverse-in-Err.ensures.items;
}
