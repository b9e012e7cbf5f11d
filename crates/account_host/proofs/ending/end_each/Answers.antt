use Rattle.std.proofs.Common.{◌≡◌, ◌<◌, ◌≤◌, ◌+◌, List, [], ◌∷◌, ◌++◌, length, reverse, append-nil, append_assoc, vec_len, vec_capacity, option_to_list, Option, sym, ap, ◌∙◌, subst, rules, arith}
use Rattle.std.specs.List.{All, AllZip}
use Rattle.std.proofs.lemmas.List.{length_push, reverse-reverse}
use Rattle.std.proofs.lemmas.Slice.Zip.{AllZip-long}
use Rattle.account_ledger.specs.States.{State}
use Rattle.account_lock.specs.Known.{View}
use Rattle.account_lock.specs.Passes.{view, IsOf}
use Rattle.account_lock.specs.declared.pass.Pass.{Pass}
use Rattle.account_lock.specs.declared.lock.Lock.{Lock}
use Rattle.account_host.specs.Closing.{Closes, PassCloses}
use Rattle.account_host.proofs.Zips.{zip_pop, zip_push}
use Rattle.account_host.proofs.Seated.{none_seated}
use Rattle.account_host.proofs.Ended.{moved, views_front}
use Rattle.account_host.proofs.ending.end_each.Goals as goal

pub loop-lock-init : goal.loop-lock-init
loop-lock-init g c = record {
  gone = [];
  more = [];
  joined = append-nil c.args.passes.items;
  added = sym (append-nil c.args.states.items);
  closed = tt;
  seated = c.requires.seated;
  first = c.requires.first;
  whole = c.requires.whole;
  room = c.requires.room;
}

pub unwrap-pass-requires : goal.unwrap-pass-requires
unwrap-pass-requires g c =
    let locks_are : c.loop-lock.locks.items ≡ c.pop.new.self.items ++ c.in-Some.lock ∷ [] = c.in-Some.ensures.items in
    let long : length c.loop-lock.locks.items ≡ length c.pop.new.self.items + 1 = ap length locks_are ∙ length_push c.pop.new.self.items c.in-Some.lock in
    let as_many = AllZip-long IsOf c.loop-lock.locks.items c.loop-lock.passes.items c.loop-lock.invariant.seated in
    let some : 0 < length c.loop-lock.passes.items = omega arith in
    let some' : 0 < vec_len c.loop-lock.passes = search (rules, some) in
    c.pop-in-Some.ensures.variant.1 some'

pub close-requires-clause-lock : goal.close-requires-clause-lock
close-requires-clause-lock g c =
    let rest = c.pop.new.self.items in
    let rest' = c.pop-in-Some.new.self.items in
    let lock = c.in-Some.lock in
    let pass = c.unwrap-pass.result in
    let locks_are : c.loop-lock.locks.items ≡ rest ++ lock ∷ [] = c.in-Some.ensures.items in
    let passes_are : c.loop-lock.passes.items ≡ rest' ++ pass ∷ [] = c.pop-in-Some.ensures.items ∙ ap (λ (o : Option Pass). rest' ++ option_to_list o) c.unwrap-pass.ensures in
    (zip_pop IsOf rest rest' lock pass (rw (← locks_are, ← passes_are) c.loop-lock.invariant.seated)).1

pub close-requires-clause-first : goal.close-requires-clause-first
close-requires-clause-first g c =
    let rest' = c.pop-in-Some.new.self.items in
    let pass = c.unwrap-pass.result in
    let passes_are : c.loop-lock.passes.items ≡ rest' ++ pass ∷ [] = c.pop-in-Some.ensures.items ∙ ap (λ (o : Option Pass). rest' ++ option_to_list o) c.unwrap-pass.ensures in
    (views_front (λ v. v.number ≡ 0) rest' c.loop-lock.passes.items pass passes_are c.loop-lock.invariant.first).1

pub unreachable-requires : goal.unreachable-requires
unreachable-requires g c =
    let rest' = c.pop-in-Some.new.self.items in
    let pass = c.unwrap-pass.result in
    let passes_are : c.loop-lock.passes.items ≡ rest' ++ pass ∷ [] = c.pop-in-Some.ensures.items ∙ ap (λ (o : Option Pass). rest' ++ option_to_list o) c.unwrap-pass.ensures in
    let whole : (view pass).made ≤ (view pass).held = (views_front (λ v. v.made ≤ v.held) rest' c.loop-lock.passes.items pass passes_are c.loop-lock.invariant.whole).1 in
    let fewer : (view pass).held < (view pass).made = c.in_default-close.ensures.refused.0 in
    omega arith

pub loop-lock-preserved : goal.loop-lock-preserved
loop-lock-preserved g c =
    let inv = c.loop-lock.invariant in
    let rest = c.pop.new.self.items in
    let rest' = c.pop-in-Some.new.self.items in
    let lock = c.in-Some.lock in
    let pass = c.unwrap-pass.result in
    let state : State = c.in-Ok.state in
    let locks_are : c.loop-lock.locks.items ≡ rest ++ lock ∷ [] = c.in-Some.ensures.items in
    let passes_are : c.loop-lock.passes.items ≡ rest' ++ pass ∷ [] = c.pop-in-Some.ensures.items ∙ ap (λ (o : Option Pass). rest' ++ option_to_list o) c.unwrap-pass.ensures in
    let told = c.in-Ok.ensures in
    let closes : Closes (view pass) state = record {
      origin = told.whole.0;
      entries = told.whole.1;
      callers = told.whole.2;
      seen = told.before.0;
      olds = told.before.1;
      mine = told.mine;
    } in
    let fewer : length c.loop-lock.locks.items ≡ length rest + 1 = ap length locks_are ∙ length_push rest lock in
    let longer : length c.push_reserved.new.self.items ≡ length c.loop-lock.states.items + 1 = ap length c.push_reserved.ensures.items ∙ length_push c.loop-lock.states.items state in
    let capacity : vec_capacity c.push_reserved.new.self ≡ vec_capacity c.loop-lock.states = c.push_reserved.ensures.capacity in
    let room : length c.loop-lock.states.items + length c.loop-lock.locks.items ≤ vec_capacity c.loop-lock.states = inv.room in
    record {
      gone = inv.gone ++ pass ∷ [];
      more = inv.more ++ state ∷ [];
      joined = moved rest' inv.gone c.args.passes.items pass (ap (λ (l : List Pass). l ++ reverse inv.gone) (sym passes_are) ∙ inv.joined);
      added = c.push_reserved.ensures.items ∙ ap (λ (l : List State). l ++ state ∷ []) inv.added ∙ append_assoc c.args.states.items inv.more (state ∷ []);
      closed = zip_push PassCloses inv.gone inv.more pass state inv.closed closes;
      seated = (zip_pop IsOf rest rest' lock pass (rw (← locks_are, ← passes_are) inv.seated)).0;
      first = (views_front (λ v. v.number ≡ 0) rest' c.loop-lock.passes.items pass passes_are inv.first).0;
      whole = (views_front (λ v. v.made ≤ v.held) rest' c.loop-lock.passes.items pass passes_are inv.whole).0;
      room = omega arith;
    }

pub returns : goal.returns
returns g c =
    let inv = c.loop-lock.invariant in
    let none : c.loop-lock.locks.items ≡ [] = search rules in
    let left : c.loop-lock.passes.items ≡ [] = none_seated c.loop-lock.locks.items c.loop-lock.passes.items none inv.seated in
    let all : reverse inv.gone ≡ c.args.passes.items = ap (λ (l : List Pass). l ++ reverse inv.gone) (sym left) ∙ inv.joined in
    record {
      more = inv.more;
      added = inv.added;
      closed = subst (λ (l : List Pass). AllZip PassCloses l inv.more) (sym (reverse-reverse inv.gone) ∙ ap reverse all) inv.closed;
    }
