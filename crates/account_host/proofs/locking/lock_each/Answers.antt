use Rattle.std.proofs.Common.{◌≡◌, ◌<◌, ◌≤◌, ◌+◌, ℕ, List, [], ◌∷◌, ◌++◌, length, reverse, append-nil, length-append, vec_len, vec_capacity, sym, ap, ◌∙◌, subst, rules, arith}
use Rattle.std.specs.List.{All, AllZip}
use Rattle.std.proofs.lemmas.List.{length_push, length-reverse}
use Rattle.std.proofs.lemmas.List.Elements.{All-push}
use Rattle.std.proofs.lemmas.Slice.Zip.{AllZip-long}
use Rattle.account_ledger.specs.States.{State}
use Rattle.account_lock.specs.Passes.{view, limit_of, IsOf}
use Rattle.account_host.specs.Beginning.{IsFirstOf, IsFresh}
use Rattle.account_host.specs.Closing.{Ends}
use Rattle.account_host.proofs.Zips.{zip_push}
use Rattle.account_host.proofs.Places.{all_front}
use Rattle.account_host.proofs.Ended.{PassBegins, all_back, all_left, begun_first, begun_views, begun_whole, moved, none_done}
use Rattle.account_host.proofs.locking.lock_each.Goals as goal

pub returns-in_default-clause-refused : goal.returns-in_default-clause-refused
returns-in_default-clause-refused g c = none_done c.args.states.items c.requires.fresh

pub returns-in_default-with_capacity-clause-refused : goal.returns-in_default-with_capacity-clause-refused
returns-in_default-with_capacity-clause-refused g c = none_done c.args.states.items c.requires.fresh

pub loop-state-init : goal.loop-state-init
loop-state-init g c = record {
  gone = [];
  joined = append-nil c.args.states.items;
  seated = rw (c.in-Ok.ensures.items, c.in-Ok-with_capacity.ensures.items) tt;
  limits = let none : length c.in-Ok.locks.items ≡ 0 = ap length c.in-Ok.ensures.items in λ k d lt. let l : k < length c.in-Ok.locks.items = lt in absurd (omega arith);
  begun = rw c.in-Ok-with_capacity.ensures.items tt;
  room = search rules;
  locks_room = search rules;
  passes_room = search rules;
}

pub new-requires-clause-history : goal.new-requires-clause-history
new-requires-clause-history g c =
    let rest = c.pop.new.self.items in
    let state : State = c.in-Some.state in
    let popped : c.loop-state.states.items ≡ rest ++ state ∷ [] = c.in-Some.ensures.items in
    let joined : (rest ++ state ∷ []) ++ reverse c.loop-state.invariant.gone ≡ c.args.states.items = ap (λ (l : List State). l ++ reverse c.loop-state.invariant.gone) (sym popped) ∙ c.loop-state.invariant.joined in
    (all_front IsFresh rest state (all_left IsFresh (rest ++ state ∷ []) (reverse c.loop-state.invariant.gone) (subst (All IsFresh) (sym joined) c.requires.fresh))).1

pub end_each-requires : goal.end_each-requires
end_each-requires g c =
    let inv = c.loop-state.invariant in
    let locks = c.loop-state.locks.items in
    let passes = c.loop-state.passes.items in
    let states = c.loop-state.states.items in
    let as_many : length passes ≡ length locks = AllZip-long IsOf locks passes inv.seated in
    let as_begun : length passes ≡ length inv.gone = AllZip-long PassBegins inv.gone passes inv.begun in
    let count : length states + length inv.gone ≡ length c.args.states.items = omega (arith, ap length inv.joined, length-append states (reverse inv.gone), length-reverse inv.gone) in
    let popped : states ≡ c.pop.new.self.items ++ c.in-Some.state ∷ [] = c.in-Some.ensures.items in
    let one_fewer : length states ≡ length c.pop.new.self.items + 1 = ap length popped ∙ length_push c.pop.new.self.items c.in-Some.state in
    let grown : length c.push_reserved-in-Err.new.self.items ≡ length c.pop.new.self.items + 1 = ap length c.push_reserved-in-Err.ensures.items ∙ length_push c.pop.new.self.items _ in
    let kept : vec_capacity c.push_reserved-in-Err.new.self ≡ vec_capacity c.pop.new.self = c.push_reserved-in-Err.ensures.capacity in
    let kept' : vec_capacity c.pop.new.self ≡ vec_capacity c.loop-state.states = c.pop.ensures.capacity in
    let room : length c.args.states.items ≤ vec_capacity c.loop-state.states = inv.room in
    record {
      seated = inv.seated;
      first = begun_first inv.gone passes inv.begun;
      whole = begun_whole inv.gone passes inv.begun;
      room = omega arith;
    }

pub push_reserved-requires : goal.push_reserved-requires
push_reserved-requires g c =
    let inv = c.loop-state.invariant in
    let locks = c.loop-state.locks.items in
    let passes = c.loop-state.passes.items in
    let states = c.loop-state.states.items in
    let as_many : length passes ≡ length locks = AllZip-long IsOf locks passes inv.seated in
    let as_begun : length passes ≡ length inv.gone = AllZip-long PassBegins inv.gone passes inv.begun in
    let count : length states + length inv.gone ≡ length c.args.states.items = omega (arith, ap length inv.joined, length-append states (reverse inv.gone), length-reverse inv.gone) in
    let popped : states ≡ c.pop.new.self.items ++ c.in-Some.state ∷ [] = c.in-Some.ensures.items in
    let one_fewer : length states ≡ length c.pop.new.self.items + 1 = ap length popped ∙ length_push c.pop.new.self.items c.in-Some.state in
    let room : length c.args.states.items ≤ vec_capacity c.loop-state.locks = inv.locks_room in
    let fewer : length locks < vec_capacity c.loop-state.locks = omega arith in
    search (rules, fewer)

pub push_reserved-requires-in-Ok-new : goal.push_reserved-requires-in-Ok-new
push_reserved-requires-in-Ok-new g c =
    let inv = c.loop-state.invariant in
    let locks = c.loop-state.locks.items in
    let passes = c.loop-state.passes.items in
    let states = c.loop-state.states.items in
    let as_many : length passes ≡ length locks = AllZip-long IsOf locks passes inv.seated in
    let as_begun : length passes ≡ length inv.gone = AllZip-long PassBegins inv.gone passes inv.begun in
    let count : length states + length inv.gone ≡ length c.args.states.items = omega (arith, ap length inv.joined, length-append states (reverse inv.gone), length-reverse inv.gone) in
    let popped : states ≡ c.pop.new.self.items ++ c.in-Some.state ∷ [] = c.in-Some.ensures.items in
    let one_fewer : length states ≡ length c.pop.new.self.items + 1 = ap length popped ∙ length_push c.pop.new.self.items c.in-Some.state in
    let room : length c.args.states.items ≤ vec_capacity c.loop-state.passes = inv.passes_room in
    let fewer : length passes < vec_capacity c.loop-state.passes = omega arith in
    search (rules, fewer)

pub loop-state-preserved : goal.loop-state-preserved
loop-state-preserved g c =
    let inv = c.loop-state.invariant in
    let rest = c.pop.new.self.items in
    let state : State = c.in-Some.state in
    let popped : c.loop-state.states.items ≡ rest ++ state ∷ [] = c.in-Some.ensures.items in
    let joined : (rest ++ state ∷ []) ++ reverse c.loop-state.invariant.gone ≡ c.args.states.items = ap (λ (l : List State). l ++ reverse c.loop-state.invariant.gone) (sym popped) ∙ c.loop-state.invariant.joined in
    let lock = c.in-Ok-new.lock in
    let pass = c.in-Ok-new.pass in
    let told = c.in-Ok-new.ensures in
    let begins : PassBegins state pass = record {
      origin = told.seen.1;
      number = told.first.0;
      made = told.first.1;
      seen = told.seen.0;
      new = told.first.2;
    } in
    let a : vec_capacity c.pop.new.self ≡ vec_capacity c.loop-state.states = c.pop.ensures.capacity in
    let b : vec_capacity c.push_reserved.new.self ≡ vec_capacity c.loop-state.locks = c.push_reserved.ensures.capacity in
    let d : vec_capacity c.push_reserved-in-Ok-new.new.self ≡ vec_capacity c.loop-state.passes = c.push_reserved-in-Ok-new.ensures.capacity in
    record {
      gone = inv.gone ++ state ∷ [];
      joined = moved rest inv.gone c.args.states.items state joined;
      seated = rw (c.push_reserved.ensures.items, c.push_reserved-in-Ok-new.ensures.items) (zip_push IsOf c.loop-state.locks.items c.loop-state.passes.items lock pass inv.seated told.made.1);
      limits = rw c.push_reserved.ensures.items (All-push (λ l. limit_of l ≡ c.args.callers) c.loop-state.locks.items lock inv.limits told.made.0);
      begun = rw c.push_reserved-in-Ok-new.ensures.items (zip_push PassBegins inv.gone c.loop-state.passes.items state pass inv.begun begins);
      room = omega (arith, a, inv.room);
      locks_room = omega (arith, b, inv.locks_room);
      passes_room = omega (arith, d, inv.passes_room);
    }

pub returns : goal.returns
returns g c =
    let inv = c.loop-state.invariant in
    let none : c.loop-state.states.items ≡ [] = search rules in
    let empty : c.pop.new.self.items ≡ [] = search rules in
    let all : reverse inv.gone ≡ c.args.states.items = ap (λ (l : List State). l ++ reverse inv.gone) (sym none) ∙ inv.joined in
    let a : vec_capacity c.pop.new.self ≡ vec_capacity c.loop-state.states = c.pop.ensures.capacity in
    record {
      locked = record {
        seated = inv.seated;
        limits = inv.limits;
        first = begun_views c.args.states.items inv.gone c.loop-state.passes.items all inv.begun;
        empty = empty;
        room = omega (arith, a, inv.room);
      };
      refused = tt;
    }

pub returns-in-Err : goal.returns-in-Err
returns-in-Err g c =
    let inv = c.loop-state.invariant in
    let rest = c.pop.new.self.items in
    let state : State = c.in-Some.state in
    let popped : c.loop-state.states.items ≡ rest ++ state ∷ [] = c.in-Some.ensures.items in
    let joined : (rest ++ state ∷ []) ++ reverse c.loop-state.invariant.gone ≡ c.args.states.items = ap (λ (l : List State). l ++ reverse c.loop-state.invariant.gone) (sym popped) ∙ c.loop-state.invariant.joined in
    let value : c.in-Err.field-0.value ≡ state = c.in-Err.ensures.refused in
    let pushed : c.push_reserved-in-Err.new.self.items ≡ rest ++ state ∷ [] = c.push_reserved-in-Err.ensures.items ∙ ap (λ (s : State). rest ++ s ∷ []) value in
    let ends : Ends c.loop-state.passes.items (rest ++ state ∷ []) c.end_each.result.items = subst (λ (l : List State). Ends c.loop-state.passes.items l c.end_each.result.items) pushed c.end_each.ensures in
    record {
      locked = tt;
      refused = all_back c.args.states.items rest inv.gone c.end_each.result.items state c.loop-state.passes.items c.requires.fresh joined inv.begun ends;
    }
