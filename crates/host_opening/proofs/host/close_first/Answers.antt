use Rattle.std.proofs.Common.{◌≡◌, ◌≤◌, ◌<◌, ◌+◌, ℕ, List, [], ◌∷◌, ◌++◌, length, take, drop, length-take, length-append, append-nil, append_assoc, slice_get, Some, sym, ap, subst, ◌∙◌, refl, rules, arith}
use Rattle.std.proofs.lemmas.List.{drop_all, length_push}
use Rattle.keeper.proofs.Changing.{changes_same, changes_then}
use Rattle.host_opening.specs.Closing.{ClosesOne, ClosesEach}
use Rattle.host_opening.proofs.Closed.{closes_end, closes_next, cause_none, cause_next}
use Rattle.host_opening.proofs.host.close_first.Goals as goal

pub loop-state-init : goal.loop-state-init
loop-state-init g c =
    let states = c.args.states.items in
    let entries = c.args.table.now.accounts in
    let first = take (length states) entries in
    let short : length first ≤ length states = grind (arith, length-take) in
    let none : drop (length states) first ≡ [] = drop_all (length states) first short in (
      [],
      append-nil states,
      changes_same (ClosesEach g.M.K.Keeper.told g.M.K.Keeper.faults g.M.K.Keeper.append_faults g.M.K.Keeper.lists (drop (length states) first) [])
          (λ a. closes_end g.M.K.Keeper.told g.M.K.Keeper.faults g.M.K.Keeper.append_faults g.M.K.Keeper.lists (drop (length states) first) a none) (g.M.Stores.told c.args.stores.now),
      cause_none (g.M.Stores.faults c.args.stores.now),
    )

pub loop-state-preserved : goal.loop-state-preserved
loop-state-preserved g c =
    let (gone, joined, told, cause) = c.loop-state.invariant in
    let entries = c.args.table.now.accounts in
    let n = length c.args.states.items in
    let state = c.in-Some.state in
    let rest = c.pop.new.self.items in
    let entry = c.entry.result.now in
    let items : c.loop-state.states.items ≡ rest ++ state ∷ [] = c.in-Some.ensures.items in
    let all : rest ++ (state ∷ gone) ≡ c.args.states.items = sym (append_assoc rest (state ∷ []) gone) ∙ ap (λ l. l ++ gone) (sym items) ∙ joined in
    let next : length c.loop-state.states.items ≡ length rest + 1 = ap length items ∙ length_push rest state in
    let within : length rest < n = omega (arith, sym (ap length all) ∙ length-append rest (state ∷ gone)) in
    let at : c.len-account.result ≡ length rest = search rules in
    let read : slice_get entries (length rest) ≡ Some entry = subst (λ (k : ℕ). slice_get entries k ≡ Some entry) at c.entry.ensures.value in (
      state ∷ gone,
      all,
      changes_then (ClosesEach g.M.K.Keeper.told g.M.K.Keeper.faults g.M.K.Keeper.append_faults g.M.K.Keeper.lists (drop (length c.loop-state.states.items) (take n entries)) gone)
          (ClosesOne g.M.K.Keeper.told g.M.K.Keeper.faults g.M.K.Keeper.append_faults g.M.K.Keeper.lists entry state)
          (ClosesEach g.M.K.Keeper.told g.M.K.Keeper.faults g.M.K.Keeper.append_faults g.M.K.Keeper.lists (drop (length rest) (take n entries)) (state ∷ gone))
          (λ a b d each one. closes_next g.M.K.Keeper.told g.M.K.Keeper.faults g.M.K.Keeper.append_faults g.M.K.Keeper.lists entries c.count-count.ensures.accounts n (length c.loop-state.states.items) (length rest) entry gone state a b d
          read within next each one)
          (g.M.Stores.told c.args.stores.now) (g.M.Stores.told c.loop-state.stores) (g.M.Stores.told c.close_account.new.stores) told c.close_account.ensures.closes,
      cause_next gone state (g.M.Stores.faults c.args.stores.now) (g.M.Stores.faults c.loop-state.stores) (g.M.Stores.faults c.close_account.new.stores) cause c.close_account.ensures.cause,
    )
