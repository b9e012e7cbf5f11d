use Rattle.std.proofs.Common.{◌≡◌, ◌≢◌, ◌<◌, ◌≤◌, ◌+◌, ℕ, suc, List, [], ◌∷◌, ◌++◌, length, map, set, take, drop, append-nil, slice_get, Some, vec_len, vec_capacity, sym, ap, ◌∙◌, subst, rules, arith, length-take}
use Rattle.std.specs.List.{All, AllZip}
use Rattle.std.proofs.lemmas.List.{length-map, map-set, map-append, take_all, drop_all}
use Rattle.std.proofs.lemmas.List.Elements.{All-map}
use Rattle.std.proofs.lemmas.Slice.Zip.{AllZip-long}
use Rattle.std.proofs.lemmas.Option.{slice_get-get_or}
use Rattle.account_lock.specs.Known.{View}
use Rattle.account_lock.specs.Views.{having_made, newcomer}
use Rattle.account_lock.specs.Passes.{view, limit_of, IsOf}
use Rattle.account_lock.specs.declared.pass.Pass.{Pass}
use Rattle.account_lock.specs.declared.lock.Lock.{Lock}
use Rattle.account_host.specs.Sets.{views, views_of}
use Rattle.account_host.specs.Seating.{IsWithin}
use Rattle.account_host.proofs.Zips.{zip_push}
use Rattle.account_host.proofs.Places.{all_at, changed_get, changed_next, get_map, take_next, taken_next}
use Rattle.account_host.proofs.Seated.{seated_of, seated_set}
use Rattle.account_host.proofs.host.Host.enlist_each.Goals as goal

pub enlist-requires-clause-first : goal.enlist-requires-clause-first
enlist-requires-clause-first g c =
    let inv = c.loop-account.invariant in
    let i = c.loop-account.account in
    let locks = c.args.self.now.locks.items in
    let passes = c.loop-account.first.passes.items in
    let vs = views_of c.args.first.now in
    let lock = c.index.result.now in
    let p = c.index_mut.result.now in
    let lt : i < length locks = search rules in
    let lt' : i < length passes = omega (arith, lt, inv.seated.count) in
    let at_pass : slice_get passes i ≡ Some p = slice_get-get_or passes i p lt' ∙ ap Some (sym c.index_mut.ensures.value) in
    let at_view : slice_get vs i ≡ Some (view p) =
    sym (changed_get having_made vs i) ∙ ap (λ (l : List View). slice_get l i) (sym inv.first) ∙ get_map view passes i p at_pass in
    all_at (λ v. v.number ≡ 0) vs i (view p) at_view c.requires.first

pub unreachable-requires : goal.unreachable-requires
unreachable-requires g c =
    let inv = c.loop-account.invariant in
    let i = c.loop-account.account in
    let locks = c.args.self.now.locks.items in
    let passes = c.loop-account.first.passes.items in
    let vs = views_of c.args.first.now in
    let lock = c.index.result.now in
    let p = c.index_mut.result.now in
    let lt : i < length locks = search rules in
    let lt' : i < length passes = omega (arith, lt, inv.seated.count) in
    let at_pass : slice_get passes i ≡ Some p = slice_get-get_or passes i p lt' ∙ ap Some (sym c.index_mut.ensures.value) in
    let at_view : slice_get vs i ≡ Some (view p) =
    sym (changed_get having_made vs i) ∙ ap (λ (l : List View). slice_get l i) (sym inv.first) ∙ get_map view passes i p at_pass in
    let at_lock : slice_get locks i ≡ Some lock = slice_get-get_or locks i lock lt ∙ ap Some (sym c.index.ensures) in
    let limit : limit_of lock ≡ c.args.self.now.callers = all_at (λ l. limit_of l ≡ c.args.self.now.callers) locks i lock at_lock c.args.self.now.limits in
    all_at (λ v. v.made ≢ c.args.self.now.callers) vs i (view p) at_view c.requires.not_full (c.in_default.ensures.full.0 ∙ limit)

pub push_reserved-requires : goal.push_reserved-requires
push_reserved-requires g c =
    let inv = c.loop-account.invariant in
    let i = c.loop-account.account in
    let locks = c.args.self.now.locks.items in
    let lt : i < length locks = search rules in
    let long : length c.loop-account.passes.items ≡ length (take i locks) = AllZip-long IsOf (take i locks) c.loop-account.passes.items inv.made in
    let taken : length (take i locks) ≤ i = grind (arith, length-take) in
    let count : length c.args.first.now.passes.items ≡ length locks = c.requires.set.seated.count in
    let room : length c.args.first.now.passes.items ≤ vec_capacity c.loop-account.passes = inv.room in
    let fewer : length c.loop-account.passes.items < vec_capacity c.loop-account.passes = omega arith in
    search (rules, fewer)

pub loop-account-preserved : goal.loop-account-preserved
loop-account-preserved g c =
    let inv = c.loop-account.invariant in
    let i = c.loop-account.account in
    let locks = c.args.self.now.locks.items in
    let passes = c.loop-account.first.passes.items in
    let vs = views_of c.args.first.now in
    let lock = c.index.result.now in
    let p = c.index_mut.result.now in
    let lt : i < length locks = search rules in
    let lt' : i < length passes = omega (arith, lt, inv.seated.count) in
    let at_pass : slice_get passes i ≡ Some p = slice_get-get_or passes i p lt' ∙ ap Some (sym c.index_mut.ensures.value) in
    let at_view : slice_get vs i ≡ Some (view p) =
    sym (changed_get having_made vs i) ∙ ap (λ (l : List View). slice_get l i) (sym inv.first) ∙ get_map view passes i p at_pass in
    let at_lock : slice_get locks i ≡ Some lock = slice_get-get_or locks i lock lt ∙ ap Some (sym c.index.ensures) in
    let p' = c.enlist.new.first in
    let q = c.in-Ok.pass in
    let one : suc i ≡ i + 1 = omega arith in
    let made = c.in-Ok.ensures.made in
    let first = c.in-Ok.ensures.first in
    record {
      seated = seated_set locks passes i p' inv.seated (λ l at. let same : lock ≡ l = (let e : Some lock ≡ Some l = sym at_lock ∙ at in cc) in subst (λ z. IsOf z p') same first.0);
      first = map-set view passes i p' ∙ ap (λ (l : List View). set l i (view p')) inv.first ∙ ap (set (map having_made (take i vs) ++ drop i vs) i) first.1
          ∙ changed_next having_made vs i (view p) at_view ∙ ap (λ (n : ℕ). map having_made (take n vs) ++ drop n vs) one;
      made = rw (← one, take_next locks i lock at_lock, c.push_reserved.ensures.items) (zip_push IsOf (take i locks) c.loop-account.passes.items lock q inv.made made.0);
      made_views = ap views c.push_reserved.ensures.items ∙ map-append view c.loop-account.passes.items (q ∷ []) ∙ ap (λ (l : List View). l ++ view q ∷ []) inv.made_views
          ∙ ap (λ (v : View). map newcomer (take i vs) ++ v ∷ []) made.1 ∙ taken_next newcomer vs i (view p) at_view ∙ ap (λ (n : ℕ). map newcomer (take n vs)) one;
      room = let capacity : vec_capacity c.push_reserved.new.self ≡ vec_capacity c.loop-account.passes = c.push_reserved.ensures.capacity in omega (arith, capacity, inv.room);
    }

pub returns-clause-first : goal.returns-clause-first
returns-clause-first g c =
    let inv = c.loop-account.invariant in
    let n = c.loop-account.account in
    let vs = views_of c.args.first.now in
    let locks = c.args.self.now.locks.items in
    let past : length locks ≤ n = search rules in
    let all : length vs ≤ n = omega (arith, past, c.requires.set.seated.count, length-map c.args.first.now.passes.items view) in
    let is : views_of c.loop-account.first ≡ map having_made vs =
    inv.first ∙ ap (λ (l : List View). map having_made l ++ drop n vs) (take_all n vs all) ∙ ap (λ (l : List View). map having_made vs ++ l) (drop_all n vs all) ∙ append-nil (map having_made vs) in
    record { seated = inv.seated; within = rw is (All-map IsWithin having_made vs c.requires.set.within) }

pub returns-clause-set : goal.returns-clause-set
returns-clause-set g c =
    let inv = c.loop-account.invariant in
    let n = c.loop-account.account in
    let vs = views_of c.args.first.now in
    let locks = c.args.self.now.locks.items in
    let past : length locks ≤ n = search rules in
    let all : length vs ≤ n = omega (arith, past, c.requires.set.seated.count, length-map c.args.first.now.passes.items view) in
    let is : views c.loop-account.passes.items ≡ map newcomer vs = inv.made_views ∙ ap (map newcomer) (take_all n vs all) in
    record {
      seated = seated_of locks c.loop-account.passes.items (rw (← take_all n locks past) inv.made);
      within = rw is (All-map IsWithin newcomer vs c.requires.set.within);
    }
