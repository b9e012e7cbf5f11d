use Rattle.std.proofs.Common.{◌≡◌, ◌≢◌, ◌<◌, ◌+◌, ℕ, suc, List, [], ◌∷◌, ◌++◌, length, map, set, take, drop, get_or, slice_get, Some, append_assoc, length-append, sym, ap, ◌∙◌, subst, rules, arith}
use Rattle.std.specs.List.{All}
use Rattle.std.proofs.lemmas.List.{length_push, map-set}
use Rattle.std.proofs.lemmas.List.Elements.{All-set}
use Rattle.std.proofs.lemmas.Option.{slice_get-get_or}
use Rattle.account_lock.specs.Known.{View}
use Rattle.account_lock.specs.Views.{joined}
use Rattle.account_lock.specs.Passes.{view, IsOf}
use Rattle.account_lock.specs.declared.pass.Pass.{Pass}
use Rattle.account_lock.specs.declared.lock.Lock.{Lock}
use Rattle.account_host.specs.Sets.{views, joined_each}
use Rattle.account_host.specs.Seating.{IsWithin}
use Rattle.account_host.proofs.Places.{all_at, get_map, joined_next, popped_get, unjoined_get}
use Rattle.account_host.proofs.Seated.{joined_within, seated_set}
use Rattle.account_host.proofs.host.Host.join.Goals as goal

pub join-requires-clause-pass : goal.join-requires-clause-pass
join-requires-clause-pass g c =
    let inv = c.loop-pass.invariant in
    let i = c.len-account.result in
    let rest = c.pop.new.self.items in
    let locks = c.args.self.now.locks.items in
    let passes = c.loop-pass.set.passes.items in
    let others = c.args.other.passes.items in
    let lock = c.index.result.now in
    let p = c.index_mut.result.now in
    let q = c.in-Some.pass in
    let at : i ≡ length rest = search rules in
    let popped : c.loop-pass.passes.items ≡ rest ++ q ∷ [] = c.in-Some.ensures.items in
    let all : (rest ++ q ∷ []) ++ inv.gone ≡ others = ap (λ (l : List Pass). l ++ inv.gone) (sym popped) ∙ inv.joined in
    let within : length rest < length others = omega (arith, ap length all, length-append (rest ++ q ∷ []) inv.gone, length_push rest q) in
    let lt : i < length locks = omega (arith, at, within, c.requires.other.seated.count) in
    let lt' : i < length passes = omega (arith, lt, inv.set.seated.count) in
    let at_lock : slice_get locks i ≡ Some lock = slice_get-get_or locks i lock lt ∙ ap Some (sym c.index.ensures) in
    let at_pass : slice_get passes i ≡ Some p = slice_get-get_or passes i p lt' ∙ ap Some (sym c.index_mut.ensures.value) in
    let at_other : slice_get others i ≡ Some q = ap (λ (l : List Pass). slice_get l i) (sym all) ∙ ap (slice_get ((rest ++ q ∷ []) ++ inv.gone)) at ∙ popped_get rest q inv.gone in
    inv.set.seated.each i lock p at_lock at_pass

pub join-requires-clause-other : goal.join-requires-clause-other
join-requires-clause-other g c =
    let inv = c.loop-pass.invariant in
    let i = c.len-account.result in
    let rest = c.pop.new.self.items in
    let locks = c.args.self.now.locks.items in
    let passes = c.loop-pass.set.passes.items in
    let others = c.args.other.passes.items in
    let lock = c.index.result.now in
    let p = c.index_mut.result.now in
    let q = c.in-Some.pass in
    let at : i ≡ length rest = search rules in
    let popped : c.loop-pass.passes.items ≡ rest ++ q ∷ [] = c.in-Some.ensures.items in
    let all : (rest ++ q ∷ []) ++ inv.gone ≡ others = ap (λ (l : List Pass). l ++ inv.gone) (sym popped) ∙ inv.joined in
    let within : length rest < length others = omega (arith, ap length all, length-append (rest ++ q ∷ []) inv.gone, length_push rest q) in
    let lt : i < length locks = omega (arith, at, within, c.requires.other.seated.count) in
    let lt' : i < length passes = omega (arith, lt, inv.set.seated.count) in
    let at_lock : slice_get locks i ≡ Some lock = slice_get-get_or locks i lock lt ∙ ap Some (sym c.index.ensures) in
    let at_pass : slice_get passes i ≡ Some p = slice_get-get_or passes i p lt' ∙ ap Some (sym c.index_mut.ensures.value) in
    let at_other : slice_get others i ≡ Some q = ap (λ (l : List Pass). slice_get l i) (sym all) ∙ ap (slice_get ((rest ++ q ∷ []) ++ inv.gone)) at ∙ popped_get rest q inv.gone in (
      c.requires.other.seated.each i lock q at_lock at_other,
      all_at (λ v. v.number ≢ 0) (views others) i (view q) (get_map view others i q at_other) c.requires.later,
    )

pub loop-pass-preserved : goal.loop-pass-preserved
loop-pass-preserved g c =
    let inv = c.loop-pass.invariant in
    let i = c.len-account.result in
    let rest = c.pop.new.self.items in
    let locks = c.args.self.now.locks.items in
    let passes = c.loop-pass.set.passes.items in
    let others = c.args.other.passes.items in
    let lock = c.index.result.now in
    let p = c.index_mut.result.now in
    let q = c.in-Some.pass in
    let at : i ≡ length rest = search rules in
    let popped : c.loop-pass.passes.items ≡ rest ++ q ∷ [] = c.in-Some.ensures.items in
    let all : (rest ++ q ∷ []) ++ inv.gone ≡ others = ap (λ (l : List Pass). l ++ inv.gone) (sym popped) ∙ inv.joined in
    let within : length rest < length others = omega (arith, ap length all, length-append (rest ++ q ∷ []) inv.gone, length_push rest q) in
    let lt : i < length locks = omega (arith, at, within, c.requires.other.seated.count) in
    let lt' : i < length passes = omega (arith, lt, inv.set.seated.count) in
    let at_lock : slice_get locks i ≡ Some lock = slice_get-get_or locks i lock lt ∙ ap Some (sym c.index.ensures) in
    let at_pass : slice_get passes i ≡ Some p = slice_get-get_or passes i p lt' ∙ ap Some (sym c.index_mut.ensures.value) in
    let at_other : slice_get others i ≡ Some q = ap (λ (l : List Pass). slice_get l i) (sym all) ∙ ap (slice_get ((rest ++ q ∷ []) ++ inv.gone)) at ∙ popped_get rest q inv.gone in
    let vs = views c.args.set.now.passes.items in
    let ws = views others in
    let p' = c.join.new.pass in
    let told = c.join.ensures in
    let more : length c.loop-pass.passes.items ≡ suc i = omega (arith, ap length popped, length_push rest q, at) in
    let before : views passes ≡ take (suc i) vs ++ joined_each (drop (suc i) vs) (drop (suc i) ws) =
    inv.views_are ∙ ap (λ (n : ℕ). take n vs ++ joined_each (drop n vs) (drop n ws)) more in
    let at_view : slice_get vs i ≡ Some (view p) = sym (unjoined_get vs ws i) ∙ ap (λ (l : List View). slice_get l i) (sym before) ∙ get_map view passes i p at_pass in
    let of_p = inv.set.seated.each i lock p at_lock at_pass in
    let of_q = c.requires.other.seated.each i lock q at_lock at_other in
    let fits : IsWithin (joined (view p) (view q)) = joined_within lock p q of_p of_q
    (all_at IsWithin (views passes) i (view p) (get_map view passes i p at_pass) inv.set.within)
    (all_at IsWithin ws i (view q) (get_map view others i q at_other) c.requires.other.within) in
    let set_views : views (set passes i p') ≡ set (views passes) i (joined (view p) (view q)) = map-set view passes i p' ∙ ap (set (views passes) i) told.joined in
    record {
      gone = q ∷ inv.gone;
      joined = sym (append_assoc rest (q ∷ []) inv.gone) ∙ all;
      set = record {
        seated = seated_set locks passes i p' inv.set.seated (λ l at_l. let same : lock ≡ l = (let e : Some lock ≡ Some l = sym at_lock ∙ at_l in cc) in subst (λ z. IsOf z p') same told.lock);
        within = rw set_views (All-set IsWithin (views passes) i (joined (view p) (view q)) fits inv.set.within);
      };
      views_are = set_views ∙ ap (λ (l : List View). set l i (joined (view p) (view q))) before
          ∙ joined_next vs ws i (view p) (view q) at_view (get_map view others i q at_other)
          ∙ ap (λ (n : ℕ). take n vs ++ joined_each (drop n vs) (drop n ws)) at;
    }
