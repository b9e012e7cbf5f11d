-- A set of which the pass of one account has gone along.
use Rattle.std.proofs.Common.{◌≡◌, ◌<◌, ℕ, List, length, map, set, get_or, get_or-set_same, sym, ap, ◌∙◌, subst, arith}
use Rattle.std.specs.List.{All, AllZip}
use Rattle.std.proofs.lemmas.List.{get_or-map, length-map, map-set}
use Rattle.std.proofs.lemmas.List.Elements.{All-set}
use Rattle.account_lock.specs.Known.{View, nobody}
use Rattle.account_lock.specs.Passes.{view}
use Rattle.account_lock.specs.declared.pass.Pass.{Pass}
use Rattle.desk.proofs.Lending.{each_set}
use Rattle.account_host.specs.Sets.{view_at, views}
use Rattle.account_host.specs.Seating.{Goes, IsWithin}
use Rattle.account_host.specs.Leading.{GoesAlong, goes_itself}
use Rattle.account_host.proofs.Looking.{view_here}

module _ (passes : List Pass) (account : ℕ) (there : account < length passes) (p p' : Pass) where
  pub within_set : IsWithin (view p') → All IsWithin (views passes) → All IsWithin (views (set passes account p'))
  within_set fits all = subst (All IsWithin) (sym (map-set view passes account p')) (All-set IsWithin (views passes) account (view p') fits all)

  pub each_goes : get_or passes account p ≡ p → Goes (view p) (view p') → AllZip Goes (views passes) (views (set passes account p'))
  each_goes is goes =
      subst (AllZip Goes (views passes)) (sym (map-set view passes account p'))
      (each_set Goes goes_itself (views passes) account (view p) (view p') (get_or-map view passes account p (view p) there ∙ ap view is) goes)

  pub goes_along : get_or passes account p ≡ p → Goes (view p) (view p') → GoesAlong account (views passes) (views (set passes account p'))
  goes_along is goes =
      let inside : account < length (views passes) = omega (arith, length-map passes view) in
      let old : view_at (views passes) account ≡ view p = view_here passes account p there is in
      let all : views (set passes account p') ≡ set (views passes) account (view p') = map-set view passes account p' in
      let new : view_at (views (set passes account p')) account ≡ view p' =
      ap (λ (l : List View). view_at l account) all ∙ get_or-set_same (views passes) account (view p') nobody inside in
      record {
        here = subst (λ (z : View × View). Goes z.0 z.1) (λ i. (sym old i, sym new i)) goes;
        others = all ∙ ap (set (views passes) account) (sym new);
      }
