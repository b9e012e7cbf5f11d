-- A desk that keeps its accounts in a list: what a call does to one of them, it does to the shares.
use Rattle.std.proofs.Common.{◌≡◌, ◌<◌, ℕ, zero, suc, List, [], ◌∷◌, length, map, set, get_or, sym, ap, ◌∙◌, subst, arith, get_or-set_same}
use Rattle.std.proofs.lemmas.List.{length-map, map-set, get_or-map}
use Rattle.std.specs.List.{AllZip}
use Rattle.desk.specs.Shares.{Share, no_share, share_at}

module _ {X : Type 0} (share_of : X → Share) (items : List X) (account : ℕ) (there : account < length items) where
  -- the share before the call
  pub share_here : (item : X) → get_or items account item ≡ item → share_at (map share_of items) account ≡ share_of item
  share_here item is = get_or-map share_of items account item no_share there ∙ ap share_of is

  -- and after it
  pub share_there : (item : X) → share_at (map share_of (set items account item)) account ≡ share_of item
  share_there item =
      ap (λ (s : List Share). share_at s account) (map-set share_of items account item)
      ∙ get_or-set_same (map share_of items) account (share_of item) no_share (omega (arith, length-map items share_of))

  -- the other shares stay
  pub shares_set : (item : X) → map share_of (set items account item) ≡ set (map share_of items) account (share_at (map share_of (set items account item)) account)
  shares_set item = map-set share_of items account item ∙ ap (set (map share_of items) account) (sym (share_there item))

-- a relation of each item to a later one
module _ {X : Type 0} (R : X → X → Type 0) where
  pub each_itself : ((x : X) → R x x) → (items : List X) → AllZip R items items
  each_itself itself [] = tt
  each_itself itself (x ∷ items) = (itself x, each_itself itself items)

  pub each_on : ((x y z : X) → R x y → R y z → R x z) → (first between last : List X) → AllZip R first between → AllZip R between last → AllZip R first last
  each_on on [] [] [] one two = tt
  each_on on [] [] (z ∷ last) one two = absurd two
  each_on on [] (y ∷ between) last one two = absurd one
  each_on on (x ∷ first) [] last one two = absurd one
  each_on on (x ∷ first) (y ∷ between) [] one two = absurd two
  each_on on (x ∷ first) (y ∷ between) (z ∷ last) one two = (on x y z one.0 two.0, each_on on first between last one.1 two.1)

  -- one item changed
  pub each_set : ((x : X) → R x x) → (items : List X) (account : ℕ) (item next : X) → get_or items account item ≡ item → R item next → AllZip R items (set items account next)
  each_set itself [] account item next is r = tt
  each_set itself (x ∷ items) zero item next is r = (subst (λ (y : X). R y next) (sym is) r, each_itself itself items)
  each_set itself (x ∷ items) (suc account) item next is r = (itself x, each_set itself items account item next is r)
