-- What the passes of a set keep while its owner asks, makes passes and joins them.
use Rattle.std.proofs.Common.{◌≡◌, ◌≢◌, ℕ, List, [], ◌∷◌, map, refl, sym, ap, ◌∙◌, subst}
use Rattle.std.specs.List.{All, AllZip}
use Rattle.std.proofs.lemmas.List.Elements.{All-nil, All-cons, All-head, All-tail, All-map}
use Rattle.account_lock.specs.Known.{View}
use Rattle.account_lock.specs.Views.{joined, having_made, newcomer}
use Rattle.account_host.specs.Sets.{AreFirst, AreLater, joined_each}
use Rattle.account_host.specs.Seating.{Goes}
use Rattle.account_host.proofs.Zips.{all_along}

pub first_along : (vs ws : List View) → AllZip Goes vs ws → AreFirst vs → AreFirst ws
first_along vs ws all first = all_along Goes (λ v. v.number ≡ 0) (λ w. w.number ≡ 0) (λ v w n g. g.number ∙ n) vs ws first all

pub later_along : (vs ws : List View) → AllZip Goes vs ws → AreLater vs → AreLater ws
later_along vs ws all later = all_along Goes (λ v. v.number ≢ 0) (λ w. w.number ≢ 0) (λ v w n g e. n (sym g.number ∙ e)) vs ws later all

pub first_made : (vs : List View) → AreFirst vs → AreFirst (map having_made vs)
first_made vs first = All-map (λ v. v.number ≡ 0) having_made vs first

pub first_joined : (vs ws : List View) → AreFirst vs → AreFirst (joined_each vs ws)
first_joined [] ws first = first
first_joined (v ∷ vs) [] first = first
first_joined (v ∷ vs) (w ∷ ws) first =
    All-cons (λ v. v.number ≡ 0) (joined v w) (joined_each vs ws) (All-head (λ v. v.number ≡ 0) v vs first)
    (first_joined vs ws (All-tail (λ v. v.number ≡ 0) v vs first))
