-- Sets of passes, one of each account, as clauses see them: by the views of the passes.
use Rattle.std.specs.Prelude.{◌≡◌, ◌≢◌, ◌<◌, ◌≤◌, ℕ, List, [], ◌∷◌, map, length, slice_index_or}
use Rattle.std.specs.List.{All}
use Rattle.account_lock.specs.Known.{View, nobody}
use Rattle.account_lock.specs.Views.{joined}
use Rattle.account_lock.specs.Passes.{view}
use Rattle.account_lock.specs.declared.pass.Pass.{Pass}
use Rattle.account_host.specs.declared.set.SeatSet.{SeatSet}

abbrev pub views : List Pass → List View
views passes = map view passes

-- the views of a set's passes, in the order of the accounts
abbrev pub views_of : SeatSet → List View
views_of set = views set.passes.items

-- the view of the pass of the account of this number
abbrev pub view_at : List View → ℕ → View
view_at vs account = slice_index_or vs account nobody

-- each is the first pass of its account
abbrev pub AreFirst : List View → Type 0
AreFirst vs = All (λ v. v.number ≡ 0) vs

-- none is the first pass of its account
abbrev pub AreLater : List View → Type 0
AreLater vs = All (λ v. v.number ≢ 0) vs

-- each stands for all passes of its account that were made
abbrev pub AreWhole : List View → Type 0
AreWhole vs = All (λ v. v.made ≤ v.held) vs

-- The pass of the account of this number stands for `held` passes, and `made` were made, which are
-- more. No account before it is so.
pub record IsUnjoined (vs : List View) (account held made : ℕ) : Type 0 where
  pub there : account < length vs
  pub held_is : (view_at vs account).held ≡ held
  pub made_is : (view_at vs account).made ≡ made
  pub fewer : held < made
  pub before : (earlier : ℕ) → earlier < account
      → (view_at vs earlier).made ≤ (view_at vs earlier).held

-- each of the second was joined into the one of the first at its place
abbrev pub joined_each : List View → List View → List View
joined_each [] ws = []
joined_each (v ∷ vs) [] = v ∷ vs
joined_each (v ∷ vs) (w ∷ ws) = joined v w ∷ joined_each vs ws
