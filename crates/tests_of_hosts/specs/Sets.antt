-- Sets of passes, as tests speak of them.
use Rattle.std.specs.Prelude.{◌≢◌, ℕ, List, map}
use Rattle.std.specs.List.{All}
use Rattle.account_core.specs.Histories.{Origin}
use Rattle.account_host.specs.Seating.{share_of}
use Rattle.account_host.specs.Sets.{AreFirst, views_of}
use Rattle.account_host.specs.declared.set.SeatSet.{SeatSet}
use Rattle.desk.specs.Shares.{Share}

-- where the histories begin
abbrev pub origins_of : SeatSet → List Origin
origins_of set = map (λ v. v.origin) (views_of set)

-- the numbers by which entries name the caller
abbrev pub numbers_of : SeatSet → List ℕ
numbers_of set = map (λ v. v.number) (views_of set)

-- the shares of the caller's desk
abbrev pub shares_in : SeatSet → List Share
shares_in set = map share_of (views_of set)

-- the host's first set, by which others are made and the host is closed
pub record IsFirstSet (set : SeatSet) : Type 0 where
  pub first : AreFirst (views_of set)
  pub made : All (λ v. v.made ≢ 0) (views_of set)
