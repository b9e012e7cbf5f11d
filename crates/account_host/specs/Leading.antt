-- A caller's seats as clauses see them, and what calls keep of them.
use Rattle.std.specs.Prelude.{◌≡◌, ◌+◌, ℕ, List, map, set, length}
use Rattle.std.specs.List.{AllZip}
use Rattle.std.proofs.Common.{refl, ◌∙◌, arith}
use Rattle.account_lock.specs.Known.{View}
use Rattle.desk.specs.Shares.{Share}
use Rattle.desk.proofs.Lending.{each_itself, each_on}
use Rattle.account_host.specs.declared.set.SeatSet.{SeatSet}
use Rattle.account_host.specs.declared.host.Host.{Host}
use Rattle.account_host.specs.declared.seats.Seats.{Seats}
use Rattle.account_host.specs.Sets.{view_at, views_of}
use Rattle.account_host.specs.Seating.{Goes, pass_share}

-- The view of this account's pass goes along, and all others stay.
pub record GoesAlong (account : ℕ) (vs ws : List View) : Type 0 where
  pub here : Goes (view_at vs account) (view_at ws account)
  pub others : ws ≡ set vs account (view_at ws account)

pub goes_itself : (v : View) → Goes v v
goes_itself v = record {
  origin = refl;
  number = refl;
  held = refl;
  olds = refl;
  made = refl;
  own = refl;
}

pub goes_on : (u v w : View) → Goes u v → Goes v w → Goes u w
goes_on u v w one two =
    let a : v.own + length u.mine ≡ u.own + length v.mine = one.own in
    let b : w.own + length v.mine ≡ v.own + length w.mine = two.own in
    record {
      origin = two.origin ∙ one.origin;
      number = two.number ∙ one.number;
      held = two.held ∙ one.held;
      olds = two.olds ∙ one.olds;
      made = two.made ∙ one.made;
      own = omega arith;
    }

module _ {K R : Type 0} where
  -- the host that the seats are of
  abbrev pub host_of : Seats K R → Host K
  host_of seats = seats.host.now

  -- the set of passes that the seats have
  abbrev pub set_of : Seats K R → SeatSet
  set_of seats = seats.set

  abbrev pub shares_of : Seats K R → List Share
  shares_of seats = map pass_share seats.set.passes.items

  -- the same host, and each pass gone along
  pub record Leads (seats seats' : Seats K R) : Type 0 where
    pub host : host_of seats' ≡ host_of seats
    pub passes : AllZip Goes (views_of (set_of seats)) (views_of (set_of seats'))

  pub leads_itself : (seats : Seats K R) → Leads seats seats
  leads_itself seats = record {
    host = refl;
    passes = each_itself Goes goes_itself (views_of (set_of seats));
  }

  pub leads_on : (first between last : Seats K R) → Leads first between → Leads between last
      → Leads first last
  leads_on first between last one two = record {
    host = two.host ∙ one.host;
    passes = each_on Goes goes_on (views_of (set_of first)) (views_of (set_of between))
        (views_of (set_of last)) one.passes two.passes;
  }
