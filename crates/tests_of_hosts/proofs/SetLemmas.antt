-- Sets of passes of a host: where their histories begin, and their numbers.
use Rattle.std.proofs.Common.{◌≡◌, ◌≢◌, ℕ, zero, suc, List, [], ◌∷◌, length, map, Some, refl, sym, ap, ap₂, ◌∙◌, subst, arith}
use Rattle.std.specs.List.{All, AllZip, slice_get}
use Rattle.account_core.specs.Histories.{Origin}
use Rattle.account_ledger.specs.States.{State}
use Rattle.account_lock.specs.Known.{View}
use Rattle.account_lock.specs.Passes.{view}
use Rattle.account_lock.specs.Views.{having_made, newcomer}
use Rattle.account_lock.specs.declared.pass.Pass.{Pass}
use Rattle.accounts_file.specs.Hosts.{Hosts}
use Rattle.accounts_file.specs.declared.entry.AccountEntry.{AccountEntry}
use Rattle.account_host.specs.Beginning.{IsFirstOf, IsFresh}
use Rattle.account_host.specs.Seating.{Goes, pass_share, share_of}
use Rattle.account_host.specs.Sets.{AreFirst, AreLater, joined_each, views_of}
use Rattle.account_host.specs.declared.set.SeatSet.{SeatSet}
use Rattle.desk.specs.Shares.{Share, share_at}
use Rattle.front_core.specs.Desks.{IsDeskOf, IsOpenedAs}
use Rattle.host_opening.specs.Opening.{WasOpened}
use Rattle.tests_of_hosts.specs.Sets.{IsFirstSet, numbers_of, origins_of, shares_in}

-- ---- where the histories begin

origins_in : (vs : List View) → map (λ (s : Share). s.origin) (map share_of vs) ≡ map (λ (v : View). v.origin) vs
origins_in [] = refl
origins_in (v ∷ vs) = ap (λ (os : List Origin). v.origin ∷ os) (origins_in vs)

origin_at : (xs ys : List Share) → map (λ (s : Share). s.origin) ys ≡ map (λ (s : Share). s.origin) xs → (k : ℕ) → (share_at ys k).origin ≡ (share_at xs k).origin
origin_at [] [] e k = refl
origin_at [] (b ∷ ys) e k = absurd cc
origin_at (a ∷ xs) [] e k = absurd cc
origin_at (a ∷ xs) (b ∷ ys) e zero = cc
origin_at (a ∷ xs) (b ∷ ys) e (suc k) = let rest : map (λ (s : Share). s.origin) ys ≡ map (λ (s : Share). s.origin) xs = cc in origin_at xs ys rest k

as_long : (xs ys : List Share) → map (λ (s : Share). s.origin) ys ≡ map (λ (s : Share). s.origin) xs → length ys ≡ length xs
as_long [] [] e = refl
as_long [] (b ∷ ys) e = absurd cc
as_long (a ∷ xs) [] e = absurd cc
as_long (a ∷ xs) (b ∷ ys) e =
    let rest : map (λ (s : Share). s.origin) ys ≡ map (λ (s : Share). s.origin) xs = cc in
    let same : length ys ≡ length xs = as_long xs ys rest in
    omega (arith, same)

-- a desk whose histories begin alike fits the same table
fits_alike : (hosts : Hosts) (xs ys : List Share) → map (λ (s : Share). s.origin) ys ≡ map (λ (s : Share). s.origin) xs → IsDeskOf hosts xs → IsDeskOf hosts ys
fits_alike hosts xs ys e fits = record { count = as_long xs ys e ∙ fits.count; each = each }
  where
    each : (account : ℕ) (entry : AccountEntry) → slice_get hosts.accounts account ≡ Some entry → IsOpenedAs entry hosts.epoch (share_at ys account)
    each account entry is =
        let opened = fits.each account entry is in
        let same = origin_at xs ys e account in
        record { roots = ap (λ (o : Origin). o.roots) same ∙ opened.roots; journal = ap (λ (o : Origin). o.journal) same ∙ opened.journal; epoch_is = ap (λ (o : Origin). o.epoch) same ∙ opened.epoch_is }

pub set_fits : (hosts : Hosts) (set set' : SeatSet) → origins_of set' ≡ origins_of set → IsDeskOf hosts (shares_in set) → IsDeskOf hosts (shares_in set')
set_fits hosts set set' e fits = fits_alike hosts (shares_in set) (shares_in set') (origins_in (views_of set') ∙ e ∙ sym (origins_in (views_of set))) fits

-- the shares of a caller's seats are those of the set
pub seat_shares : (passes : List Pass) → map pass_share passes ≡ map share_of (map view passes)
seat_shares [] = refl
seat_shares (p ∷ passes) = ap (λ (ss : List Share). pass_share p ∷ ss) (seat_shares passes)

-- accounts that were just opened have no entry
pub all_fresh : (epoch : ℕ) (entries : List AccountEntry) (states : List State) → AllZip (WasOpened epoch) entries states → All IsFresh states
all_fresh epoch [] [] zipped k d lt = absurd (omega (arith, lt))
all_fresh epoch [] (s ∷ states) zipped k d lt = absurd zipped
all_fresh epoch (entry ∷ entries) [] zipped k d lt = absurd zipped
all_fresh epoch (entry ∷ entries) (s ∷ states) zipped zero d lt = zipped.0.1.opened.history
all_fresh epoch (entry ∷ entries) (s ∷ states) zipped (suc k) d lt = all_fresh epoch entries states zipped.1 k d (omega (arith, lt))

-- the first set of a host of accounts that were just opened is a desk of their table
pub first_fits : (hosts : Hosts) (states : List State) (vs : List View) → AllZip (WasOpened hosts.epoch) hosts.accounts states → AllZip IsFirstOf states vs → IsDeskOf hosts (map share_of vs)
first_fits hosts states vs opened first = record { count = count hosts.accounts states vs opened first; each = each hosts.accounts states vs opened first }
  where
    count : (entries : List AccountEntry) (ss : List State) (ws : List View) → AllZip (WasOpened hosts.epoch) entries ss → AllZip IsFirstOf ss ws → length (map share_of ws) ≡ length entries
    count [] [] [] o f = refl
    count [] [] (w ∷ ws) o f = absurd f
    count [] (s ∷ ss) ws o f = absurd o
    count (e ∷ entries) [] ws o f = absurd o
    count (e ∷ entries) (s ∷ ss) [] o f = absurd f
    count (e ∷ entries) (s ∷ ss) (w ∷ ws) o f = let rest : length (map share_of ws) ≡ length entries = count entries ss ws o.1 f.1 in omega (arith, rest)

    each : (entries : List AccountEntry) (ss : List State) (ws : List View) → AllZip (WasOpened hosts.epoch) entries ss → AllZip IsFirstOf ss ws
        → (account : ℕ) (entry : AccountEntry) → slice_get entries account ≡ Some entry → IsOpenedAs entry hosts.epoch (share_at (map share_of ws) account)
    each [] [] ws o f account entry at = absurd cc
    each [] (s ∷ ss) ws o f account entry at = absurd o
    each (e ∷ entries) [] ws o f account entry at = absurd o
    each (e ∷ entries) (s ∷ ss) [] o f account entry at = absurd f
    each (e ∷ entries) (s ∷ ss) (w ∷ ws) o f zero entry at =
        let same : e ≡ entry = cc in
        let was = o.0.1.opened in
        let begun = f.0.origin in
        subst (λ (x : AccountEntry). IsOpenedAs x hosts.epoch (share_of w)) same (record {
          roots = ap (λ (b : Origin). b.roots) begun ∙ was.roots;
          journal = ap (λ (b : Origin). b.journal) begun ∙ was.journal;
          epoch_is = ap (λ (b : Origin). b.epoch) begun ∙ was.epoch_is;
        })
    each (e ∷ entries) (s ∷ ss) (w ∷ ws) o f (suc account) entry at = each entries ss ws o.1 f.1 account entry at

-- ---- numbers

pub first_made : (states : List State) (vs : List View) → AllZip IsFirstOf states vs → All (λ (v : View). v.made ≢ 0) vs
first_made [] [] first k d lt = absurd (omega (arith, lt))
first_made [] (v ∷ vs) first k d lt = absurd first
first_made (s ∷ states) [] first k d lt = absurd first
first_made (s ∷ states) (v ∷ vs) first zero d lt = λ none. let one : v.made ≡ 1 = first.0.made in omega (arith, one, none)
first_made (s ∷ states) (v ∷ vs) first (suc k) d lt = first_made states vs first.1 k d (omega (arith, lt))

all_mapped : (P Q : View → Type 0) (f : View → View) → ((v : View) → P v → Q (f v)) → (vs : List View) → All P vs → All Q (map f vs)
all_mapped P Q f g [] all k d lt = absurd (omega (arith, lt))
all_mapped P Q f g (v ∷ vs) all zero d lt = g v (all zero d (omega arith))
all_mapped P Q f g (v ∷ vs) all (suc k) d lt = all_mapped P Q f g vs (λ i e l. all (suc i) e (omega (arith, l))) k d (omega (arith, lt))

origins_kept : (f : View → View) → ((v : View) → (f v).origin ≡ v.origin) → (vs : List View) → map (λ (v : View). v.origin) (map f vs) ≡ map (λ (v : View). v.origin) vs
origins_kept f g [] = refl
origins_kept f g (v ∷ vs) = ap₂ (λ (o : Origin) (os : List Origin). o ∷ os) (g v) (origins_kept f g vs)

pub made_again : (set set' : SeatSet) → views_of set' ≡ map having_made (views_of set) → IsFirstSet set → IsFirstSet set'
made_again set set' e first = record {
  first = subst AreFirst (sym e) (all_mapped (λ (v : View). v.number ≡ 0) (λ (v : View). v.number ≡ 0) having_made (λ v h. h) (views_of set) first.first);
  made = subst (All (λ (v : View). v.made ≢ 0)) (sym e) (all_mapped (λ (v : View). v.made ≢ 0) (λ (v : View). v.made ≢ 0) having_made (λ v h none. omega (arith, none)) (views_of set) first.made);
}

pub newcomers_later : (set set' : SeatSet) → views_of set' ≡ map newcomer (views_of set) → IsFirstSet set → AreLater (views_of set')
newcomers_later set set' e first = subst AreLater (sym e) (all_mapped (λ (v : View). v.made ≢ 0) (λ (v : View). v.number ≢ 0) newcomer (λ v h. h) (views_of set) first.made)

pub made_origins : (set set' : SeatSet) → views_of set' ≡ map having_made (views_of set) → origins_of set' ≡ origins_of set
made_origins set set' e = ap (map (λ (v : View). v.origin)) e ∙ origins_kept having_made (λ v. refl) (views_of set)

pub newcomer_origins : (set set' : SeatSet) → views_of set' ≡ map newcomer (views_of set) → origins_of set' ≡ origins_of set
newcomer_origins set set' e = ap (map (λ (v : View). v.origin)) e ∙ origins_kept newcomer (λ v. refl) (views_of set)

-- calls keep the numbers, and so does a join
pub goes_numbers : (vs ws : List View) → AllZip Goes vs ws → map (λ (v : View). v.number) ws ≡ map (λ (v : View). v.number) vs
goes_numbers [] [] goes = refl
goes_numbers [] (w ∷ ws) goes = absurd goes
goes_numbers (v ∷ vs) [] goes = absurd goes
goes_numbers (v ∷ vs) (w ∷ ws) goes = ap₂ (λ (n : ℕ) (ns : List ℕ). n ∷ ns) goes.0.number (goes_numbers vs ws goes.1)

joined_numbers : (vs ws : List View) → map (λ (v : View). v.number) (joined_each vs ws) ≡ map (λ (v : View). v.number) vs
joined_numbers [] ws = refl
joined_numbers (v ∷ vs) [] = refl
joined_numbers (v ∷ vs) (w ∷ ws) = ap (λ (ns : List ℕ). v.number ∷ ns) (joined_numbers vs ws)

pub join_numbers : (set set' other : SeatSet) → views_of set' ≡ joined_each (views_of set) (views_of other) → numbers_of set' ≡ numbers_of set
join_numbers set set' other e = ap (map (λ (v : View). v.number)) e ∙ joined_numbers (views_of set) (views_of other)

all_by_numbers : (P : ℕ → Type 0) (vs ws : List View) → map (λ (v : View). v.number) ws ≡ map (λ (v : View). v.number) vs → All (λ (v : View). P v.number) vs → All (λ (v : View). P v.number) ws
all_by_numbers P vs [] e all k d lt = absurd (omega (arith, lt))
all_by_numbers P [] (w ∷ ws) e all k d lt = absurd cc
all_by_numbers P (v ∷ vs) (w ∷ ws) e all zero d lt = let same : v.number ≡ w.number = cc in subst P same (all zero d (omega arith))
all_by_numbers P (v ∷ vs) (w ∷ ws) e all (suc k) d lt =
    let rest : map (λ (x : View). x.number) ws ≡ map (λ (x : View). x.number) vs = cc in
    all_by_numbers P vs ws rest (λ i f l. all (suc i) f (omega (arith, l))) k d (omega (arith, lt))

pub later_by_numbers : (set set' : SeatSet) → numbers_of set' ≡ numbers_of set → AreLater (views_of set) → AreLater (views_of set')
later_by_numbers set set' e = all_by_numbers (λ n. n ≢ 0) (views_of set) (views_of set') e

pub first_by_numbers : (set set' : SeatSet) → numbers_of set' ≡ numbers_of set → AreFirst (views_of set) → AreFirst (views_of set')
first_by_numbers set set' e = all_by_numbers (λ n. n ≡ 0) (views_of set) (views_of set') e

-- ---- a session over the seats of a set

pub seats_fit : (hosts : Hosts) (set set' : SeatSet) → set' ≡ set → IsDeskOf hosts (shares_in set) → IsDeskOf hosts (map pass_share set'.passes.items)
seats_fit hosts set set' e fits = subst (IsDeskOf hosts) (ap shares_in (sym e) ∙ sym (seat_shares set'.passes.items)) fits

pub kept_numbers : (before begun ended after : SeatSet) → begun ≡ before → AllZip Goes (views_of begun) (views_of ended) → after ≡ ended → numbers_of after ≡ numbers_of before
kept_numbers before begun ended after e goes f = ap numbers_of f ∙ goes_numbers (views_of begun) (views_of ended) goes ∙ ap numbers_of e
