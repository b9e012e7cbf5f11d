-- Accounts that come back from under their locks.
use Rattle.std.proofs.Common.{◌≡◌, ◌<◌, ◌≤◌, ◌+◌, ℕ, List, [], ◌∷◌, ◌++◌, length, map, reverse, append_assoc, append-nil, refl, sym, ap, ◌∙◌, subst, arith}
use Rattle.std.specs.List.{All, AllZip}
use mathlib.Core.List.{reverse-cons}
use Rattle.std.proofs.lemmas.List.{nil_from_length, reverse-append, reverse-reverse}
use Rattle.std.proofs.lemmas.List.Elements.{All-nil, All-cons, All-head, All-tail, All-map, All-push}
use Rattle.account_ledger.specs.States.{State}
use Rattle.account_lock.specs.Known.{View}
use Rattle.account_lock.specs.Passes.{view, IsNew}
use Rattle.account_lock.specs.declared.pass.Pass.{Pass}
use Rattle.account_host.specs.Sets.{views, AreFirst, AreWhole}
use Rattle.account_host.specs.Beginning.{GivenBack, IsFirstOf, IsFresh}
use Rattle.account_host.specs.Seating.{IsWithin}
use Rattle.account_host.specs.Closing.{Closes, Ends, PassCloses}
use Rattle.account_host.proofs.Places.{all_front, all_unmap}
use Rattle.account_host.proofs.Zips.{zip_append, zip_reverse, zip_through, zip_itself, all_second, zip_map_right}

abbrev pub PassBegins : State → Pass → Type 0
PassBegins s pass = IsFirstOf s (view pass)

pub all_left : {X : Type 0} (P : X → Type 0) (xs ys : List X) → All P (xs ++ ys) → All P xs
all_left P [] ys all = All-nil P
all_left P (x ∷ xs) ys all = All-cons P x xs (All-head P x (xs ++ ys) all) (all_left P xs ys (All-tail P x (xs ++ ys) all))

-- the last of the first list becomes the first of the second
pub moved : {X : Type 0} (xs gone all : List X) (x : X) → (xs ++ x ∷ []) ++ reverse gone ≡ all → xs ++ reverse (gone ++ x ∷ []) ≡ all
moved xs gone all x is = ap (λ l. xs ++ l) (reverse-append gone (x ∷ [])) ∙ sym (append_assoc xs (x ∷ []) (reverse gone)) ∙ is

-- the views of all passes but the last, and its view
pub views_front : (P : View → Type 0) (rest passes : List Pass) (pass : Pass) → passes ≡ rest ++ pass ∷ [] → All P (views passes) → All P (views rest) × P (view pass)
views_front P rest passes pass is all =
    let more = all_front (λ p. P (view p)) rest pass (subst (λ (l : List Pass). All (λ p. P (view p)) l) is (all_unmap view P passes all)) in
    (All-map P view rest more.0, more.1)

pub begun_first : (states : List State) (passes : List Pass) → AllZip PassBegins states passes → AreFirst (views passes)
begun_first states passes all = All-map (λ v. v.number ≡ 0) view passes (all_second PassBegins (λ p. (view p).number ≡ 0) (λ s p first. first.number) states passes all)

pub begun_whole : (states : List State) (passes : List Pass) → AllZip PassBegins states passes → AreWhole (views passes)
begun_whole states passes all = All-map (λ v. v.made ≤ v.held) view passes (all_second PassBegins (λ p. (view p).made ≤ (view p).held) (λ s p first. whole s p first) states passes all)
  where
    whole : (s : State) (p : Pass) → PassBegins s p → (view p).made ≤ (view p).held
    whole s p first = let a : (view p).made ≡ 1 = first.made in let b : (view p).held ≡ 1 = first.new.1 in omega arith

first_back : (s : State) (p : Pass) (t : State) → PassBegins s p → PassCloses p t → GivenBack s t
first_back s p t first closes = record {
  origin = closes.origin ∙ first.origin;
  history = nil_from_length t.history (closes.entries ∙ first.new.2);
}

-- the way back out of a host that was made half way
pub all_back : (states rest gone back : List State) (s : State) (passes : List Pass) → All IsFresh states → (rest ++ s ∷ []) ++ reverse gone ≡ states
    → AllZip PassBegins gone passes → Ends passes (rest ++ s ∷ []) back → AllZip GivenBack states back
all_back states rest gone back s passes fresh is begun ends =
    let kept : All IsFresh (rest ++ s ∷ []) = all_left IsFresh (rest ++ s ∷ []) (reverse gone) (subst (All IsFresh) (sym is) fresh) in
    let closed = zip_through PassBegins PassCloses GivenBack first_back (reverse gone) (reverse passes) ends.more (zip_reverse PassBegins gone passes begun) ends.closed in
    subst (λ (z : List State × List State). AllZip GivenBack z.0 z.1) (λ i. (is i, sym ends.added i))
    (zip_append GivenBack (rest ++ s ∷ []) (reverse gone) (rest ++ s ∷ []) ends.more
    (zip_itself GivenBack IsFresh (λ x none. record { origin = refl; history = none }) (rest ++ s ∷ []) kept) closed)

-- nothing was done
pub none_done : (states : List State) → All IsFresh states → AllZip GivenBack states states
none_done states fresh = zip_itself GivenBack IsFresh (λ x none. record { origin = refl; history = none }) states fresh

-- in the same order as the accounts once the list is turned round
pub turned_back : (states states' back back' : List State) → states' ≡ reverse states → AllZip GivenBack states' back → back' ≡ reverse back → AllZip GivenBack states back'
turned_back states states' back back' is all is' =
    subst (λ (z : List State × List State). AllZip GivenBack z.0 z.1) (λ i. ((ap reverse is ∙ reverse-reverse states) i, sym is' i)) (zip_reverse GivenBack states' back all)

-- all accounts are closed, and the list is turned round
pub closed_all : (passes : List Pass) (spare states states' : List State) → spare ≡ [] → Ends passes spare states → states' ≡ reverse states → AllZip PassCloses passes states'
closed_all passes spare states states' none ends is =
    let all : states ≡ ends.more = ends.added ∙ ap (λ l. l ++ ends.more) none in
    subst (λ (z : List Pass × List State). AllZip PassCloses z.0 z.1) (λ i. (reverse-reverse passes i, (ap reverse (sym all) ∙ sym is) i))
    (zip_reverse PassCloses (reverse passes) ends.more ends.closed)

pub all_reverse : {X : Type 0} (P : X → Type 0) (xs : List X) → All P xs → All P (reverse xs)
all_reverse P [] all = All-nil P
all_reverse P (x ∷ xs) all = subst (All P) (sym (reverse-cons x xs)) (All-push P (reverse xs) x (all_reverse P xs (All-tail P x xs all)) (All-head P x xs all))

-- first passes have seen nothing
pub begun_within : (states : List State) (vs : List View) → AllZip IsFirstOf states vs → All IsWithin vs
begun_within states vs all = all_second IsFirstOf IsWithin (λ s v first. within s v first) states vs all
  where
    within : (s : State) (v : View) → IsFirstOf s v → length v.seen ≤ v.origin.journal
    within s v first = let none : length v.seen ≡ 0 = ap length first.seen in omega arith

pub begun_numbers : (states : List State) (vs : List View) → AllZip IsFirstOf states vs → AreFirst vs
begun_numbers states vs all = all_second IsFirstOf (λ v. v.number ≡ 0) (λ s v first. first.number) states vs all

-- the accounts were taken from the end of the list on
pub begun_views : (states gone : List State) (passes : List Pass) → reverse gone ≡ states → AllZip PassBegins gone passes → AllZip IsFirstOf (reverse states) (views passes)
begun_views states gone passes is all =
    subst (λ (z : List State). AllZip IsFirstOf z (views passes)) (sym (reverse-reverse gone) ∙ ap reverse is) (zip_map_right IsFirstOf view gone passes all)
