-- A lock's rule at the start, where passes are made and joined, and at the end.
use Rattle.std.proofs.Common.{◌≡◌, ◌≢◌, ◌<◌, ◌≤◌, ◌+◌, ◌^◌, ℕ, suc, Bool, true, false, List, [], ◌∷◌, ◌++◌, length, set, refl, sym, ap, ◌∙◌, subst, ◌⊎◌, inl, inr, ⊎_elim, arith, Option, Some, ltb, zero}
use Rattle.std.proofs.lemmas.Bool.{ltb-true, ltb-false}
use mathlib.Core.Option as maybe
use mathlib.Core.Option.{some, none, some-injective, some-ne-none}
use mathlib.Core.Logic.{dite}
use native.Mathlib.Decide.{ℕ_discrete}
use lib.ListN.{get_elem?}
use Rattle.atomic_table.specs.Table.{State, opening, Final, Seen, Splits, Joins}
use Rattle.atomic_table.proofs.Lists.{set_else}
use Rattle.account_core.specs.declared.calls.Entry.{Entry}
use Rattle.account_core.specs.Histories.{Origin, Begins, EachBegins, calls_by, CallersBelow}
use Rattle.account_core.proofs.Histories.{begins_whole, begins_shorter, begins_length, each_begins_both, calls_by_nobody, callers_below_up, callers_of_prefix, calls_between}
use Rattle.account_lock.specs.Known.{View, Stage, resting, waiting, serving, spent, nobody}
use Rattle.account_lock.specs.Views.{first_view, making, newcomer, longer, joined}
use Rattle.account_lock.specs.Order.{At, Exists, out, tickets_of, held_of, own_of, is_live, more, HasTicket, InLine, Knows, Fits, Apart, HasSeen, IsFirst, IsServing, Home, KeepsOrder}
use Rattle.account_lock.specs.Closing.{Leaves}
use Rattle.account_lock.proofs.Seats.{at_here, at_there, same_view, each_set, each_end, pairs_set, pairs_end, exists_set, exists_end, total_set, total_end, total_part, total_parts, total_alone}
use Rattle.account_lock.proofs.Keeps.{knows_at, fits_made, turned, home_set, at_home}

-- of two lists the longer
longer_by : (xs ys : List Entry) (b : Bool) → ltb (length xs) (length ys) ≡ b → ((longer xs ys ≡ xs) × (length ys ≤ length xs)) ⊎ ((longer xs ys ≡ ys) × (length xs < length ys))
longer_by xs ys true e = inr (rw e, ltb-true (length xs) (length ys) e)
longer_by xs ys false e = inl (rw e, ltb-false (length xs) (length ys) e)

longer_is : (xs ys : List Entry) → ((longer xs ys ≡ xs) × (length ys ≤ length xs)) ⊎ ((longer xs ys ≡ ys) × (length xs < length ys))
longer_is xs ys = longer_by xs ys (ltb (length xs) (length ys)) refl

longer_begins : (xs ys log : List Entry) → Begins xs log → Begins ys log → Begins (longer xs ys) log
longer_begins xs ys log b c = ⊎_elim (λ h. subst (λ (l : List Entry). Begins l log) (sym h.0) b) (λ h. subst (λ (l : List Entry). Begins l log) (sym h.0) c) (longer_is xs ys)

-- where one has seen the whole history, so has the longer
longer_left : (xs ys log : List Entry) → Begins ys log → xs ≡ log → longer xs ys ≡ log
longer_left xs ys log c e = ⊎_elim (λ h. h.0 ∙ e) (λ h. let l : length xs ≡ length log = ap length e in let k = begins_length ys log c in let lt : length xs < length ys = h.1 in absurd (omega arith)) (longer_is xs ys)

longer_right : (xs ys log : List Entry) → Begins xs log → ys ≡ log → longer xs ys ≡ log
longer_right xs ys log b e = ⊎_elim
    (λ h. let l : length ys ≡ length log = ap length e in let le : length ys ≤ length xs = h.1 in h.0 ∙ begins_whole xs log b (omega arith))
    (λ h. h.0 ∙ e)
    (longer_is xs ys)

-- a caller's entries in the longer
longer_calls : (n : ℕ) (xs ys log mine : List Entry) → Begins xs log → Begins ys log → calls_by n log ≡ mine → calls_by n xs ≡ mine → calls_by n (longer xs ys) ≡ mine
longer_calls n xs ys log mine b c all part = ⊎_elim
    (λ h. ap (calls_by n) h.0 ∙ part)
    (λ h. let lt : length xs < length ys = h.1 in ap (calls_by n) h.0 ∙ (calls_between n xs ys log (begins_shorter xs ys log b c (omega arith)) c (all ∙ sym part) ∙ part))
    (longer_is xs ys)

module _ (start : Origin) (log : List Entry) (limit made : ℕ) (pending : Bool) where
  abbrev K : View → Type 0
  K = Knows start log limit made pending

  knows_joined : (v w : View) → K v → K w → K (joined v w)
  knows_joined v w k l = record {
    origin = k.origin;
    limited = k.limited;
    seen = longer_begins v.seen w.seen log k.seen l.seen;
    olds = each_begins_both (v.olds ++ v.seen ∷ w.seen ∷ []) w.olds log (each_begins_both v.olds (v.seen ∷ w.seen ∷ []) log k.olds (k.seen, (l.seen, tt))) l.olds;
    mine = k.mine;
    mine_seen = longer_calls v.number v.seen w.seen log v.mine k.seen l.seen k.mine k.mine_seen;
    part = let a : 1 ≤ v.held = k.part in omega arith;
    numbered = k.numbered;
    first = k.first;
  }

  knows_making : (v : View) → v.number ≡ 0 → pending ≡ false → K v → Knows start log limit made true (making v)
  knows_making v first pends k = let n : v.number < made + more pending = k.numbered in let z : more pending ≡ 0 = ap more pends in record {
    origin = k.origin;
    limited = k.limited;
    seen = k.seen;
    olds = k.olds;
    mine = k.mine;
    mine_seen = k.mine_seen;
    part = k.part;
    numbered = omega arith;
    first = λ e. ((k.first e).0, refl);
  }

  knows_newcomer : (v : View) → v.number ≡ 0 → pending ≡ false → CallersBelow (made + more pending) log → K v → Knows start log limit made true (newcomer v)
  knows_newcomer v first pends callers k =
      let n : v.number < made + more pending = k.numbered in
      let z : more pending ≡ 0 = ap more pends in
      let same : v.made ≡ made = (k.first first).0 in record {
        origin = k.origin;
        limited = k.limited;
        seen = k.seen;
        olds = tt;
        mine = calls_by_nobody v.made (made + more pending) log callers (omega arith);
        mine_seen = calls_by_nobody v.made (made + more pending) v.seen (callers_of_prefix (made + more pending) v.seen log k.seen callers) (omega arith);
        part = omega arith;
        numbered = omega arith;
        first = λ e. let e' : v.made ≡ 0 = e in absurd (omega arith);
      }

alone : (P : View → Type 0) (v : View) → P v → (i : ℕ) (u : View) → At (v ∷ []) i u → P u
alone P v p zero u at = subst P (some-injective v u at) p
alone P v p (suc i) u at = absurd (some-ne-none u (sym at))

first_seat : (v : View) (i : ℕ) (u : View) → At (v ∷ []) i u → i ≡ 0
first_seat v zero u at = refl
first_seat v (suc i) u at = absurd (some-ne-none u (sym at))

-- a view that stands for no pass has no entry
no_own : (start : Origin) (log : List Entry) (limit made : ℕ) (pending : Bool) (v : View) (st : Stage) → v.held ≡ 0 → Fits start log limit made pending v st → v.own ≡ 0
no_own start log limit made pending v resting z f = let p = f.part in absurd (omega arith)
no_own start log limit made pending v waiting z f = let p = f.part in absurd (omega arith)
no_own start log limit made pending v serving z f = let p = f.0.part in absurd (omega arith)
no_own start log limit made pending v spent z f = f.1

module _ {A : Type 0} (origin : A → Origin) (history : A → List Entry) where
  abbrev Rule : ℕ → State (Option A) View → Type 0
  Rule = KeepsOrder origin history

  abbrev St : Type 0
  St = State (Option A) View

  -- a table that is made
  pub starts : (x : A) (limit : ℕ) → 0 < limit → limit < 2 ^ 32 → history x ≡ []
      → Rule limit (opening (0 ∷ 0 ∷ 0 ∷ 1 ∷ []) (Some x ∷ []) (first_view (origin x) limit))
  starts x limit some_room narrow none_yet =
      let v : View = first_view (origin x) limit in record {
        drawn = 0;
        served = 0;
        log = [];
        made = 1;
        start = origin x;
        pending = false;
        words = refl;
        in_line = alone (λ u. InLine 0 0 u.ticket u.stage) v tt;
        lined = λ t le lt. absurd (omega arith);
        tickets = refl;
        home = inl (x, refl, refl, none_yet, alone (λ u. u.stage ≢ serving) v (λ e. let n : resting ≡ serving = e in cc));
        fits = alone (λ u. Fits (origin x) [] limit 1 false u u.stage) v record {
          origin = refl;
          limited = refl;
          seen = ([], refl);
          olds = tt;
          mine = refl;
          mine_seen = refl;
          part = omega arith;
          numbered = omega arith;
          first = λ _. (refl, refl);
        };
        longest = (0, v, refl, (refl, refl));
        apart = λ i j a b at at' ne. absurd (ne (first_seat v i a at ∙ sym (first_seat v j b at')));
        first = (0, v, refl, (refl, refl));
        parts = refl;
        entries = refl;
        callers = tt;
        limited = omega arith;
        narrow = narrow;
      }

  home_end : (homes : List (maybe.Option (Option A))) (views : List View) (start : Origin) (log : List Entry) (w : View) → w.stage ≢ serving
      → Home origin history homes views start log → Home origin history homes (views ++ w ∷ []) start log
  home_end homes views start log w nw (inl (x, is, o, h, away)) = inl (x, is, o, h, each_end (λ u. u.stage ≢ serving) views w nw away)
  home_end homes views start log w nw (inr (is, who)) = inr (is, exists_end IsServing views w who)

  -- the number of the pass that is made is nobody's
  new_number : (limit : ℕ) (s : St) (k : Rule limit s) (v u : View) (j : ℕ) → At s.views j u → v.made ≡ k.made → more k.pending ≡ 0 → Apart (newcomer v) u
  new_number limit s k v u j at made z = (
    (λ _ l e. let kn = knows_at origin history limit s k j u at l in let n : u.number < k.made + more k.pending = kn.numbered in let e' : v.made ≡ u.number = e in absurd (omega arith)),
    λ o _. let i : 0 ≡ 1 = o in absurd (omega arith),
  )

  -- a split, of the first view, where no pass is being made
  pub splits : (limit id : ℕ) (v : View) → v.stage ≡ resting → v.number ≡ 0 → v.pending ≡ false → v.made < v.limit → Splits (Rule limit) id v (making v) (newcomer v)
  splits limit id v rest first pends room s k at =
      let w : View = making v in
      let x : View = newcomer v in
      let live : is_live v.stage ≡ true = ap is_live rest in
      let kn = knows_at origin history limit s k id v at live in
      let is = kn.first first in
      let none_pends : k.pending ≡ false = sym is.1 ∙ pends in
      let z : more k.pending ≡ 0 = ap more none_pends in
      let made : v.made ≡ k.made = is.0 in
      let same : v.limit ≡ limit = kn.limited in
      let idle : (st : Stage) → v.stage ≡ st → st ≡ resting = λ st e. sym e ∙ rest in
      let between : List View = set s.views id w in
      let fits : (j : ℕ) (u : View) → At (between ++ x ∷ []) j u → Fits k.start k.log limit k.made true u u.stage =
      each_end (λ u. Fits k.start k.log limit k.made true u u.stage) between x (knows_newcomer k.start k.log limit k.made k.pending v first none_pends k.callers kn)
      (each_set (λ u. Fits k.start k.log limit k.made true u u.stage) s.views id w
      (subst (λ (t : Stage). Fits k.start k.log limit k.made true w t) (sym rest) (knows_making k.start k.log limit k.made k.pending v first none_pends kn))
      (λ j u ne a. fits_made k.start k.log limit k.made k.pending u u.stage k.made true (omega arith)
      (λ l e. (k.apart id j v u at a (λ y. ne (sym y))).0 live l (first ∙ sym e))
      (k.fits j u a))) in record {
        drawn = k.drawn;
        served = k.served;
        log = k.log;
        made = k.made;
        start = k.start;
        pending = true;
        words = k.words;
        in_line = each_end (λ u. InLine k.served k.drawn u.ticket u.stage) between x tt (each_set (λ u. InLine k.served k.drawn u.ticket u.stage) s.views id w (k.in_line id v at) (λ j u _ a. k.in_line j u a));
        lined = λ t le lt. exists_end (HasTicket t) between x (exists_set (HasTicket t) (HasTicket t) s.views id v w at (λ h. h) (λ _ _ _ _ h. h) (k.lined t le lt));
        tickets = let a = total_set tickets_of s.views id v w at in let b = total_end tickets_of between x in let c = k.tickets in omega arith;
        home = home_end s.homes between k.start k.log x (λ e. let n : resting ≡ serving = e in cc)
            (home_set origin history s.homes s.views k.start k.log id v w at (λ e. let n : resting ≡ serving = sym rest ∙ e in cc) (λ e. let n : resting ≡ serving = sym rest ∙ e in cc) k.home);
        fits = fits;
        longest = exists_end (HasSeen k.log) between x (exists_set (HasSeen k.log) (HasSeen k.log) s.views id v w at (λ h. h) (λ _ _ _ _ h. h) k.longest);
        apart = pairs_end Apart turned between x (pairs_set Apart turned s.views id w k.apart (λ j u ne a. k.apart id j v u at a (λ e. ne (sym e))))
            (each_set (λ u. Apart x u) s.views id w (new_number limit s k v v id at made (omega arith)) (λ j u _ a. new_number limit s k v u j a made (omega arith)));
        first = exists_end IsFirst between x (exists_set IsFirst IsFirst s.views id v w at (λ h. h) (λ _ _ _ _ h. h) k.first);
        parts = let a = total_set held_of s.views id v w at in let b = total_end held_of between x in let c = k.parts in omega arith;
        entries = let a = total_set own_of s.views id v w at in let b = total_end own_of between x in let c = k.entries in omega arith;
        callers = callers_below_up (k.made + more k.pending) (k.made + more true) k.log k.callers (omega arith);
        limited = omega arith;
        narrow = k.narrow;
      }

  still_longest : (limit : ℕ) (s : St) (k : Rule limit s) (id other : ℕ) (v w : View) → At s.views id v → At s.views other w → other ≢ id → is_live v.stage ≡ true → Begins v.seen k.log → Begins w.seen k.log
      → Exists (HasSeen k.log) (set (set s.views id (joined v w)) other nobody)
  still_longest limit s k id other v w at at' ne live begins begins' =
      let both : View = joined v w in
      let between : List View = set s.views id both in
      let found = k.longest in
      let j : ℕ = found.0 in
      let u : View = found.1 in
      let here : At (set between other nobody) id both = at_there between other id nobody both (λ e. ne (sym e)) (at_here s.views id v both at) in
      dite (ℕ_discrete j other)
      (λ e. (id, both, here, (live, longer_right v.seen w.seen k.log begins (ap (λ (x : View). x.seen) (sym (same_view s.views j other u w e found.2 at')) ∙ found.3.1))))
      (λ n. dite (ℕ_discrete j id)
      (λ e. (id, both, here, (live, longer_left v.seen w.seen k.log begins' (ap (λ (x : View). x.seen) (sym (same_view s.views j id u v e found.2 at)) ∙ found.3.1))))
      (λ n'. (j, u, at_there between other j nobody u n (at_there s.views id j both u n' found.2), found.3)))

  -- a join, of two views without a ticket
  pub joins : (limit id other : ℕ) (v w : View) → v.stage ≡ resting → w.stage ≡ resting → w.number ≢ 0 → Joins (Rule limit) id v other w (joined v w) nobody
  joins limit id other v w rest rest' not_first s k at ne at_mid =
      let both : View = joined v w in
      let between : List View = set s.views id both in
      let at' : At s.views other w = sym (set_else s.views id other both ne) ∙ at_mid in
      let live : is_live v.stage ≡ true = ap is_live rest in
      let kn = knows_at origin history limit s k id v at live in
      let kn' = knows_at origin history limit s k other w at' (ap is_live rest') in
      let no_out : out w.stage ≡ 0 = ap out rest' in
      let not_serving : v.stage ≢ serving = λ e. let n : resting ≡ serving = sym rest ∙ e in cc in
      let not_serving' : w.stage ≢ serving = λ e. let n : resting ≡ serving = sym rest' ∙ e in cc in record {
        drawn = k.drawn;
        served = k.served;
        log = k.log;
        made = k.made;
        start = k.start;
        pending = k.pending;
        words = k.words;
        in_line = each_set (λ u. InLine k.served k.drawn u.ticket u.stage) between other nobody tt
            (λ j u _ a. each_set (λ u. InLine k.served k.drawn u.ticket u.stage) s.views id both (k.in_line id v at) (λ i x _ b. k.in_line i x b) j u a);
        lined = λ t le lt. exists_set (HasTicket t) (HasTicket t) between other w nobody at_mid (λ h. let o : out w.stage ≡ 1 = h.0 in absurd (omega arith)) (λ _ _ _ _ h. h)
            (exists_set (HasTicket t) (HasTicket t) s.views id v both at (λ h. h) (λ _ _ _ _ h. h) (k.lined t le lt));
        tickets = let a = total_set tickets_of s.views id v both at in let b = total_set tickets_of between other w nobody at_mid in let c = k.tickets in omega arith;
        home = home_set origin history s.homes between k.start k.log other w nobody at_mid not_serving' (λ e. let n : spent ≡ serving = e in cc)
            (home_set origin history s.homes s.views k.start k.log id v both at not_serving not_serving k.home);
        fits = each_set (λ u. Fits k.start k.log limit k.made k.pending u u.stage) between other nobody (refl, refl)
            (λ j u _ a. each_set (λ u. Fits k.start k.log limit k.made k.pending u u.stage) s.views id both
            (subst (λ (t : Stage). Fits k.start k.log limit k.made k.pending both t) (sym rest) (knows_joined k.start k.log limit k.made k.pending v w kn kn'))
            (λ i x _ b. k.fits i x b)
            j
            u
            a);
        longest = still_longest limit s k id other v w at at' ne live kn.seen kn'.seen;
        apart = pairs_set Apart turned between other nobody (pairs_set Apart turned s.views id both k.apart (λ j u n a. k.apart id j v u at a (λ e. n (sym e))))
            (λ j u _ a. ((λ l _. let z : false ≡ true = l in absurd cc), λ o _. let z : 0 ≡ 1 = o in absurd (omega arith)));
        first = exists_set IsFirst IsFirst between other w nobody at_mid (λ h. absurd (not_first h.1)) (λ _ _ _ _ h. h) (exists_set IsFirst IsFirst s.views id v both at (λ h. h) (λ _ _ _ _ h. h) k.first);
        parts = let a = total_set held_of s.views id v both at in let b = total_set held_of between other w nobody at_mid in let c = k.parts in omega arith;
        entries = let a = total_set own_of s.views id v both at in let b = total_set own_of between other w nobody at_mid in let c = k.entries in omega arith;
        callers = k.callers;
        limited = k.limited;
        narrow = k.narrow;
      }

  left_by : (limit : ℕ) (s : St) (k : Rule limit s) (v : View) (x : A) → v.held ≡ v.made → origin x ≡ k.start → history x ≡ k.log → k.made + more k.pending ≡ v.made
      → Knows k.start k.log limit k.made k.pending v → length k.log ≡ v.own → Leaves origin history v x
  left_by limit s k v x held begun whole made kn own = record {
    held = held;
    begun = begun ∙ sym kn.origin;
    seen = subst (Begins v.seen) (sym whole) kn.seen;
    olds = subst (EachBegins v.olds) (sym whole) kn.olds;
    callers = subst (CallersBelow v.made) (sym whole) (subst (λ (n : ℕ). CallersBelow n k.log) made k.callers);
    own = ap length whole ∙ own;
    mine = ap (calls_by v.number) whole ∙ kn.mine;
  }

  -- the lock is closed by the first view, which stands for all passes
  pub closes : (limit id : ℕ) (v : View) (words : List ℕ) (slots : List (Option A)) (slot : Option A) → v.stage ≡ resting → v.number ≡ 0 → v.pending ≡ false → v.made ≤ v.held
      → Final (Seen (Rule limit) id v) words slots → get_elem? slots 0 ≡ some slot → (x : A) × (slot ≡ Some x) × Leaves origin history v x
  closes limit id v words slots slot rest first pends all (s, (k, at), _, _, back) taken =
      let kn = knows_at origin history limit s k id v at (ap is_live rest) in
      let is = kn.first first in
      let made : v.made ≡ k.made = is.0 in
      let z : more k.pending ≡ 0 = ap more (sym is.1 ∙ pends) in
      let parts = k.parts in
      let part = total_part held_of s.views id v at in
      let none_held : (j : ℕ) (u : View) → j ≢ id → At s.views j u → u.held ≡ 0 = λ j u ne a. let sum = total_parts held_of s.views id j v u at a (λ e. ne (sym e)) in omega arith in
      let home = at_home origin history limit s k (λ j u a e. dite (ℕ_discrete j id)
      (λ same. let n : resting ≡ serving = sym rest ∙ (ap (λ (x : View). x.stage) (sym (same_view s.views j id u v same a at)) ∙ e) in absurd cc)
      (λ ne. let held = (knows_at origin history limit s k j u a (ap is_live e)).part in let none_of = none_held j u ne a in absurd (omega arith))) in
      let own = total_alone own_of s.views id v at (λ j u ne a. no_own k.start k.log limit k.made k.pending u u.stage (none_held j u ne a) (k.fits j u a)) in
      let there = back 0 (Some home.0) (ap (λ (hs : List (maybe.Option (Option A))). get_elem? hs 0) home.1) in
      (home.0, some-injective slot (Some home.0) (sym taken ∙ there), left_by limit s k v home.0 (omega arith) home.2 home.3 (omega arith) kn (sym k.entries ∙ own))

  pub value_left : (v : View) (slot : Option A) (y : A) → slot ≡ Some y → ((x : A) × (slot ≡ Some x) × Leaves origin history v x) → Leaves origin history v y
  value_left v slot y is (x, is', left) = let same : x ≡ y = cc in subst (λ (z : A). Leaves origin history v z) same left
