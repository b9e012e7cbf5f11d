-- Each kind of step on one view keeps the rule of a lock.
use Rattle.std.proofs.Common.{◌≡◌, ◌≢◌, ◌<◌, ◌≤◌, ◌+◌, ◌%◌, ◌/◌, ◌*◌, ◌^◌, ℕ, Bool, true, false, List, [], ◌∷◌, ◌++◌, length, set, refl, sym, ap, ◌∙◌, subst, ◌⊎◌, inl, inr, ⊎_elim, arith, Option, Some, div-add-mod', mod-eq_of_lt, length-append}
use Rattle.std.specs.Prelude.{slice_index, slice_set}
use Rattle.std.proofs.Math.Nat.{mul-add-mod_self_right}
use mathlib.Core.Option as maybe
use mathlib.Core.Option.{some, none}
use mathlib.Core.Logic.{dite}
use native.Mathlib.Decide.{ℕ_discrete}
use lib.ListN.{get_elem?}
use Rattle.atomic_table.specs.Table.{State, Me, Step, step, Act, Valid, carried_after, keeps, takes, gives, stepped, Allows}
use Rattle.atomic_table.proofs.Lists.{set_again, one_turn}
use Rattle.account_core.specs.declared.calls.Entry.{Entry}
use Rattle.account_core.specs.Histories.{Origin, Begins, EachBegins, calls_by, CallersBelow}
use Rattle.account_core.proofs.Histories.{begins_itself, begins_along, each_begins_along, calls_by_own, calls_by_other, callers_below_more}
use Rattle.account_lock.specs.Known.{View, Stage, resting, waiting, serving, spent}
use Rattle.account_lock.specs.Views.{with_ticket, with_turn, at_rest, with_entry, having_made}
use Rattle.account_lock.specs.Order.{At, Exists, out, tickets_of, held_of, own_of, is_live, more, HasTicket, InLine, Knows, Fits, Apart, HasSeen, IsFirst, IsServing, Home, KeepsOrder}
use Rattle.account_lock.specs.Steps.{drew, looked, served_next, committed, enlisted, bounded}
use Rattle.account_lock.proofs.Seats.{at_here, same_view, each_set, pairs_set, exists_set, total_set, total_part, total_below}

-- a word that wraps goes on by one
pub goes_on : (n m : ℕ) → (n % m + 1) % m ≡ (n + 1) % m
goes_on n m =
    let e : n + 1 ≡ n / m * m + (n % m + 1) = omega (arith, div-add-mod' n m) in
    sym (ap (λ (z : ℕ). z % m) e ∙ mul-add-mod_self_right (n / m) m (n % m + 1))

-- tickets in line
pub in_line_drawn : (served drawn t : ℕ) (st : Stage) → InLine served drawn t st → InLine served (drawn + 1) t st
in_line_drawn served drawn t resting l = tt
in_line_drawn served drawn t waiting l = let a : served ≤ t = l.0 in let b : t < drawn = l.1 in (a, omega arith)
in_line_drawn served drawn t serving l = let b : served < drawn = l.1 in (l.0, omega arith)
in_line_drawn served drawn t spent l = tt

pub in_line_served : (served drawn t : ℕ) (st : Stage) → InLine served drawn t st → (out st ≡ 1 → t ≢ served) → InLine (served + 1) drawn t st
in_line_served served drawn t resting l ne = tt
in_line_served served drawn t waiting l ne = let a : served ≤ t = l.0 in let n : t ≢ served = ne refl in (omega arith, l.1)
in_line_served served drawn t serving l ne = absurd (ne refl l.0)
in_line_served served drawn t spent l ne = tt

pub in_line_between : (served drawn t : ℕ) (st : Stage) → InLine served drawn t st → out st ≡ 1 → (served ≤ t) × (t < drawn)
in_line_between served drawn t resting l o = absurd (omega arith)
in_line_between served drawn t waiting l o = l
in_line_between served drawn t serving l o = let a : t ≡ served = l.0 in let b : served < drawn = l.1 in (omega arith, omega arith)
in_line_between served drawn t spent l o = absurd (omega arith)

pub serving_is_out : (st : Stage) → st ≡ serving → out st ≡ 1
serving_is_out st e = ap out e

pub not_spent : (st : Stage) → out st ≡ 1 → is_live st ≡ true
not_spent resting o = refl
not_spent waiting o = refl
not_spent serving o = refl
not_spent spent o = absurd (omega arith)

pub turned : (v w : View) → Apart v w → Apart w v
turned v w a = ((λ l m e. a.0 m l (sym e)), λ o p e. a.1 p o (sym e))

module _ (start : Origin) (log : List Entry) (limit made : ℕ) (pending : Bool) where
  abbrev pub K : View → Type 0
  K v = Knows start log limit made pending v

  abbrev pub F : View → Stage → Type 0
  F v st = Fits start log limit made pending v st

  pub knows : (v : View) (st : Stage) → is_live st ≡ true → F v st → K v
  knows v resting l f = f
  knows v waiting l f = f
  knows v serving l f = f.0
  knows v spent l f = absurd cc

  -- another stage and ticket
  pub restaged : (v : View) (st : Stage) (t : ℕ) → K v → K record v { stage = st; ticket = t }
  restaged v st t k = record { origin = k.origin; limited = k.limited; seen = k.seen; olds = k.olds; mine = k.mine; mine_seen = k.mine_seen; part = k.part; numbered = k.numbered; first = k.first }

  -- no more tickets are out than passes are held
  pub out_held : (v : View) (st : Stage) → F v st → out st ≤ v.held
  out_held v resting f = omega arith
  out_held v waiting f = f.part
  out_held v serving f = f.0.part
  out_held v spent f = omega arith

  -- an entry more, of another
  knows_more : (v : View) (e : Entry) → e.caller ≢ v.number → K v → Knows start (log ++ e ∷ []) limit made pending v
  knows_more v e ne k = let longer : Begins log (log ++ e ∷ []) = (e ∷ [], refl) in record {
    origin = k.origin;
    limited = k.limited;
    seen = begins_along v.seen log (log ++ e ∷ []) k.seen longer;
    olds = each_begins_along v.olds log (log ++ e ∷ []) k.olds longer;
    mine = calls_by_other v.number log e ne ∙ k.mine;
    mine_seen = k.mine_seen;
    part = k.part;
    numbered = k.numbered;
    first = k.first;
  }

  pub fits_more : (v : View) (st : Stage) (e : Entry) → (is_live st ≡ true → e.caller ≢ v.number) → (out st ≡ 1 → st ≢ serving) → F v st → Fits start (log ++ e ∷ []) limit made pending v st
  fits_more v resting e ne ns f = knows_more v e (ne refl) f
  fits_more v waiting e ne ns f = knows_more v e (ne refl) f
  fits_more v serving e ne ns f = absurd (ns refl refl)
  fits_more v spent e ne ns f = f

  -- an entry more, of its own
  pub knows_own : (v : View) (e : Entry) → e.caller ≡ v.number → v.seen ≡ log → K v → Knows start (log ++ e ∷ []) limit made pending (with_entry v e)
  knows_own v e is whole k = let longer : Begins log (log ++ e ∷ []) = (e ∷ [], refl) in
      let more : calls_by v.number (log ++ e ∷ []) ≡ v.mine ++ e ∷ [] = calls_by_own v.number log e is ∙ ap (λ (l : List Entry). l ++ e ∷ []) k.mine in
      let all : v.seen ++ e ∷ [] ≡ log ++ e ∷ [] = ap (λ (l : List Entry). l ++ e ∷ []) whole in record {
        origin = k.origin;
        limited = k.limited;
        seen = subst (λ (l : List Entry). Begins l (log ++ e ∷ [])) (sym all) (begins_itself (log ++ e ∷ []));
        olds = each_begins_along v.olds log (log ++ e ∷ []) k.olds longer;
        mine = more;
        mine_seen = ap (calls_by v.number) all ∙ more;
        part = k.part;
        numbered = k.numbered;
        first = k.first;
      }

  -- the whole history was seen
  pub all_seen : (v : View) (l : List Entry) → l ≡ log → K v → K (with_turn v l)
  all_seen v l whole k = record {
    origin = k.origin;
    limited = k.limited;
    seen = subst (λ (z : List Entry). Begins z log) (sym whole) (begins_itself log);
    olds = k.olds;
    mine = k.mine;
    mine_seen = ap (calls_by v.number) whole ∙ k.mine;
    part = k.part;
    numbered = k.numbered;
    first = k.first;
  }

  -- other numbers of passes, for a view that is not the first
  knows_made : (v : View) (made' : ℕ) (pending' : Bool) → made + more pending ≤ made' + more pending' → v.number ≢ 0 → K v → Knows start log limit made' pending' v
  knows_made v made' pending' le ne k = let n : v.number < made + more pending = k.numbered in record {
    origin = k.origin;
    limited = k.limited;
    seen = k.seen;
    olds = k.olds;
    mine = k.mine;
    mine_seen = k.mine_seen;
    part = k.part;
    numbered = omega arith;
    first = λ e. absurd (ne e);
  }

  pub fits_made : (v : View) (st : Stage) (made' : ℕ) (pending' : Bool) → made + more pending ≤ made' + more pending' → (is_live st ≡ true → v.number ≢ 0) → F v st → Fits start log limit made' pending' v st
  fits_made v resting made' pending' le ne f = knows_made v made' pending' le (ne refl) f
  fits_made v waiting made' pending' le ne f = knows_made v made' pending' le (ne refl) f
  fits_made v serving made' pending' le ne f = (knows_made v made' pending' le (ne refl) f.0, f.1)
  fits_made v spent made' pending' le ne f = f

module _ {A : Type 0} (origin : A → Origin) (history : A → List Entry) where
  abbrev pub Rule : ℕ → State (Option A) View → Type 0
  Rule = KeepsOrder origin history

  abbrev St : Type 0
  St = State (Option A) View

  pub knows_at : (limit : ℕ) (s : St) (k : Rule limit s) (id : ℕ) (v : View) → At s.views id v → is_live v.stage ≡ true → Knows k.start k.log limit k.made k.pending v
  knows_at limit s k id v at live = knows k.start k.log limit k.made k.pending v v.stage live (k.fits id v at)

  -- nobody else has the turn
  pub no_other : (limit : ℕ) (s : St) (k : Rule limit s) (id : ℕ) (v : View) → At s.views id v → out v.stage ≡ 1 → v.ticket ≡ k.served → (j : ℕ) (u : View) → j ≢ id → At s.views j u → u.stage ≢ serving
  no_other limit s k id v at o first j u ne at' is =
      let l : InLine k.served k.drawn u.ticket serving = subst (InLine k.served k.drawn u.ticket) is (k.in_line j u at') in
      (k.apart j id u v at' at ne).1 (ap out is) o (l.0 ∙ sym first)

  -- fewer tickets are out than the words can tell apart
  pub narrow_line : (limit : ℕ) (s : St) (k : Rule limit s) → k.drawn < k.served + 2 ^ 64
  narrow_line limit s k =
      let a = total_below tickets_of held_of s.views (λ j u at. out_held k.start k.log limit k.made k.pending u u.stage (k.fits j u at)) in
      let b = k.tickets in
      let c = k.parts in
      let d : k.made + more k.pending ≤ limit = k.limited in
      let e : limit < 2 ^ 32 = k.narrow in
      omega arith

  pub home_set : (homes : List (maybe.Option (Option A))) (views : List View) (start : Origin) (log : List Entry) (id : ℕ) (v w : View) → At views id v → v.stage ≢ serving → w.stage ≢ serving
      → Home origin history homes views start log → Home origin history homes (set views id w) start log
  home_set homes views start log id v w at nv nw (inl (x, is, o, h, away)) = inl (x, is, o, h, each_set (λ u. u.stage ≢ serving) views id w nw (λ j u _ a. away j u a))
  home_set homes views start log id v w at nv nw (inr (is, who)) = inr (is, exists_set IsServing IsServing views id v w at (λ h. absurd (nv h)) (λ _ _ _ _ h. h) who)

  -- one view changes, and the numbers with it
  changed : (limit : ℕ) (s : St) (k : Rule limit s) (id : ℕ) (v w : View) → At s.views id v → is_live v.stage ≡ true → is_live w.stage ≡ true → w.number ≡ v.number → w.held ≡ v.held
      → (words' : List ℕ) (homes' : List (maybe.Option (Option A))) (drawn' served' : ℕ) (log' : List Entry) (made' : ℕ) (pending' : Bool)
      → words' ≡ (drawn' % 2 ^ 64) ∷ (served' % 2 ^ 64) ∷ (length log' % 2 ^ 64) ∷ made' ∷ []
      → InLine served' drawn' w.ticket w.stage → ((j : ℕ) (u : View) → j ≢ id → At s.views j u → InLine served' drawn' u.ticket u.stage)
      → ((t : ℕ) → served' ≤ t → t < drawn' → HasTicket t w ⊎ ((k.served ≤ t) × (t < k.drawn) × (HasTicket t v → HasTicket t w)))
      → out w.stage + served' + k.drawn ≡ drawn' + out v.stage + k.served
      → ((j : ℕ) (u : View) → j ≢ id → At s.views j u → out w.stage ≡ 1 → out u.stage ≡ 1 → w.ticket ≢ u.ticket)
      → Home origin history homes' (set s.views id w) k.start log'
      → Fits k.start log' limit made' pending' w w.stage → ((j : ℕ) (u : View) → j ≢ id → At s.views j u → Fits k.start log' limit made' pending' u u.stage)
      → Exists (HasSeen log') (set s.views id w)
      → made' + more pending' ≡ k.made + more k.pending → w.own + length k.log ≡ length log' + v.own → CallersBelow (k.made + more k.pending) log'
      → Rule limit record { words = words'; homes = homes'; views = set s.views id w }
  changed limit s k id v w at lv lw number held words' homes' drawn' served' log' made' pending' words line lines lined tickets tickets_apart home fits others longest made own callers = record {
    drawn = drawn';
    served = served';
    log = log';
    made = made';
    start = k.start;
    pending = pending';
    words = words;
    in_line = each_set (λ u. InLine served' drawn' u.ticket u.stage) s.views id w line lines;
    lined = λ t le lt. ⊎_elim
        (λ h. (id, w, at_here s.views id v w at, h))
        (λ h. exists_set (HasTicket t) (HasTicket t) s.views id v w at h.2 (λ _ _ _ _ p. p) (k.lined t h.0 h.1))
        (lined t le lt);
    tickets = let a = total_set tickets_of s.views id v w at in let b = k.tickets in omega arith;
    home = home;
    fits = each_set (λ u. Fits k.start log' limit made' pending' u u.stage) s.views id w fits others;
    longest = longest;
    apart = pairs_set Apart turned s.views id w k.apart
        (λ j u ne a. ((λ _ lu e. (k.apart j id u v a at ne).0 lu lv (sym e ∙ number)), tickets_apart j u ne a));
    first = exists_set IsFirst IsFirst s.views id v w at (λ h. (lw, number ∙ h.1)) (λ _ _ _ _ h. h) k.first;
    parts = let a = total_set held_of s.views id v w at in let b = k.parts in omega arith;
    entries = let a = total_set own_of s.views id v w at in let b = k.entries in omega arith;
    callers = subst (λ (n : ℕ). CallersBelow n log') (sym made) callers;
    limited = let a : k.made + more k.pending ≤ limit = k.limited in omega arith;
    narrow = k.narrow;
  }

  -- nothing changes
  pub unmoved : (limit : ℕ) (s : St) → Rule limit s → (id : ℕ) (v : View) → At s.views id v → (words' : List ℕ) → words' ≡ s.words → Rule limit record { words = words'; homes = s.homes; views = set s.views id v }
  unmoved limit s k id v at words' same =
      subst (λ (z : List ℕ × List View). Rule limit record { words = z.0; homes = s.homes; views = z.1 }) (λ i. (sym same i, sym (set_again s.views id v at) i)) k

  -- no kind of step tells of its operands
  abbrev any : Step (Option A)
  any = step 0 0 0 0 none

  -- a draw, of a view without a ticket
  pub draws : (limit slots id : ℕ) (me : Me (Option A) View) → me.0.stage ≡ resting → Allows (Rule limit) slots id me 0 (λ n. (n + 1) % 2 ^ 64) (drew origin history any me)
  draws limit slots id me rest s k wide at _ =
      let v : View = me.0 in
      let w : View = with_ticket v k.drawn in
      let live : is_live v.stage ≡ true = ap is_live rest in
      let in_all = k.tickets in
      let no_out : out v.stage ≡ 0 = ap out rest in (
        w,
        keeps,
        tt,
        changed limit s k id v w at live refl refl refl (slice_set s.words 0 ((slice_index s.words 0 + 1) % 2 ^ 64)) s.homes (k.drawn + 1) k.served k.log k.made k.pending
            (ap (λ (ws : List ℕ). slice_set ws 0 ((slice_index ws 0 + 1) % 2 ^ 64)) k.words ∙ ap (λ (n : ℕ). n ∷ (k.served % 2 ^ 64) ∷ (length k.log % 2 ^ 64) ∷ k.made ∷ []) (goes_on k.drawn (2 ^ 64)))
            (let le : k.served ≤ k.drawn = omega arith in (le, omega arith))
            (λ j u _ a. in_line_drawn k.served k.drawn u.ticket u.stage (k.in_line j u a))
            (λ t le lt. dite (ℕ_discrete t k.drawn) (λ e. inl (refl, sym e)) (λ ne. inr (le, omega arith, λ h. let o : out v.stage ≡ 1 = h.0 in absurd (omega arith))))
            (omega arith)
            (λ j u _ a _ o e. let b = in_line_between k.served k.drawn u.ticket u.stage (k.in_line j u a) o in omega arith)
            (home_set s.homes s.views k.start k.log id v w at (λ e. let n : resting ≡ serving = sym rest ∙ e in cc) (λ e. cc) k.home)
            (restaged k.start k.log limit k.made k.pending v waiting k.drawn (knows_at limit s k id v at live))
            (λ j u _ a. k.fits j u a)
            (exists_set (HasSeen k.log) (HasSeen k.log) s.views id v w at (λ h. (refl, h.1)) (λ _ _ _ _ h. h) k.longest)
            refl
            (omega arith)
            k.callers,
        (k.drawn, ap (λ (ws : List ℕ). slice_index ws 0) k.words, refl),
      )

  -- the value is at home where nobody has the turn
  pub at_home : (limit : ℕ) (s : St) (k : Rule limit s) → ((j : ℕ) (u : View) → At s.views j u → u.stage ≢ serving)
      → (x : A) × (s.homes ≡ some (Some x) ∷ []) × (origin x ≡ k.start) × (history x ≡ k.log)
  at_home limit s k nobody = ⊎_elim (λ (x, is, o, h, _). (x, is, o, h)) (λ (_, (j, u, at, is)). absurd (nobody j u at is)) k.home

  -- and it is out with the view that has the turn
  out_with : (limit : ℕ) (s : St) (k : Rule limit s) (id : ℕ) (v : View) → At s.views id v → v.stage ≡ serving → s.homes ≡ none ∷ []
  out_with limit s k id v at is = ⊎_elim (λ (_, _, _, _, nobody). absurd (nobody id v at is)) (λ h. h.0) k.home

  abbrev Tells : ℕ → ℕ → ℕ → Me (Option A) View → (ℕ → ℕ) → (ℕ → Me (Option A) View → Type 0) → St → Type 0
  Tells limit id i me f then s = (w : View) × (a : Act (Option A)) × Valid s.homes me.1 a × Rule limit (stepped s i (f (slice_index s.words i)) id me.1 w a)
      × then (slice_index s.words i) (w, carried_after me.1 a)

  -- a look, where the ticket is the one that is served, and the value is at home
  turn_begins : (limit id : ℕ) (me : Me (Option A) View) (s : St) (k : Rule limit s) (x : A) → At s.views id me.0 → me.0.stage ≡ waiting → slice_index s.words 1 ≡ me.0.ticket % 2 ^ 64
      → k.served ≡ me.0.ticket → s.homes ≡ some (Some x) ∷ [] → origin x ≡ k.start → history x ≡ k.log → Tells limit id 1 me (λ n. n) (looked origin history any me) s
  turn_begins limit id me s k x at waits hit mine home begun whole =
      let v : View = me.0 in
      let w : View = with_turn v (history x) in
      let live : is_live v.stage ≡ true = ap is_live waits in
      let is_out : out v.stage ≡ 1 = ap out waits in
      let line : InLine k.served k.drawn v.ticket waiting = subst (InLine k.served k.drawn v.ticket) waits (k.in_line id v at) in
      let before : v.ticket < k.drawn = line.1 in
      let kn = knows_at limit s k id v at live in (
        w,
        takes 0 (Some x),
        ap (λ (hs : List (maybe.Option (Option A))). get_elem? hs 0) home,
        changed limit s k id v w at live refl refl refl (slice_set s.words 1 (slice_index s.words 1)) (slice_set s.homes 0 none) k.drawn k.served k.log k.made k.pending
            (ap (λ (ws : List ℕ). slice_set ws 1 (slice_index ws 1)) k.words)
            (sym mine, omega arith)
            (λ j u _ a. k.in_line j u a)
            (λ t le lt. inr (le, lt, λ h. (refl, h.1)))
            (omega arith)
            (λ j u ne a _ o. (k.apart id j v u at a (λ e. ne (sym e))).1 is_out o)
            (inr (ap (λ (hs : List (maybe.Option (Option A))). slice_set hs 0 none) home, (id, w, at_here s.views id v w at, refl)))
            (all_seen k.start k.log limit k.made k.pending v (history x) whole kn, whole)
            (λ j u _ a. k.fits j u a)
            (id, w, at_here s.views id v w at, (refl, whole))
            refl
            (omega arith)
            k.callers,
        (
          (λ _. (
            x,
            refl,
            begun ∙ sym kn.origin,
            (
              subst (λ (l : List Entry). Begins v.seen l) (sym whole) kn.seen,
              subst (λ (l : List Entry). EachBegins v.olds l) (sym whole) kn.olds,
              ap (calls_by v.number) whole ∙ kn.mine,
            ),
          )),
          λ miss. absurd (miss hit),
        ),
      )

  -- a look, where the words say that the ticket is served
  turn_comes : (limit id : ℕ) (me : Me (Option A) View) (s : St) (k : Rule limit s) → At s.views id me.0 → me.0.stage ≡ waiting → slice_index s.words 1 ≡ me.0.ticket % 2 ^ 64
      → Tells limit id 1 me (λ n. n) (looked origin history any me) s
  turn_comes limit id me s k at waits hit =
      let v : View = me.0 in
      let line : InLine k.served k.drawn v.ticket waiting = subst (InLine k.served k.drawn v.ticket) waits (k.in_line id v at) in
      let after : k.served ≤ v.ticket = line.0 in
      let before : v.ticket < k.drawn = line.1 in
      let near = narrow_line limit s k in
      let same : k.served % 2 ^ 64 ≡ v.ticket % 2 ^ 64 = sym (ap (λ (ws : List ℕ). slice_index ws 1) k.words) ∙ hit in
      let mine : k.served ≡ v.ticket = one_turn k.served v.ticket (2 ^ 64) after (omega arith) same in
      let home = at_home limit s k (λ j u a. dite (ℕ_discrete j id)
      (λ e is. let n : serving ≡ waiting = sym is ∙ (ap (λ (z : View). z.stage) (same_view s.views j id u v e a at) ∙ waits) in cc)
      (λ ne. no_other limit s k id v at (ap out waits) (sym mine) j u ne a)) in
      turn_begins limit id me s k home.0 at waits hit mine home.1 home.2 home.3

  -- a look, of a view with a ticket that is not served yet
  pub looks : (limit slots id : ℕ) (me : Me (Option A) View) → me.0.stage ≡ waiting → Allows (Rule limit) slots id me 1 (λ n. n) (looked origin history any me)
  looks limit slots id me waits s k wide at _ = dite (ℕ_discrete (slice_index s.words 1) (me.0.ticket % 2 ^ 64))
      (λ hit. turn_comes limit id me s k at waits hit)
      (λ miss. (
        me.0,
        keeps,
        tt,
        unmoved limit s k id me.0 at (slice_set s.words 1 (slice_index s.words 1)) (ap (λ (ws : List ℕ). slice_set ws 1 (slice_index ws 1)) k.words ∙ sym k.words),
        ((λ hit. absurd (miss hit)), λ _. refl),
      ))

  turn_ends : (limit slots id : ℕ) (v : View) (x : A) → v.stage ≡ serving → history x ≡ v.seen → origin x ≡ v.origin
      → Allows (Rule limit) slots id (v, (0, Some x) ∷ []) 1 (λ n. (n + 1) % 2 ^ 64) (served_next origin history any (v, (0, Some x) ∷ []))
  turn_ends limit slots id v x serves seen begun s k wide at _ =
      let w : View = at_rest v in
      let live : is_live v.stage ≡ true = ap is_live serves in
      let is_out : out v.stage ≡ 1 = ap out serves in
      let line : InLine k.served k.drawn v.ticket serving = subst (InLine k.served k.drawn v.ticket) serves (k.in_line id v at) in
      let mine : v.ticket ≡ k.served = line.0 in
      let kn = knows_at limit s k id v at live in
      let fits : Fits k.start k.log limit k.made k.pending v serving = subst (Fits k.start k.log limit k.made k.pending v) serves (k.fits id v at) in (
        w,
        gives,
        tt,
        changed limit s k id v w at live refl refl refl (slice_set s.words 1 ((slice_index s.words 1 + 1) % 2 ^ 64)) (slice_set s.homes 0 (some (Some x))) k.drawn (k.served + 1) k.log k.made k.pending
            (ap (λ (ws : List ℕ). slice_set ws 1 ((slice_index ws 1 + 1) % 2 ^ 64)) k.words ∙ ap (λ (n : ℕ). (k.drawn % 2 ^ 64) ∷ n ∷ (length k.log % 2 ^ 64) ∷ k.made ∷ []) (goes_on k.served (2 ^ 64)))
            tt
            (λ j u ne a. in_line_served k.served k.drawn u.ticket u.stage (k.in_line j u a) (λ o e. (k.apart j id u v a at ne).1 o is_out (e ∙ sym mine)))
            (λ t le lt. inr (omega arith, lt, λ h. let e : v.ticket ≡ t = h.1 in absurd (omega arith)))
            (omega arith)
            (λ j u ne a o _. let z : 0 ≡ 1 = o in absurd (omega arith))
            (inl (
              x,
              ap (λ (hs : List (maybe.Option (Option A))). slice_set hs 0 (some (Some x))) (out_with limit s k id v at serves),
              begun ∙ kn.origin,
              seen ∙ fits.1,
              each_set (λ u. u.stage ≢ serving) s.views id w (λ e. let n : resting ≡ serving = e in cc) (λ j u ne a. no_other limit s k id v at is_out mine j u ne a),
            ))
            (restaged k.start k.log limit k.made k.pending v resting v.ticket kn)
            (λ j u _ a. k.fits j u a)
            (exists_set (HasSeen k.log) (HasSeen k.log) s.views id v w at (λ h. (refl, h.1)) (λ _ _ _ _ h. h) k.longest)
            refl
            (omega arith)
            k.callers,
        refl,
      )

  -- serve next, of a view with the turn, whose value has the history that the view has seen
  pub serves : (limit slots id : ℕ) (me : Me (Option A) View) (x : A) → me.0.stage ≡ serving → me.1 ≡ (0, Some x) ∷ [] → history x ≡ me.0.seen → origin x ≡ me.0.origin
      → Allows (Rule limit) slots id me 1 (λ n. (n + 1) % 2 ^ 64) (served_next origin history any me)
  serves limit slots id me x turn slot seen begun =
      subst (λ (c : List (ℕ × Option A)). Allows (Rule limit) slots id (me.0, c) 1 (λ n. (n + 1) % 2 ^ 64) (served_next origin history any (me.0, c))) (sym slot) (turn_ends limit slots id me.0 x turn seen begun)

  -- a commit, of a view with the turn, whose value has one entry more than the view has seen
  pub commits : (limit slots id : ℕ) (me : Me (Option A) View) (x : A) (e : Entry) → me.0.stage ≡ serving → me.1 ≡ (0, Some x) ∷ [] → history x ≡ me.0.seen ++ e ∷ [] → e.caller ≡ me.0.number
      → Allows (Rule limit) slots id me 2 (λ n. (n + 1) % 2 ^ 64) (committed origin history any me)
  commits limit slots id me x e turn slot grown caller s k wide at _ =
      let v : View = me.0 in
      let w : View = with_entry v e in
      let log' : List Entry = k.log ++ e ∷ [] in
      let live : is_live v.stage ≡ true = ap is_live turn in
      let is_out : out v.stage ≡ 1 = ap out turn in
      let line : InLine k.served k.drawn v.ticket serving = subst (InLine k.served k.drawn v.ticket) turn (k.in_line id v at) in
      let mine : v.ticket ≡ k.served = line.0 in
      let kn = knows_at limit s k id v at live in
      let fits : Fits k.start k.log limit k.made k.pending v serving = subst (Fits k.start k.log limit k.made k.pending v) turn (k.fits id v at) in
      let all : w.seen ≡ log' = ap (λ (l : List Entry). l ++ e ∷ []) fits.1 in
      let below : v.number < k.made + more k.pending = kn.numbered in
      let long : length log' ≡ length k.log + 1 = length-append k.log (e ∷ []) in (
        w,
        keeps,
        tt,
        changed limit s k id v w at live live refl refl (slice_set s.words 2 ((slice_index s.words 2 + 1) % 2 ^ 64)) s.homes k.drawn k.served log' k.made k.pending
            (ap (λ (ws : List ℕ). slice_set ws 2 ((slice_index ws 2 + 1) % 2 ^ 64)) k.words
            ∙ ap (λ (n : ℕ). (k.drawn % 2 ^ 64) ∷ (k.served % 2 ^ 64) ∷ n ∷ k.made ∷ []) (goes_on (length k.log) (2 ^ 64) ∙ ap (λ (n : ℕ). n % 2 ^ 64) (sym long)))
            (k.in_line id v at)
            (λ j u _ a. k.in_line j u a)
            (λ t le lt. inr (le, lt, λ h. h))
            (omega arith)
            (λ j u ne a o o'. (k.apart id j v u at a (λ z. ne (sym z))).1 o o')
            (inr (out_with limit s k id v at turn, (id, w, at_here s.views id v w at, turn)))
            (subst (λ (z : Stage). Fits k.start log' limit k.made k.pending w z) (sym turn) (knows_own k.start k.log limit k.made k.pending v e caller fits.1 kn, all))
            (λ j u ne a. fits_more k.start k.log limit k.made k.pending u u.stage e
            (λ l z. (k.apart id j v u at a (λ y. ne (sym y))).0 live l (sym caller ∙ z))
            (λ _. no_other limit s k id v at is_out mine j u ne a)
            (k.fits j u a))
            (id, w, at_here s.views id v w at, (live, all))
            refl
            (omega arith)
            (callers_below_more (k.made + more k.pending) k.log e k.callers (omega arith)),
        (x, e, slot, grown, caller, refl),
      )

  -- enlist, of the first view, while a pass is being made
  pub enlists : (limit slots id : ℕ) (me : Me (Option A) View) → me.0.stage ≡ resting → me.0.number ≡ 0 → me.0.pending ≡ true
      → Allows (Rule limit) slots id me 3 (λ n. (n + 1) % 2 ^ 64) (enlisted origin history any me)
  enlists limit slots id me rest first pends s k wide at _ =
      let v : View = me.0 in
      let w : View = having_made v in
      let live : is_live v.stage ≡ true = ap is_live rest in
      let kn = knows_at limit s k id v at live in
      let is = kn.first first in
      let one : more k.pending ≡ 1 = ap more (sym is.1 ∙ pends) in
      let limited : k.made + more k.pending ≤ limit = k.limited in
      let narrow : limit < 2 ^ 32 = k.narrow in
      let same : k.made + 1 + more false ≡ k.made + more k.pending = omega arith in
      let small : (k.made + 1) % 2 ^ 64 ≡ k.made + 1 = mod-eq_of_lt (omega arith) in (
        w,
        keeps,
        tt,
        changed limit s k id v w at live live refl refl (slice_set s.words 3 ((slice_index s.words 3 + 1) % 2 ^ 64)) s.homes k.drawn k.served k.log (k.made + 1) false
            (ap (λ (ws : List ℕ). slice_set ws 3 ((slice_index ws 3 + 1) % 2 ^ 64)) k.words ∙ ap (λ (n : ℕ). (k.drawn % 2 ^ 64) ∷ (k.served % 2 ^ 64) ∷ (length k.log % 2 ^ 64) ∷ n ∷ []) small)
            (k.in_line id v at)
            (λ j u _ a. k.in_line j u a)
            (λ t le lt. inr (le, lt, λ h. h))
            (omega arith)
            (λ j u ne a o o'. (k.apart id j v u at a (λ z. ne (sym z))).1 o o')
            (home_set s.homes s.views k.start k.log id v w at (λ e. let n : resting ≡ serving = sym rest ∙ e in cc) (λ e. let n : resting ≡ serving = sym rest ∙ e in cc) k.home)
            (subst (λ (z : Stage). Fits k.start k.log limit (k.made + 1) false w z) (sym rest) record {
              origin = kn.origin;
              limited = kn.limited;
              seen = kn.seen;
              olds = kn.olds;
              mine = kn.mine;
              mine_seen = kn.mine_seen;
              part = kn.part;
              numbered = let n : v.number < k.made + more k.pending = kn.numbered in omega arith;
              first = λ _. (ap (λ (n : ℕ). n + 1) is.0, refl);
            })
            (λ j u ne a. fits_made k.start k.log limit k.made k.pending u u.stage (k.made + 1) false (omega arith)
            (λ l z. (k.apart id j v u at a (λ y. ne (sym y))).0 live l (first ∙ sym z))
            (k.fits j u a))
            (exists_set (HasSeen k.log) (HasSeen k.log) s.views id v w at (λ h. h) (λ _ _ _ _ h. h) k.longest)
            same
            (omega arith)
            k.callers,
        refl,
      )

  -- a look at the number of entries, of a view that is not spent
  pub bounds : (limit slots id : ℕ) (me : Me (Option A) View) → me.0.stage ≡ resting → Allows (Rule limit) slots id me 2 (λ n. n) (bounded origin history any me)
  bounds limit slots id me rest s k wide at _ =
      let v : View = me.0 in
      let kn = knows_at limit s k id v at (ap is_live rest) in
      let part = total_part held_of s.views id v at in
      let parts = k.parts in
      let limited : k.made + more k.pending ≤ limit = k.limited in
      let same : v.limit ≡ limit = kn.limited in
      let narrow : limit < 2 ^ 32 = k.narrow in (
        v,
        keeps,
        tt,
        unmoved limit s k id v at (slice_set s.words 2 (slice_index s.words 2)) (ap (λ (ws : List ℕ). slice_set ws 2 (slice_index ws 2)) k.words ∙ sym k.words),
        (refl, omega arith, omega arith, kn.mine_seen),
      )
