-- The laws of a lock.
use Rattle.std.proofs.Common.{◌≡◌, ℕ, ◌+◌, ◌%◌, ◌^◌, ◌<◌, ◌≤◌, List, [], ◌∷◌, length, sym, ap, ◌∙◌, subst, ⊎_elim, arith, Option, Some}
use Rattle.std.specs.Prelude.{slice_index}
use mathlib.Core.Option as maybe
use mathlib.Core.Option.{some, none, some-injective, some-ne-none}
use mathlib.Core.Logic.{dite}
use native.Mathlib.Decide.{ℕ_discrete}
use Rattle.atomic_table.specs.Table.{State}
use Rattle.account_core.specs.declared.calls.Entry.{Entry}
use Rattle.account_core.specs.Histories.{Origin, Begins, EachBegins, calls_by}
use Rattle.account_lock.specs.Known.{View, serving}
use Rattle.account_lock.specs.Order.{out, tickets_of, held_of, more, InLine}
use Rattle.account_lock.specs.Laws.{OneTurn, TicketsInLine, HomeIsCounted}
use Rattle.account_lock.proofs.Seats.{total_below}
use Rattle.account_lock.proofs.Keeps.{in_line_between, no_other, out_held, knows_at}

module _ {A : Type 0} (origin : A → Origin) (history : A → List Entry) where
  abbrev St : Type 0
  St = State (Option A) View

  pub one_turn : OneTurn origin history
  one_turn limit s k i j v w at at' is is' =
      let line : InLine k.served k.drawn v.ticket serving = subst (InLine k.served k.drawn v.ticket) is (k.in_line i v at) in (
        dite (ℕ_discrete i j) (λ e. e) (λ ne. absurd (no_other origin history limit s k i v at (ap out is) line.0 j w (λ e. ne (sym e)) at' is')),
        ap (λ (ws : List ℕ). slice_index ws 1) k.words ∙ ap (λ (n : ℕ). n % 2 ^ 64) (sym line.0),
      )

  pub tickets_in_line : TicketsInLine origin history
  tickets_in_line limit s k =
      let a = total_below tickets_of held_of s.views (λ j u at. out_held k.start k.log limit k.made k.pending u u.stage (k.fits j u at)) in
      let b = k.tickets in
      let c = k.parts in
      let d : k.made + more k.pending ≤ limit = k.limited in (
        k.served,
        k.drawn,
        ap (λ (ws : List ℕ). slice_index ws 0) k.words,
        ap (λ (ws : List ℕ). slice_index ws 1) k.words,
        omega arith,
        omega arith,
        (λ t. (
          (λ between. k.lined t between.0 between.1),
          λ (i, v, at, (o, is)). subst (λ (n : ℕ). (k.served ≤ n) × (n < k.drawn)) is (in_line_between k.served k.drawn v.ticket v.stage (k.in_line i v at) o),
        )),
        λ t i j v w at at' h h'. dite (ℕ_discrete i j) (λ e. e) (λ ne. absurd ((k.apart i j v w at at' ne).1 h.0 h'.0 (h.1 ∙ sym h'.1))),
      )

  -- the one value at home
  same_home : (x y : A) → ◌≡◌ {A = List (maybe.Option (Option A))} (some (Some x) ∷ []) (some (Some y) ∷ []) → x ≡ y
  same_home x y e = cc

  pub home_is_counted : HomeIsCounted origin history
  home_is_counted limit s k x is = ⊎_elim
      (λ (y, is', begun, whole, _).
      let same : x ≡ y = same_home x y (sym is ∙ is') in
      let whole' : history x ≡ k.log = ap history same ∙ whole in (
        ap (λ (ws : List ℕ). slice_index ws 2) k.words ∙ ap (λ (l : List Entry). length l % 2 ^ 64) (sym whole'),
        λ i v at live. let kn = knows_at origin history limit s k i v at live in (
          kn.origin ∙ sym (ap origin same ∙ begun),
          subst (Begins v.seen) (sym whole') kn.seen,
          subst (EachBegins v.olds) (sym whole') kn.olds,
          ap (calls_by v.number) whole' ∙ kn.mine,
        ),
      ))
      (λ (is', _). absurd (let e : ◌≡◌ {A = List (maybe.Option (Option A))} (some (Some x) ∷ []) (none ∷ []) = sym is ∙ is' in cc))
      k.home
