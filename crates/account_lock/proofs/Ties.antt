-- The numbers that a pass stores, and its own entries, while its view changes.
use Rattle.std.proofs.Common.{◌≡◌, ℕ, List, [], ◌∷◌, ◌++◌, sym, ap, ◌∙◌, subst}
use Rattle.account_core.specs.declared.calls.Entry.{Entry}
use Rattle.account_core.proofs.Histories.{calls_by_own}
use Rattle.account_lock.specs.Known.{View}
use Rattle.account_lock.specs.Views.{with_entry}
use Rattle.account_lock.specs.Ties.{IsTied, own_seen}

pub tied_along : (v w : View) (number held made : ℕ) → v ≡ w → IsTied w number held made → IsTied v number held made
tied_along v w number held made e tied = subst (λ (z : View). IsTied z number held made) (sym e) tied

pub own_along : (v w : View) → v ≡ w → own_seen w ≡ w.mine → own_seen v ≡ v.mine
own_along v w e own = subst (λ (z : View). own_seen z ≡ z.mine) (sym e) own

pub own_entry : (v : View) (e : Entry) → e.caller ≡ v.number → own_seen v ≡ v.mine → own_seen (with_entry v e) ≡ v.mine ++ e ∷ []
own_entry v e is own = calls_by_own v.number v.seen e is ∙ ap (λ (l : List Entry). l ++ e ∷ []) own
