-- One pass of each lock, while one of the passes changes.
use Rattle.std.proofs.Common.{◌≡◌, ◌≢◌, ◌<◌, ◌≤◌, ◌+◌, ℕ, zero, suc, List, [], ◌∷◌, ◌++◌, length, map, set, get_or, slice_get, Option, Some, None, refl, sym, ap, ◌∙◌, subst, arith, length-set, ltb, Bool, true, false}
use mathlib.Core.Logic.{dite}
use native.Mathlib.Decide.{ℕ_discrete}
use Rattle.std.specs.List.{All, AllZip}
use Rattle.std.proofs.lemmas.List.{length-map}
use Rattle.std.proofs.lemmas.List.Elements.{All-map}
use Rattle.std.proofs.lemmas.Slice.Zip.{AllZip-long}
use Rattle.account_core.specs.declared.calls.Entry.{Entry}
use Rattle.account_lock.specs.Known.{View}
use Rattle.account_lock.specs.Views.{longer, joined, having_made, newcomer}
use Rattle.account_lock.specs.Passes.{view, IsOf, origin_of}
use Rattle.account_lock.specs.declared.pass.Pass.{Pass}
use Rattle.account_lock.specs.declared.lock.Lock.{Lock}
use Rattle.desk.specs.Shares.{IsWithinJournal, AreWithinJournals}
use Rattle.account_host.specs.Sets.{views, joined_each, AreFirst, AreLater}
use Rattle.account_host.specs.Seating.{AreSeated, IsWithin, share_of, pass_share}
use Rattle.account_host.proofs.Zips.{zipped, zip_at, zip_none}
use Rattle.account_host.proofs.Places.{all_at, all_unmap}

set_here : (ps : List Pass) (k : ℕ) (p q : Pass) → slice_get (set ps k p) k ≡ Some q → p ≡ q
set_here [] k p q at = absurd cc
set_here (x ∷ ps) zero p q at = cc
set_here (x ∷ ps) (suc k) p q at = set_here ps k p q at

set_there : (ps : List Pass) (i k : ℕ) (p q : Pass) → k ≢ i → slice_get (set ps i p) k ≡ Some q → slice_get ps k ≡ Some q
set_there [] i k p q other at = at
set_there (x ∷ ps) zero zero p q other at = absurd (other refl)
set_there (x ∷ ps) zero (suc k) p q other at = at
set_there (x ∷ ps) (suc i) zero p q other at = at
set_there (x ∷ ps) (suc i) (suc k) p q other at = set_there ps i k p q (λ e. other (ap suc e)) at

module _ {A : Type 0} where
  pub seated_of : (locks : List (Lock A)) (passes : List Pass) → AllZip IsOf locks passes → AreSeated locks passes
  seated_of locks passes all = record {
    count = AllZip-long IsOf locks passes all;
    each = λ k lock pass at at'. zip_at IsOf locks passes k lock pass all at at';
  }

  pub zipped_of : (locks : List (Lock A)) (passes : List Pass) → AreSeated locks passes → AllZip IsOf locks passes
  zipped_of locks passes seated = zipped IsOf locks passes seated.count seated.each

  pub none_seated : (locks : List (Lock A)) (passes : List Pass) → locks ≡ [] → AllZip IsOf locks passes → passes ≡ []
  none_seated locks passes none all = zip_none (IsOf {A = A}) passes (subst (λ (l : List (Lock A)). AllZip IsOf l passes) none all)

  -- one pass changed, and is still of its lock
  pub seated_set : (locks : List (Lock A)) (passes : List Pass) (i : ℕ) (pass : Pass) → AreSeated locks passes
      → ((lock : Lock A) → slice_get locks i ≡ Some lock → IsOf lock pass) → AreSeated locks (set passes i pass)
  seated_set locks passes i pass seated still = record {
    count = length-set passes i pass ∙ seated.count;
    each = λ k lock q at at'. dite (ℕ_discrete k i)
        (λ same. subst (IsOf lock) (set_here passes k pass q (subst (λ (n : ℕ). slice_get (set passes n pass) k ≡ Some q) (sym same) at')) (still lock (subst (λ (n : ℕ). slice_get locks n ≡ Some lock) same at)))
        (λ other. seated.each k lock q at (set_there passes i k pass q other at'));
  }

-- no share has more entries than its journal takes
pub shares_within : (passes : List Pass) → All IsWithin (views passes) → AreWithinJournals (map pass_share passes)
shares_within passes within = All-map IsWithinJournal pass_share passes (all_unmap view IsWithin passes within)

pub longer_within : (xs ys : List Entry) (n : ℕ) → length xs ≤ n → length ys ≤ n → length (longer xs ys) ≤ n
longer_within xs ys n a b = by (ltb (length xs) (length ys)) refl
  where
    by : (t : Bool) → ltb (length xs) (length ys) ≡ t → length (longer xs ys) ≤ n
    by true e = rw e b
    by false e = rw e a

-- two passes of one lock, of which each is within the journal
pub joined_within : {A : Type 0} (lock : Lock A) (p q : Pass) → IsOf lock p → IsOf lock q → IsWithin (view p) → IsWithin (view q) → IsWithin (joined (view p) (view q))
joined_within lock p q of_p of_q a b =
    let e : (view p).origin ≡ origin_of lock = of_p.6 in
    let f : (view q).origin ≡ origin_of lock = of_q.6 in
    longer_within (view p).seen (view q).seen (view p).origin.journal a
    (subst (λ o. length (view q).seen ≤ o.journal) (f ∙ sym e) b)
