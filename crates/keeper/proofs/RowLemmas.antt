-- Rows that are removed and renamed by their place, and the files of a mailbox.
use Rattle.std.proofs.Common.{◌≡◌, ℕ, ◌+◌, ◌≤◌, Bool, true, false, not, cond, List, [], ◌∷◌, ◌++◌, length, drop, get_or, set, ltb, Some, None, arith, refl, ◌∙◌, sym, ap, suc, position}
use Rattle.std.proofs.lemmas.List.{take_all, append-nil, set_past}
use Rattle.std.proofs.Math.ListN.{drop_of_length-le}
use Rattle.std.specs.List.{position_or_len, remove}
use Rattle.quota_units.proofs.PlaceLemmas.{place_is, no_place}
use Rattle.keeper.specs.Files.{Row, is_named, removed, renamed}

removed_step : (b : Bool) (x : Row) (xs rest : List Row) (k : ℕ) → rest ≡ remove xs k → cond b xs (x ∷ rest) ≡ remove (x ∷ xs) (cond (not b) (1 + k) 0)
removed_step true x xs rest k h = refl
removed_step false x xs rest k h = let e : 1 + k ≡ suc k = omega arith in rw e (ap (λ (r : List Row). x ∷ r) h)

removed_by_place : (mailbox name : List ℕ) (rows : List Row) → removed mailbox name rows ≡ remove rows (position_or_len (is_named mailbox name) rows)
removed_by_place mailbox name [] = refl
removed_by_place mailbox name (row ∷ rows) =
    removed_step (is_named mailbox name row) row rows (removed mailbox name rows) (position_or_len (is_named mailbox name) rows) (removed_by_place mailbox name rows)

pub removed_at : (mailbox name : List ℕ) (rows : List Row) (at : ℕ) → Some at ≡ position (is_named mailbox name) rows → remove rows at ≡ removed mailbox name rows
removed_at mailbox name rows at found =
    ap (remove rows) (place_is (ltb (position_or_len (is_named mailbox name) rows) (length rows)) (position_or_len (is_named mailbox name) rows) at found)
    ∙ sym (removed_by_place mailbox name rows)

removed_past : (rows : List Row) (n : ℕ) → length rows ≤ n → remove rows n ≡ rows
removed_past rows n past = let further : length rows ≤ suc n = omega arith in ap (λ (prefix : List Row). prefix ++ drop (suc n) rows) (take_all n rows past) ∙ ap (λ (back : List Row). rows ++ back) (drop_of_length-le rows further) ∙ append-nil rows

pub removed_nowhere : (mailbox name : List ℕ) (rows : List Row) → None ≡ position (is_named mailbox name) rows → rows ≡ removed mailbox name rows
removed_nowhere mailbox name rows nowhere =
    sym (removed_past rows (position_or_len (is_named mailbox name) rows) (no_place (position_or_len (is_named mailbox name) rows) (length rows) nowhere))
    ∙ sym (removed_by_place mailbox name rows)

abbrev named : List ℕ → List ℕ → Row → Row
named to new_name row = record row { mailbox = to; name = new_name }

renamed_step : (to new_name : List ℕ) (b : Bool) (x d : Row) (xs rest : List Row) (k : ℕ) → rest ≡ set xs k (named to new_name (get_or xs k d))
    → cond b (named to new_name x ∷ xs) (x ∷ rest) ≡ set (x ∷ xs) (cond (not b) (1 + k) 0) (named to new_name (get_or (x ∷ xs) (cond (not b) (1 + k) 0) d))
renamed_step to new_name true x d xs rest k h = refl
renamed_step to new_name false x d xs rest k h = let e : 1 + k ≡ suc k = omega arith in rw e (ap (λ (r : List Row). x ∷ r) h)

renamed_by_place : (from name to new_name : List ℕ) (d : Row) (rows : List Row)
    → renamed from name to new_name rows ≡ set rows (position_or_len (is_named from name) rows) (named to new_name (get_or rows (position_or_len (is_named from name) rows) d))
renamed_by_place from name to new_name d [] = refl
renamed_by_place from name to new_name d (row ∷ rows) =
    renamed_step to new_name (is_named from name row) row d rows (renamed from name to new_name rows) (position_or_len (is_named from name) rows)
    (renamed_by_place from name to new_name d rows)

pub renamed_at : (from name to new_name : List ℕ) (rows : List Row) (at : ℕ) (row : Row) → Some at ≡ position (is_named from name) rows → row ≡ get_or rows at row
    → set rows at (record row { mailbox = to; name = new_name }) ≡ renamed from name to new_name rows
renamed_at from name to new_name rows at row found read =
    let place = place_is (ltb (position_or_len (is_named from name) rows) (length rows)) (position_or_len (is_named from name) rows) at found in
    ap (λ (r : Row). set rows at (named to new_name r)) read ∙ ap (λ k. set rows k (named to new_name (get_or rows k row))) place
    ∙ sym (renamed_by_place from name to new_name row rows)

pub renamed_nowhere : (from name to new_name : List ℕ) (rows : List Row) → None ≡ position (is_named from name) rows → rows ≡ renamed from name to new_name rows
renamed_nowhere from name to new_name [] nowhere = refl
renamed_nowhere from name to new_name (row ∷ rows) nowhere =
    let past = no_place (position_or_len (is_named from name) (row ∷ rows)) (length (row ∷ rows)) nowhere in
    sym (renamed_by_place from name to new_name row (row ∷ rows) ∙ set_past (row ∷ rows) _ _ past)
