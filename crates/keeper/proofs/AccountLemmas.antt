-- Keepers that are taken out and put back by their place.
use Rattle.std.proofs.Common.{◌≡◌, ℕ, ◌+◌, ◌<◌, Bool, true, false, not, cond, List, [], ◌∷◌, length, get_or, set, ltb, Option, Some, None, arith, refl, ◌∙◌, sym, ap, suc, position, bytes_eq}
use Rattle.std.specs.List.{position_or_len}
use Rattle.std.proofs.lemmas.List.{set_past, get_or_past, get_or_default}
use Rattle.keeper.specs.Accounts.{keeper_in, with_keeper}
use Rattle.quota_units.proofs.PlaceLemmas.{place_is, no_place}

module _ {K : Type 0} where
  abbrev place : List ℕ → List (List ℕ × Option K) → ℕ
  place name accounts = position_or_len (λ account. bytes_eq account.0 name) accounts

  with_step : (kept : Option K) (b : Bool) (x d : List ℕ × Option K) (xs rest : List (List ℕ × Option K)) (k : ℕ) → rest ≡ set xs k ((get_or xs k d).0, kept)
      → cond b ((x.0, kept) ∷ xs) (x ∷ rest) ≡ set (x ∷ xs) (cond (not b) (1 + k) 0) ((get_or (x ∷ xs) (cond (not b) (1 + k) 0) d).0, kept)
  with_step kept true x d xs rest k h = refl
  with_step kept false x d xs rest k h = let e : 1 + k ≡ suc k = omega arith in rw e (ap (λ (r : List (List ℕ × Option K)). x ∷ r) h)

  with_by_place : (name : List ℕ) (kept : Option K) (d : List ℕ × Option K) (accounts : List (List ℕ × Option K))
      → with_keeper name kept accounts ≡ set accounts (place name accounts) ((get_or accounts (place name accounts) d).0, kept)
  with_by_place name kept d [] = refl
  with_by_place name kept d (account ∷ accounts) =
      with_step kept (bytes_eq account.0 name) account d accounts (with_keeper name kept accounts) (place name accounts) (with_by_place name kept d accounts)

  in_step : (b : Bool) (x d : List ℕ × Option K) (xs : List (List ℕ × Option K)) (rest : Option K) (k : ℕ) → rest ≡ (get_or xs k d).1
      → cond b x.1 rest ≡ (get_or (x ∷ xs) (cond (not b) (1 + k) 0) d).1
  in_step true x d xs rest k h = refl
  in_step false x d xs rest k h = let e : 1 + k ≡ suc k = omega arith in rw e h

  in_by_place : (name : List ℕ) (accounts : List (List ℕ × Option K)) → keeper_in name accounts ≡ (get_or accounts (place name accounts) ([], None)).1
  in_by_place name [] = refl
  in_by_place name (account ∷ accounts) =
      in_step (bytes_eq account.0 name) account ([], None) accounts (keeper_in name accounts) (place name accounts) (in_by_place name accounts)

  is_place : (name : List ℕ) (accounts : List (List ℕ × Option K)) (at : ℕ) → Some at ≡ position (λ (account : List ℕ × Option K). bytes_eq account.0 name) accounts → at ≡ place name accounts
  is_place name accounts at found = place_is (ltb (place name accounts) (length accounts)) (place name accounts) at found

  pub with_at : (name : List ℕ) (kept : Option K) (accounts : List (List ℕ × Option K)) (at : ℕ) (account : List ℕ × Option K)
      → Some at ≡ position (λ (a : List ℕ × Option K). bytes_eq a.0 name) accounts → account ≡ get_or accounts at account
      → set accounts at (account.0, kept) ≡ with_keeper name kept accounts
  with_at name kept accounts at account found read =
      ap (λ (a : List ℕ × Option K). set accounts at (a.0, kept)) read ∙ ap (λ k. set accounts k ((get_or accounts k account).0, kept)) (is_place name accounts at found)
      ∙ sym (with_by_place name kept account accounts)

  pub in_at : (name : List ℕ) (accounts : List (List ℕ × Option K)) (at : ℕ) (account : List ℕ × Option K)
      → Some at ≡ position (λ (a : List ℕ × Option K). bytes_eq a.0 name) accounts → at < length accounts → account ≡ get_or accounts at account
      → account.1 ≡ keeper_in name accounts
  in_at name accounts at account found within read =
      ap (λ (a : List ℕ × Option K). a.1) (read ∙ get_or_default accounts at account ([], None) within)
      ∙ ap (λ k. (get_or accounts k ([], None)).1) (is_place name accounts at found) ∙ sym (in_by_place name accounts)

  pub with_nowhere : (name : List ℕ) (kept : Option K) (accounts : List (List ℕ × Option K)) → None ≡ position (λ (a : List ℕ × Option K). bytes_eq a.0 name) accounts
      → accounts ≡ with_keeper name kept accounts
  with_nowhere name kept accounts nowhere =
      let past = no_place (place name accounts) (length accounts) nowhere in
      sym (with_by_place name kept ([], None) accounts ∙ set_past accounts _ _ past)

  pub in_nowhere : (name : List ℕ) (accounts : List (List ℕ × Option K)) → None ≡ position (λ (a : List ℕ × Option K). bytes_eq a.0 name) accounts → None ≡ keeper_in name accounts
  in_nowhere name accounts nowhere =
      let past = no_place (place name accounts) (length accounts) nowhere in
      sym (in_by_place name accounts ∙ ap (λ (a : List ℕ × Option K). a.1) (get_or_past accounts _ _ past))

  without_step : (b : Bool) (x : List ℕ × Option K) (xs rest : List (List ℕ × Option K)) (later : Option K) → (later ≡ None → rest ≡ xs) → cond b x.1 later ≡ None
      → cond b ((x.0, None) ∷ xs) (x ∷ rest) ≡ x ∷ xs
  without_step true x xs rest later same none = ap (λ kept. (x.0, kept) ∷ xs) (sym none)
  without_step false x xs rest later same none = ap (λ (r : List (List ℕ × Option K)). x ∷ r) (same none)

  -- what is open stays so
  pub without_none : (name : List ℕ) (accounts : List (List ℕ × Option K)) → keeper_in name accounts ≡ None → with_keeper name None accounts ≡ accounts
  without_none name [] none = refl
  without_none name (account ∷ accounts) none =
      without_step (bytes_eq account.0 name) account accounts (with_keeper name None accounts) (keeper_in name accounts) (without_none name accounts) none
