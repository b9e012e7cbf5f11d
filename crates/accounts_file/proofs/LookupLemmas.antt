-- Accounts that are told apart by their names and tokens.
use Rattle.std.proofs.Common.{◌≡◌, ℕ, zero, suc, ◌+◌, ◌<◌, Bool, true, false, not, ◌&&◌, ◌||◌, cond, List, [], ◌∷◌, length, map, ltb, lt-ltb, ltb-true, bytes_eq, nat_eq, None, Some, position, slice_get, arith, refl, ◌∙◌, sym, ap, inl, inr}
use Rattle.std.specs.List.{list_any, position_or_len}
use Rattle.std.proofs.lemmas.Bool.{and_parts, cases_Bool}
use Rattle.std.proofs.lemmas.Bool.Decides.{nat_tests}
use Rattle.std.proofs.lemmas.Slice.Eq.{bytes_eq-Decides}
use Rattle.quota_roots.specs.Setups.{are_different}
use Rattle.accounts_file.specs.declared.entry.AccountEntry.{AccountEntry}
use Rattle.accounts_file.specs.Hosts.{AreAccounts, HaveDifferentLogins, is_secret_of}

or_later : (b c : Bool) → c ≡ true → (b || c) ≡ true
or_later true c h = refl
or_later false c h = h

found_is : (b : Bool) (n at : ℕ) → cond b (Some n) None ≡ Some at → (b ≡ true) × (n ≡ at)
found_is true n at h = (refl, cc)
found_is false n at h = absurd (cc)

same : (bytes : List ℕ) → bytes_eq bytes bytes ≡ true
same bytes = (bytes_eq-Decides bytes bytes).1 refl

module _ (key : AccountEntry → List ℕ) where
  -- the key of an account stands among the keys
  among : (accounts : List AccountEntry) (at : ℕ) (entry : AccountEntry) → slice_get accounts at ≡ Some entry → list_any (λ other. bytes_eq other (key entry)) (map key accounts) ≡ true
  among [] at entry read = absurd (cc)
  among (first ∷ accounts) zero entry read =
      let is : entry ≡ first = cc in
      let here : bytes_eq (key first) (key entry) ≡ true = ap (λ (e : AccountEntry). bytes_eq (key first) (key e)) is ∙ same (key first) in
      ap (λ b. b || list_any (λ other. bytes_eq other (key entry)) (map key accounts)) here
  among (first ∷ accounts) (suc at) entry read = or_later (bytes_eq (key first) (key entry)) _ (among accounts at entry read)

  module _ (p : AccountEntry → Bool) (name : List ℕ) (keyed : (e : AccountEntry) → p e ≡ true → key e ≡ name) where
    -- another account of the key is not there
    other : (first : AccountEntry) (accounts : List AccountEntry) (at : ℕ) (entry : AccountEntry) → not (list_any (λ o. bytes_eq o (key first)) (map key accounts)) ≡ true
        → slice_get accounts at ≡ Some entry → p entry ≡ true → p first ≡ false
    other first accounts at entry apart read here = elim (cases_Bool (p first)) [
      | inl passes ↦
          let alike : key entry ≡ key first = keyed entry here ∙ sym (keyed first passes) in
          let seen : list_any (λ o. bytes_eq o (key first)) (map key accounts) ≡ true =
          ap (λ (k : List ℕ). list_any (λ o. bytes_eq o k) (map key accounts)) (sym alike) ∙ among accounts at entry read in
          absurd (cc (ap not seen, apart))
      | inr fails ↦ fails
    ]

    only : (accounts : List AccountEntry) (at : ℕ) (entry : AccountEntry) → are_different (map key accounts) ≡ true → slice_get accounts at ≡ Some entry → p entry ≡ true
        → position p accounts ≡ Some at
    only [] at entry apart read here = absurd (cc)
    only (first ∷ accounts) zero entry apart read here =
        let is : first ≡ entry = cc in
        let first_is : p first ≡ true = ap p is ∙ here in
        let inside : ltb 0 (suc (length accounts)) ≡ true = lt-ltb 0 (suc (length accounts)) (omega arith) in
        rw (first_is, inside) refl
    only (first ∷ accounts) (suc at) entry apart read here =
        let (alone, rest) = and_parts (not (list_any (λ o. bytes_eq o (key first)) (map key accounts))) (are_different (map key accounts)) apart in
        let n = position_or_len p accounts in
        let found = found_is (ltb n (length accounts)) n at (only accounts at entry rest read here) in
        let short : n < length accounts = ltb-true n (length accounts) found.0 in
        let inside : ltb (1 + n) (suc (length accounts)) ≡ true = lt-ltb (1 + n) (suc (length accounts)) (omega arith) in
        let place : 1 + n ≡ suc at = omega (arith, found.1) in
        rw (other first accounts at entry alone read here, inside) (ap Some place)

kept_secret : (kept : List ℕ) → 0 < length kept → is_secret_of kept kept ≡ true
kept_secret [] some = absurd (omega arith)
kept_secret (byte ∷ kept) some = rw (same (byte ∷ kept)) (grind (arith, nat_tests))

secret_is : (kept given : List ℕ) → is_secret_of kept given ≡ true → kept ≡ given
secret_is kept given h = (bytes_eq-Decides kept given).0 (and_parts (not (nat_eq (length kept) 0)) (bytes_eq kept given) h).1

-- the accounts of a table are told apart
pub different_logins : (accounts : List AccountEntry) → AreAccounts accounts → HaveDifferentLogins accounts
different_logins accounts are =
    record {
      by_name = λ at entry read.
          only (λ e. e.name) (λ e. bytes_eq e.name entry.name) entry.name (λ e is. (bytes_eq-Decides e.name entry.name).0 is) accounts at entry are.different.names read (same entry.name);
      by_password = λ at entry read some.
          only (λ e. e.name) (λ e. bytes_eq e.name entry.name && is_secret_of e.password entry.password) entry.name
          (λ e is. (bytes_eq-Decides e.name entry.name).0 (and_parts (bytes_eq e.name entry.name) (is_secret_of e.password entry.password) is).0) accounts at entry are.different.names read
          (rw (same entry.name, kept_secret entry.password some) refl);
      by_token = λ at entry read some.
          only (λ e. e.token) (λ e. is_secret_of e.token entry.token) entry.token (λ e is. secret_is e.token entry.token is) accounts at entry are.different.tokens read (kept_secret entry.token some);
    }
