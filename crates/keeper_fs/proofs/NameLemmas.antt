-- A byte that was looked for.
use Rattle.std.proofs.Common.{◌≡◌, ℕ, List, Bool, true, false, None, Some, ap, ◌∙◌, arith}
use Rattle.std.specs.List.{list_any}
use Rattle.std.proofs.lemmas.Bool.{false_from_ne_true}
use Rattle.std.proofs.lemmas.List.{get_or_default}
use Rattle.std.proofs.lemmas.List.Folds.{list_any_at, list_any_none}
use Rattle.memchr.specs.Find.{IsFirstByte}

pub found : (test : ℕ → Bool) (bytes : List ℕ) (at : ℕ) → IsFirstByte test bytes (Some at) → list_any test bytes ≡ true
found test bytes at first = list_any_at test bytes at 0 first.0.high first.1

pub missed : (test : ℕ → Bool) (bytes : List ℕ) → IsFirstByte test bytes None → list_any test bytes ≡ false
missed test bytes nowhere = list_any_none test bytes
    (λ k d within. ap test (get_or_default bytes k d 0 within) ∙ false_from_ne_true _ (nowhere k (omega arith) within))
