-- Bytes that one call appends after another.
use Rattle.std.proofs.Common.{◌≡◌, ℕ, List, ◌++◌, Result, Ok, Err, OnOk, ap, ◌∙◌, append_assoc}

pub appended_twice : {T E : Type 0} (result : Result T E) (old middle new first second : List ℕ) → middle ≡ old ++ first
    → OnOk result (new ≡ middle ++ second) → OnOk result (new ≡ old ++ (first ++ second))
appended_twice (Ok x) old middle new first second is next = next ∙ ap (λ l. l ++ second) is ∙ append_assoc old first second
appended_twice (Err e) old middle new first second is next = tt
