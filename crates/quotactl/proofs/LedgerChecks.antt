-- What `check` writes, as a function of its input.
use Rattle.std.proofs.Common.{◌≡◌, ◌≤◌, ◌⊎◌, ℕ, List, [], ◌++◌, length, take, Option, Some, None, IfSome, sym, ap, ◌∙◌, subst, inl, inr, append-nil}
use Rattle.std.specs.Io.KnownBytes.{Appends}
use Rattle.std.proofs.lemmas.List.{take_at, take_all}
use Rattle.quotactl.specs.Outcome.{IsUnbroken}
use Rattle.quotactl.specs.Checking.{max_checked, Reports, TakesLedger, ChecksLedger, reported, cut_short, unread}

prefix_is : (input rest bytes : List ℕ) (most : ℕ) → input ≡ bytes ++ rest → length bytes ≤ most → (length bytes ≡ most) ⊎ (rest ≡ []) → take most input ≡ bytes
prefix_is input rest bytes most e le (inl full) = ap (take most) e ∙ take_at bytes rest most full
prefix_is input rest bytes most e le (inr none) = ap (take most) (e ∙ ap (λ l. bytes ++ l) none ∙ append-nil bytes) ∙ take_all most bytes le

-- all that was taken is what is checked
taken_is : (input : List ℕ) (left' : Option (List ℕ)) (bytes : List ℕ) → TakesLedger (Some input) left' bytes → take max_checked input ≡ bytes
taken_is input None bytes t = absurd t.consumed
taken_is input (Some rest) bytes t = prefix_is input rest bytes max_checked t.consumed t.bounded t.whole

pub check_output : (left left' written written' : Option (List ℕ)) (status : ℕ) (R W : Type 0) → ChecksLedger left left' written written' status → (status ≡ 4 → R) → (status ≡ 5 → W)
    → IfSome left (λ input. IsUnbroken R W status → (text : List ℕ) × Reports (take max_checked input) text status × Appends written written' text)
check_output None left' written written' status R W c read write = tt
check_output (Some input) left' written written' status R W (reported bytes text takes tells appended) read write =
    λ unbroken. (text, subst (λ l. Reports l text status) (sym (taken_is input left' bytes takes)) tells, appended)
check_output (Some input) left' written written' status R W (cut_short bytes text due takes tells part is) read write = λ unbroken. absurd (unbroken.writes (write is))
check_output (Some input) left' written written' status R W (unread taken keeps (inl is)) read write = λ unbroken. absurd (unbroken.reads (read is))
check_output (Some input) left' written written' status R W (unread taken keeps (inr is)) read write = λ unbroken. absurd (unbroken.memory is)
