-- The roots that replies name are there.
use Rattle.std.proofs.Common.{◌≡◌, ◌↔◌, ℕ, ◌<◌, List, length, Some, refl}
use Rattle.std.specs.List.{All}
use Rattle.std.proofs.lemmas.List.Elements.{All-map}
use Rattle.quota_units.specs.Limiting.{LimitNumbers}
use Rattle.quota_units.specs.declared.resource.Resource.{Resource}
use Rattle.quota_units.specs.declared.totals.Totals.{Totals}
use Rattle.quota_roots.specs.declared.root.RootSpec.{RootSpec}
use Rattle.quota_roots.specs.Governing.{governing}
use Rattle.quota_roots.proofs.GoverningLemmas.{all_below}
use Rattle.admission.specs.Fitting.{first_over}
use Rattle.admission.specs.declared.verdict.Verdict.{Verdict}
use Rattle.admission.specs.declared.verdict.Verdict.TheVariants.{Fits, Over}
use Rattle.account_core.proofs.Forming.{over_below}
use Rattle.account_core.specs.declared.calls.RootRow.{RootRow}
use Rattle.root_ledgers.specs.declared.book.Book.{Book}
use Rattle.account_ledger.specs.Rows.{IsInside, kept_row, kept_rows}

pub verdict_inside : (limits : List LimitNumbers) (totals : List Totals) (numbers : List ℕ) (octets n : ℕ) → All (λ root. root < n) numbers → (verdict : Verdict)
    → ((root : ℕ) (resource : Resource) → (verdict ≡ Over root resource) ↔ (first_over limits totals numbers octets ≡ Some (root, resource))) → IsInside n verdict
verdict_inside limits totals numbers octets n below Fits is = tt
verdict_inside limits totals numbers octets n below (Over root resource) is = over_below limits totals numbers octets n below (root, resource) ((is root resource).0 refl)

pub kept_inside : (roots : List RootSpec) (limits : List LimitNumbers) (books : List Book) (mailbox : List ℕ) → All (λ (row : RootRow). row.root < length roots) (kept_rows roots limits books mailbox)
kept_inside roots limits books mailbox =
    All-map (λ (row : RootRow). row.root < length roots) (kept_row limits books) (governing roots mailbox) (all_below roots mailbox (length roots))
