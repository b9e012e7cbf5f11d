-- The rows and the totals of roots, by their limits and books.
use Rattle.std.specs.Prelude.{◌≡◌, ◌<◌, ℕ, List, map, Option, Some, None}
use Rattle.quota_units.specs.Limiting.{LimitNumbers}
use Rattle.quota_units.specs.declared.totals.Totals.{Totals}
use Rattle.quota_units.specs.declared.resource.Resource.{Resource}
use Rattle.quota_roots.specs.declared.root.RootSpec.{RootSpec}
use Rattle.quota_roots.specs.Governing.{governing}
use Rattle.admission.specs.Fitting.{limits_at}
use Rattle.admission.specs.declared.verdict.Verdict.{Verdict}
use Rattle.admission.specs.declared.verdict.Verdict.TheVariants.{Fits, Over}
use Rattle.account_core.specs.declared.calls.RootRow.{RootRow}
use Rattle.root_ledgers.specs.declared.book.Book.{Book}
use Rattle.root_ledgers.specs.Settling.{book_at}

abbrev pub kept_row : List LimitNumbers → List Book → ℕ → RootRow
kept_row limits books root = record {
  root = root;
  octets = (book_at books root).totals.octets;
  count = (book_at books root).totals.count;
  limits = limits_at limits root;
}

abbrev pub kept_rows : List RootSpec → List LimitNumbers → List Book → List ℕ → List RootRow
kept_rows roots limits books mailbox = map (kept_row limits books) (governing roots mailbox)

abbrev pub totals_of : List Book → List Totals
totals_of books = map (λ book. book.totals) books

-- the verdict on a message, by the first root that the message does not fit, if there is one
abbrev pub IsVerdict : Option (ℕ × Resource) → Verdict → Type 0
IsVerdict over Fits = over ≡ None
IsVerdict over (Over root resource) = over ≡ Some (root, resource)

-- if the verdict names a root, the root's number is below this one
abbrev pub IsInside : ℕ → Verdict → Type 0
IsInside count Fits = Unit {0}
IsInside count (Over root resource) = root < count
