-- A fresh scan: what the files of the mailboxes that a root governs add up to.
use Rattle.std.specs.Prelude.{ℕ, if◌then◌else◌, List, length, sum_by}
use Rattle.quota_units.specs.declared.totals.Totals.{Totals}
use Rattle.quota_units.specs.Sums.{cut_totals}
use Rattle.quota_roots.specs.declared.root.RootSpec.{RootSpec}
use Rattle.quota_roots.specs.Governing.{governs_at}
use Rattle.keeper.specs.Files.{Row, listed}
use Rattle.keeper.specs.declared.rows.FileRow.{FileRow}
use Rattle.message_names.specs.Messages.{octets_of}

abbrev pub size_of_file : FileRow → ℕ
size_of_file file = octets_of file.name file.length

abbrev pub sizes_of : List FileRow → ℕ
sizes_of files = sum_by size_of_file files

-- the octets and the number of the files in the mailboxes that the root of this number governs
abbrev pub scanned_octets : List RootSpec → ℕ → List (List ℕ) → List Row → ℕ
scanned_octets roots root mailboxes rows = sum_by (λ mailbox.
    if governs_at roots root mailbox then sizes_of (listed mailbox rows) else 0) mailboxes

abbrev pub scanned_count : List RootSpec → ℕ → List (List ℕ) → List Row → ℕ
scanned_count roots root mailboxes rows = sum_by
    (λ mailbox. if governs_at roots root mailbox then length (listed mailbox rows) else 0) mailboxes

abbrev pub scan : List RootSpec → ℕ → List (List ℕ) → List Row → Totals
scan roots root mailboxes rows =
    cut_totals (scanned_octets roots root mailboxes rows) (scanned_count roots root mailboxes rows)
