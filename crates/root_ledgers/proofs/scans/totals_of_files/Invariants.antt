use Rattle.std.proofs.Common.{◌≡◌, take}
use Rattle.quota_units.specs.Sums.{AreSmall, cut_totals}
use Rattle.root_ledgers.specs.Scans.{sizes_of}
use Rattle.root_ledgers.proofs.scans.totals_of_files.Given as goal

abbrev pub invariant-loop-file : goal.invariant-loop-file
invariant-loop-file l = (l.totals ≡ cut_totals (sizes_of (take l.file-index l.files)) l.file-index) × AreSmall l.totals
