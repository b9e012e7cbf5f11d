use Rattle.std.proofs.Common.{◌≡◌, ◌<◌, ℕ}
use Rattle.root_ledgers.specs.Scanning.{AreScans, empty_scan, is_wanted, scan_at}
use Rattle.quota_roots.specs.RootSets.{has_root}
use Rattle.root_ledgers.specs.Settling.{book_at}
use Rattle.root_ledgers.proofs.scans.empty_scans.Given as goal

abbrev pub invariant-loop-root : goal.invariant-loop-root
invariant-loop-root l = record {
  scans : AreScans l.root (λ root. is_wanted (has_root l.set root) (book_at l.books root).standing) l.scans.items;
  empty : (root : ℕ) → root < l.root → scan_at l.scans.items root ≡ empty_scan (is_wanted (has_root l.set root) (book_at l.books root).standing);
}
