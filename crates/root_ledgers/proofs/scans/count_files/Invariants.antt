use Rattle.std.proofs.Common.{◌≡◌, ◌<◌, ◌≤◌, ℕ, length}
use Rattle.std.specs.Prelude.{is_some, IfSome}
use Rattle.quota_roots.specs.Governing.{governs_at}
use Rattle.quota_units.specs.Sums.{AreSmall}
use Rattle.root_ledgers.specs.Scanning.{with_files, scan_at}
use Rattle.root_ledgers.proofs.scans.count_files.Given as goal

abbrev pub invariant-loop-root : goal.invariant-loop-root
invariant-loop-root l = record {
  count : length l.scans.items ≡ length l.initial.scans.items;
  counted : (root : ℕ) → root < l.root → scan_at l.scans.items root ≡ with_files (governs_at l.roots root l.mailbox) l.files (scan_at l.initial.scans.items root);
  left : (root : ℕ) → l.root ≤ root → scan_at l.scans.items root ≡ scan_at l.initial.scans.items root;
  small : (root : ℕ) → IfSome (scan_at l.scans.items root) AreSmall;
  same : (root : ℕ) → is_some (scan_at l.scans.items root) ≡ is_some (scan_at l.initial.scans.items root);
}
