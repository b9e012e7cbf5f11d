use Rattle.std.proofs.Common.{◌≡◌, ◌<◌, ℕ, true, false}
use Rattle.std.specs.Prelude.{is_some}
use Rattle.quota_roots.specs.Governing.{governs_at}
use Rattle.root_ledgers.specs.Scanning.{scan_at}
use Rattle.root_ledgers.proofs.scans.is_counted.Given as goal

abbrev pub invariant-loop-root : goal.invariant-loop-root
invariant-loop-root l = (root : ℕ) → root < l.root → is_some (scan_at l.scans root) ≡ true → governs_at l.roots root l.mailbox ≡ false
