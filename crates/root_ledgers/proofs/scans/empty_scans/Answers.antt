use Rattle.std.proofs.Common.{◌≡◌, ◌<◌, ℕ, Option, None, length, subst, arith}
use Rattle.std.proofs.lemmas.List.{get_or_default}
use Rattle.quota_units.specs.declared.totals.Totals.{Totals}
use Rattle.root_ledgers.specs.declared.book.Book.{Book}
use Rattle.root_ledgers.specs.Scanning.{IsScan, empty_scan, is_wanted}
use Rattle.quota_roots.specs.RootSets.{has_root}
use Rattle.root_ledgers.specs.Settling.{book_at, no_book}
use Rattle.root_ledgers.proofs.ScanningLemmas.{pushed_at, scans_more}
use Rattle.root_ledgers.proofs.scans.empty_scans.Goals as goal

pub loop-root-preserved : goal.loop-root-preserved
loop-root-preserved c =
    let may = has_root c.args.set in
    let before = c.loop-root.invariant in
    let n = c.loop-root.root in
    let wanted = λ (k : ℕ). is_wanted (may k) (book_at c.args.books.now k).standing in
    let inside : n < length c.args.books.now = omega (arith, c.requires, c.count-root-end.ensures.value) in
    let value = rw c.has-may.ensures.is at c.empty_scan.ensures.value in
    let scanned = rw c.has-may.ensures.is at c.empty_scan.ensures.scan in
    rw c.in_ok-push.ensures.items (record {
      scans = scans_more wanted n c.loop-root.scans.items c.empty_scan.result before.scans
          (subst (λ (b : Book). IsScan (is_wanted (may n) b.standing) c.empty_scan.result) (get_or_default c.args.books.now n _ no_book inside) scanned);
      empty = pushed_at (λ (k : ℕ) (x : Option Totals). x ≡ empty_scan (wanted k)) None c.loop-root.scans.items n c.empty_scan.result before.scans.count before.empty
          (subst (λ (b : Book). c.empty_scan.result ≡ empty_scan (is_wanted (may n) b.standing)) (get_or_default c.args.books.now n _ no_book inside) value);
    })
