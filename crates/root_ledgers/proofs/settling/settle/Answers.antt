use Rattle.std.proofs.Common.{◌∙◌, ℕ, arith, rules, nat_eq, length}
use Rattle.root_ledgers.specs.Scanning.{IsFresh, scan_at}
use Rattle.quota_roots.specs.RootSets.{has_root}
use Rattle.root_ledgers.specs.Settling.{kept_of}
use Rattle.root_ledgers.proofs.SettleLemmas.{settles_then, marks_then, only_one, settled_more, settled_stays, wanted_may, unwanted_settled, rows_still, left_more, scan_here, settled_here}
use Rattle.keeper.proofs.Spending.{spends_not, spends_then}
use Rattle.root_ledgers.proofs.settling.settle.Goals as goal
use Rattle.root_ledgers.proofs.settling.settle.Goals.{in-Some+in_ok-settle_by, in_default}

pub returns-in_err-settle_by-clause-files : goal.returns-in_err-settle_by-clause-files
returns-in_err-settle_by-clause-files g c =
    let roots = c.args.roots.now in
    let boxes = c.args.mailboxes.now in
    let limits = c.args.limits.now in
    let may = has_root c.args.set in
    let root = c.loop-root.root in
    let scanned = scan_here may (length roots) c.args.books.now.items c.in_ok-scans.scans.items root c.index.result.now (rw c.deref-2.ensures.value at c.in_ok-scans.ensures.scans) (omega (arith, c.count-root-end.ensures.value)) c.index.ensures in
    settles_then may (nat_eq root) (only_one may root (wanted_may (may root) _ _ c.in-Some.totals scanned c.in-Some.is).0) roots boxes limits
    c.args.books.now.items c.loop-root.books.items c.settle_by.new.books.items _ _ _ c.loop-root.invariant.files c.settle_by.ensures.files

pub loop-root-preserved : goal.loop-root-preserved
loop-root-preserved g c =
    let roots = c.args.roots.now in
    let boxes = c.args.mailboxes.now in
    let limits = c.args.limits.now in
    let may = has_root c.args.set in
    let root = c.loop-root.root in
    let scanned = scan_here may (length roots) c.args.books.now.items c.in_ok-scans.scans.items root c.index.result.now (rw c.deref-2.ensures.value at c.in_ok-scans.ensures.scans) (omega (arith, c.count-root-end.ensures.value)) c.index.ensures in
    let before = c.loop-root.invariant in
    elim c.match-index.branch [
      | in-Some+in_ok-settle_by w ↦
          let wider = only_one may root (wanted_may (may root) _ _ w.in-Some.totals scanned w.in-Some.is).0 in
          rw (w.keeper-is, w.books-is) (record {
            files = settles_then may (nat_eq root) wider roots boxes limits
                c.args.books.now.items c.loop-root.books.items w.settle_by.new.books.items _ _ _ before.files w.settle_by.ensures.files;
            fresh = rows_still (λ rows. (k : ℕ) → IsFresh roots k boxes (scan_at c.in_ok-scans.scans.items k) rows) (nat_eq root) roots boxes (kept_of limits c.loop-root.books.items) (kept_of limits w.settle_by.new.books.items)
                _ _ w.settle_by.ensures.files before.fresh;
            marks = marks_then may (nat_eq root) wider _ _ _ before.marks w.settle_by.ensures.marks;
            left = left_more root _ _ _ w.settle_by.ensures.marks before.left;
            small = w.settle_by.ensures.small;
            settled = settled_more may root _ _ before.settled w.settle_by.ensures.marks w.in_ok-settle_by.ensures.settled;
            faults = w.in_ok-settle_by.ensures.cause.kept (search rules) ∙ before.faults;
            appends = w.settle_by.ensures.appends ∙ before.appends;
            due = spends_then ⊥ ⊥ _ _ _ _ _ _ (omega (arith, before.faults, before.appends)) before.due (spends_not _ ⊥ _ _ _ _ (λ none. absurd none) w.settle_by.ensures.due);
          })
      | in_default w ↦ rw (w.keeper-is, w.books-is) (record {
        files = before.files;
        fresh = before.fresh;
        marks = before.marks;
        left = λ k behind. before.left k (omega (arith, behind));
        small = before.small;
        settled = settled_here may root _ before.settled (λ is. settled_stays _ _ _ (before.marks.each root) (unwanted_settled (may root) _ _ scanned w.in_default.is is));
        faults = before.faults;
        appends = before.appends;
        due = before.due;
      })
    ]

pub returns-clause-settled : goal.returns-clause-settled
returns-clause-settled g c = λ root inside is. c.loop-root.invariant.settled root (omega (arith, inside, c.count-root-end.ensures.value)) is
