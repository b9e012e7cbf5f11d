use Rattle.std.proofs.Common.{◌≡◌, ◌∙◌, ◌<◌, length, get_or, rules, [], arith}
use Rattle.std.proofs.lemmas.List.{get_or_read}
use Rattle.root_ledgers.proofs.ScanningLemmas.{files_listed, files_past, scans_kept}
use Rattle.keeper.proofs.Spending.{spends_not, spends_others, spends_then}
use Rattle.root_ledgers.proofs.scans.scan_each.Goals as goal
use Rattle.root_ledgers.proofs.scans.scan_each.Goals.{then-is_counted+in_ok-files, else-is_counted}

pub loop-mailbox-preserved : goal.loop-mailbox-preserved
loop-mailbox-preserved g c =
    let before = c.loop-mailbox.invariant in
    let roots = c.args.roots.now in
    let boxes = c.args.mailboxes.now in
    let n = c.loop-mailbox.mailbox-index in
    let inside : n < length boxes = search rules in
    let box = c.mailbox-item.result in
    let is : box ≡ get_or boxes n [] = get_or_read boxes n box inside c.mailbox-item.is [] in
    elim c.if-is_counted.branch [
      | then-is_counted+in_ok-files w ↦ rw (w.keeper-is, w.scans-is) (record {
        files = files_listed roots boxes n inside box is c.loop-mailbox.scans.items w.count_files.new.scans.items (length roots) (w.count_files.ensures.count ∙ before.scans.count) w.in_ok-files.files.items
            (rw (w.as_slice-then-is_counted-2.ensures.value, w.totals_of_files-totals.ensures.value, w.deref-then-is_counted.ensures.value) at w.count_files.ensures.counted)
            _ _ _ before.files (rw w.as_slice-then-is_counted.ensures.value at w.in_ok-files.ensures.files);
        scans = scans_kept (length roots) _ c.loop-mailbox.scans.items w.count_files.new.scans.items before.scans w.count_files.ensures.count w.count_files.ensures.same w.count_files.ensures.small;
        faults = w.in_ok-files.ensures.cause.kept (search rules) ∙ before.faults;
        appends = w.list.ensures.appends ∙ before.appends;
        due = spends_then ⊥ ⊥ _ _ _ _ _ _ (omega (arith, before.faults, before.appends)) before.due (spends_not _ ⊥ _ _ _ _ (λ none. absurd none) (spends_others _ _ _ _ _ _ _ w.list.ensures.due w.list.ensures.appends));
      })
      | else-is_counted w ↦ rw (w.keeper-is, w.scans-is) (record {
        files = files_past roots boxes n inside box is c.loop-mailbox.scans.items (rw (c.as_slice.ensures.value, c.deref.ensures.value) at (c.is_counted.ensures.none w.if-is_counted.false)) _ _ before.files;
        scans = before.scans;
        faults = before.faults;
        appends = before.appends;
        due = before.due;
      })
    ]
