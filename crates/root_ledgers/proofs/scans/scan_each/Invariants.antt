use Rattle.std.proofs.Common.{◌≡◌, ◌+◌, length, take}
use Rattle.keeper.specs.Calls.{Changes, Spends}
use Rattle.root_ledgers.specs.Scanning.{AreScans, ScansList, is_wanted}
use Rattle.quota_roots.specs.RootSets.{has_root}
use Rattle.root_ledgers.specs.Settling.{book_at}
use Rattle.root_ledgers.proofs.scans.scan_each.Given as goal

abbrev pub invariant-loop-mailbox : goal.invariant-loop-mailbox
invariant-loop-mailbox g l = record {
  files : Changes (ScansList l.roots (take l.mailbox-index l.mailboxes) l.scans.items) (g.K.Keeper.told l.initial.keeper) (g.K.Keeper.told l.keeper);
  scans : AreScans (length l.roots) (λ root. is_wanted (has_root l.fn.set root) (book_at l.books root).standing) l.scans.items;
  faults : g.K.Keeper.faults l.keeper ≡ g.K.Keeper.faults l.initial.keeper;
  appends : g.K.Keeper.append_faults l.keeper ≡ g.K.Keeper.append_faults l.initial.keeper;
  due : Changes (Spends ⊥ (g.K.Keeper.faults l.initial.keeper + g.K.Keeper.append_faults l.initial.keeper) (g.K.Keeper.faults l.keeper + g.K.Keeper.append_faults l.keeper)) (g.K.Keeper.told l.initial.keeper) (g.K.Keeper.told l.keeper);
}
