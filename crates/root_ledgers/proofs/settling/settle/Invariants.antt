use Rattle.std.proofs.Common.{◌≡◌, ◌+◌, ◌<◌, ◌≤◌, ℕ, true}
use Rattle.std.specs.Prelude.{IfSome}
use Rattle.keeper.specs.Calls.{Changes, OnFiles, Spends}
use Rattle.root_ledgers.specs.declared.book.Standing.TheVariants.{Settled}
use Rattle.root_ledgers.specs.Scanning.{IsFresh, scan_at}
use Rattle.quota_roots.specs.RootSets.{has_root}
use Rattle.root_ledgers.specs.Settling.{AreSmallBooks, Settling, Marks, book_at, kept_of}
use Rattle.root_ledgers.proofs.settling.settle.Given as goal

abbrev pub invariant-loop-root : goal.invariant-loop-root
invariant-loop-root g l = record {
  files : Changes (OnFiles (Settling (has_root l.fn.set) l.roots l.mailboxes (kept_of l.limits l.fn.books.items) (kept_of l.limits l.books.items))) (g.K.Keeper.told l.fn.keeper) (g.K.Keeper.told l.keeper);
  fresh : IfSome (g.K.Keeper.told l.keeper) (λ t. (root : ℕ) → IsFresh l.roots root l.mailboxes (scan_at l.scans.items root) t.files.rows);
  marks : Marks (has_root l.fn.set) l.fn.books.items l.books.items;
  left : (root : ℕ) → l.root ≤ root → (book_at l.books.items root).standing ≡ (book_at l.fn.books.items root).standing;
  small : AreSmallBooks l.books.items;
  settled : (root : ℕ) → root < l.root → has_root l.fn.set root ≡ true → (book_at l.books.items root).standing ≡ Settled;
  faults : g.K.Keeper.faults l.keeper ≡ g.K.Keeper.faults l.fn.keeper;
  appends : g.K.Keeper.append_faults l.keeper ≡ g.K.Keeper.append_faults l.fn.keeper;
  due : Changes (Spends ⊥ (g.K.Keeper.faults l.fn.keeper + g.K.Keeper.append_faults l.fn.keeper) (g.K.Keeper.faults l.keeper + g.K.Keeper.append_faults l.keeper)) (g.K.Keeper.told l.fn.keeper) (g.K.Keeper.told l.keeper);
}
