use Rattle.std.proofs.Common.{◌≡◌, ◌<◌, ℕ, true}
use Rattle.quota_roots.specs.RootSets.{has_root}
use Rattle.root_ledgers.specs.declared.book.Standing.TheVariants.{Settled}
use Rattle.root_ledgers.specs.Settling.{book_at}
use Rattle.root_ledgers.proofs.settling.has_doubt.Given as goal

abbrev pub invariant-loop-root : goal.invariant-loop-root
invariant-loop-root l = (root : ℕ) → root < l.root → has_root l.set root ≡ true → (book_at l.books root).standing ≡ Settled
