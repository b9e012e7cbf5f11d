use Rattle.std.proofs.Common.{◌≡◌, ℕ, length}
use Rattle.root_ledgers.specs.declared.book.Standing.TheVariants.{Doubt}
use Rattle.root_ledgers.specs.Settling.{AreSmallBooks, book_at}
use Rattle.root_ledgers.proofs.root_ledgers.books_in_doubt.Given as goal

abbrev pub invariant-loop-root : goal.invariant-loop-root
invariant-loop-root l =
    (length l.books.items ≡ l._root) × ((root : ℕ) → (book_at l.books.items root).standing ≡ Doubt) × AreSmallBooks l.books.items
