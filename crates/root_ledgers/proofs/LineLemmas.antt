-- Lines and the room for them.
use Rattle.std.proofs.Common.{◌≡◌, ◌≢◌, ℕ, ◌+◌, ◌-◌, ◌≤◌, Bool, false, List, length, Option, Some, None, arith, ◌∙◌, ap, sym, subst, inl, inr, zero-add}
use Rattle.std.specs.Prelude.{IfSome}
use Rattle.std.proofs.lemmas.Bool.{le-ltb, cases_lt}
use Rattle.quota_units.specs.Limiting.{LimitNumbers}
use Rattle.keeper.specs.Files.{Files, ledger_at, ledger_bytes, bytes_of}
use Rattle.keeper.specs.Calls.{Told, Changes, OnFiles, OneLedger}
use Rattle.keeper.proofs.LedgerLemmas.{but_then}
use Rattle.admission.specs.Fitting.{limits_at}
use Rattle.root_ledgers.specs.declared.book.Book.{Book}
use Rattle.root_ledgers.specs.declared.book.Standing.{Standing}
use Rattle.root_ledgers.specs.declared.book.Standing.TheVariants.{Settled}
use Rattle.root_ledgers.specs.declared.change.Change.{Change}
use Rattle.root_ledgers.specs.Lines.{has_room, ChangedLedger, BookLined, LedgerLined, BooksLined, LedgersLined, HasCauses, fallen_at, fell_below}
use Rattle.root_ledgers.specs.Settling.{book_at}
use Rattle.root_ledgers.proofs.Sums.{one_more, same_below}

pub no_room : (long : ℕ) (line : List ℕ) → 5120 - long ≤ length line → has_room long line ≡ false
no_room long line far = le-ltb (long + length line) 5120 (omega arith)

pub lined_here : (root : ℕ) (o : Option Change) (change : Change) (octets : ℕ) (limits limits1 : LimitNumbers) (book book1 : Book) (standing standing1 : Standing) (told told' : Option Told)
    → o ≡ Some change → limits ≡ limits1 → book ≡ book1 → book1.standing ≡ Settled → standing ≡ standing1
    → Changes (OnFiles (λ files files'. OneLedger root files files' × ChangedLedger change octets limits1 book1 (ledger_at files root) standing1 (ledger_at files' root))) told told'
    → Changes (OnFiles (λ files files'. OneLedger root files files' × LedgerLined o octets limits book standing (ledger_at files root) (ledger_at files' root))) told told'
lined_here root o change octets limits limits1 book book1 standing standing1 told told' is l b settled s posted = rw (is, l, b, s, settled) posted

-- what was so many failures, and more of them, is as many as both
pub causes_then : (m n k a b c : ℕ) → k ≡ m + n → HasCauses m a b → HasCauses n b c → HasCauses k a c
causes_then m n k a b c sum s t = record {
  later = omega (arith, s.later, t.later);
  rose = omega (arith, s.rose, t.rose, s.later, t.later);
  kept = λ none. t.kept (omega arith) ∙ s.kept (omega arith);
}

module _ (changes : ℕ → Option Change) (octets : ℕ) (limits : List LimitNumbers) (n : ℕ) (a b c : List Book) (others : (other : ℕ) → other ≢ n → book_at c other ≡ book_at b other) where
  pub books_more : BooksLined n changes octets limits a b → length c ≡ length b → BookLined (changes n) octets (limits_at limits n) (book_at b n) (book_at c n) → BooksLined (n + 1) changes octets limits a c
  books_more before count line = record {
    count = count ∙ before.count;
    done = λ root below. elim (cases_lt root n) [
      | inl earlier ↦ subst (λ x. BookLined (changes root) octets (limits_at limits root) (book_at a root) x) (sym (others root (omega (arith, earlier)))) (before.done root earlier)
      | inr later ↦
          let e : root ≡ n = omega (arith, below, later) in
          rw e (subst (λ x. BookLined (changes n) octets (limits_at limits n) x (book_at c n)) (before.left n (omega arith)) line)
    ];
    left = λ root above. others root (omega (arith, above)) ∙ before.left root (omega (arith, above));
  }

  pub ledgers_more : (files files1 files2 : Files) → BooksLined n changes octets limits a b → LedgersLined n changes octets limits a b files files1
      → OneLedger n files1 files2 × LedgerLined (changes n) octets (limits_at limits n) (book_at b n) (book_at c n).standing (ledger_at files1 n) (ledger_at files2 n)
      → LedgersLined (n + 1) changes octets limits a c files files2
  ledgers_more files files1 files2 books before (one, line) = record {
    same = but_then files files1 files2 before.same one.same;
    done = λ root below. elim (cases_lt root n) [
      | inl earlier ↦
          subst (λ x. LedgerLined (changes root) octets (limits_at limits root) (book_at a root) x (ledger_at files root) (ledger_at files2 root)) (ap (λ (k : Book). k.standing) (sym (others root (omega (arith, earlier)))))
          (subst (λ x. LedgerLined (changes root) octets (limits_at limits root) (book_at a root) (book_at b root).standing (ledger_at files root) x) (sym (one.others root (omega (arith, earlier)))) (before.done root earlier))
      | inr later ↦
          let e : root ≡ n = omega (arith, below, later) in
          rw e (subst (λ x. LedgerLined (changes n) octets (limits_at limits n) x (book_at c n).standing (ledger_at files n) (ledger_at files2 n)) (books.left n (omega arith))
          (subst (λ x. LedgerLined (changes n) octets (limits_at limits n) (book_at b n) (book_at c n).standing x (ledger_at files2 n)) (before.left n (omega arith)) line))
    ];
    left = λ root above. one.others root (omega (arith, above)) ∙ before.left root (omega (arith, above));
  }

  pub fell_more : (room : Bool) → BooksLined n changes octets limits a b
      → fell_below (n + 1) room changes octets a c ≡ fell_below n room changes octets a b + fallen_at room (changes n) octets (book_at b n).standing (book_at b n).length (book_at c n).standing
  fell_more room books =
      one_more (λ root. fallen_at room (changes root) octets (book_at a root).standing (book_at a root).length (book_at c root).standing) n 0
      ∙ ap (λ x. x + fallen_at room (changes (0 + n)) octets (book_at a (0 + n)).standing (book_at a (0 + n)).length (book_at c (0 + n)).standing)
      (same_below (λ root. fallen_at room (changes root) octets (book_at a root).standing (book_at a root).length (book_at c root).standing)
      (λ root. fallen_at room (changes root) octets (book_at a root).standing (book_at a root).length (book_at b root).standing) n 0
      (λ i low high. ap (λ (k : Book). fallen_at room (changes i) octets (book_at a i).standing (book_at a i).length k.standing) (others i (omega (arith, high)))))
      ∙ ap (λ x. fell_below n room changes octets a b + fallen_at room (changes x) octets (book_at a x).standing (book_at a x).length (book_at c x).standing) (zero-add n)
      ∙ ap (λ (k : Book). fell_below n room changes octets a b + fallen_at room (changes n) octets k.standing k.length (book_at c n).standing) (sym (books.left n (omega arith)))

-- the length of a ledger that stays is still known
pub long_still : (n : ℕ) (changes : ℕ → Option Change) (octets : ℕ) (limits : List LimitNumbers) (a b : List Book) (told now : Option Told) → BooksLined n changes octets limits a b
    → Changes (OnFiles (LedgersLined n changes octets limits a b)) told now
    → ((book_at a n).standing ≡ Settled → IfSome told (λ (t : Told). length (ledger_bytes t.files n) ≡ (book_at a n).length))
    → (book_at b n).standing ≡ Settled → IfSome now (λ (t : Told). length (ledger_bytes t.files n) ≡ (book_at b n).length)
long_still n changes octets limits a b None None books lined long settled = tt
long_still n changes octets limits a b None (Some now) books lined long settled = absurd lined
long_still n changes octets limits a b (Some told) None books lined long settled = absurd lined
long_still n changes octets limits a b (Some told) (Some now) books lined long settled =
    let same = books.left n (omega arith) in
    ap (λ l. length (bytes_of l)) (lined.left n (omega arith)) ∙ long (ap (λ (k : Book). k.standing) (sym same) ∙ settled) ∙ ap (λ (k : Book). k.length) (sym same)
