-- What is kept of a root whose ledger is folded.
use Rattle.std.proofs.Common.{◌≡◌, ℕ, ◌+◌, ◌<◌, ◌^◌, List, [], ◌∷◌, length, Option, Some, refl, sym, ap, ◌∙◌, subst, zero-add, pos}
use Rattle.quota_units.specs.Limiting.{LimitNumbers}
use Rattle.quota_units.specs.declared.totals.Totals.{Totals}
use Rattle.keeper.specs.Files.{bytes_of}
use Rattle.maildirsize.specs.Sums.{Pair, sum_of}
use Rattle.root_ledgers.specs.declared.book.Book.{Book}
use Rattle.root_ledgers.specs.Ledgers.{pair_of, folded, IsRight}
use Rattle.root_ledgers.specs.Settling.{IsKept, folded_book}

sum_of_one : (totals : Totals) → sum_of (pair_of totals ∷ []) ≡ pair_of totals
sum_of_one totals =
    ap (λ n. let x : Pair = record { octets = pos n; count = pos (0 + totals.count) } in x) (zero-add totals.octets)
    ∙ ap (λ n. let x : Pair = record { octets = pos totals.octets; count = pos n } in x) (zero-add totals.count)

-- a folded ledger is right
pub right_folded : (limits : LimitNumbers) (usage : Totals) (ledger : Option (List ℕ)) → usage.octets < 2 ^ 63 → usage.count < 2 ^ 63 → ledger ≡ Some (folded limits usage)
    → length (folded limits usage) < 5120 → IsRight limits usage ledger
right_folded limits usage ledger octets count text short = record {
  pairs = pair_of usage ∷ [];
  text = text;
  short = short;
  numbers = ((usage, octets, count, refl), tt);
  sums = sum_of_one usage;
}

pub kept_folded : (limits : LimitNumbers) (usage scanned : Totals) (ledger : Option (List ℕ)) (book : Book) → scanned ≡ usage → scanned.octets < 2 ^ 63 → scanned.count < 2 ^ 63
    → book ≡ folded_book limits scanned → ledger ≡ Some (folded limits scanned) → length (folded limits scanned) < 5120 → IsKept limits usage ledger (bytes_of ledger) book
kept_folded limits usage scanned ledger book same octets count book_is text short = record {
  totals = ap (λ (b : Book). b.totals) book_is ∙ same;
  right = subst (λ u. IsRight limits u ledger) same (right_folded limits scanned ledger octets count text short);
  long = ap (λ (b : Book). b.length) book_is ∙ ap (λ l. length (bytes_of l)) (sym text);
}
