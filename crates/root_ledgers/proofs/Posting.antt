-- What is kept of a root stays right with a line.
use Rattle.std.proofs.Common.{◌≡◌, ℕ, zero, suc, ◌+◌, ◌<◌, ◌^◌, Bool, true, false, cond, List, [], ◌∷◌, ◌++◌, length, map, codes, Option, Some, None, ℤ, pos, refl, sym, ap, ◌∙◌, subst, arith}
use Rattle.std.specs.Prelude.{◌+ℤ◌, neg_ℤ, unsigned_abs}
use Rattle.std.proofs.Math.IntN.{+ℤ-neg_ℤ_cancel}
use Rattle.std.specs.List.{flat_map}
use Rattle.std.proofs.lemmas.List.Sums.{fold-append}
use Rattle.std.proofs.lemmas.List.{append_assoc, append-nil, length-append, map-append}
use Rattle.std.proofs.lemmas.Bool.{ltb-true}
use Rattle.std.proofs.lemmas.Grind.{flat_map-append}
use Rattle.quota_units.specs.Limiting.{LimitNumbers}
use Rattle.quota_units.specs.declared.totals.Totals.{Totals}
use Rattle.keeper.specs.Files.{bytes_of}
use Rattle.maildirsize.specs.Sums.{Pair, sum_of, total_of}
use Rattle.maildirsize.specs.Written.{written_ledger, written_line, written_definition, IsSmall}
use Rattle.quota_units.proofs.SumLemmas.{same_totals}
use Rattle.root_ledgers.specs.declared.book.Book.{Book}
use Rattle.root_ledgers.specs.declared.book.Standing.TheVariants.{Settled}
use Rattle.root_ledgers.specs.declared.change.Change.{Change}
use Rattle.root_ledgers.specs.declared.change.Change.TheVariants.{Comes, Goes}
use Rattle.root_ledgers.specs.Ledgers.{pair_of, folded, AreSmallPairs, AreWritten, IsRight}
use Rattle.root_ledgers.specs.Lines.{pair_by, line_by, totals_by, has_room, LineLedger, changed_book, ChangedLedger, FoldsShort}
use Rattle.root_ledgers.specs.Settling.{IsKept}
use Rattle.root_ledgers.proofs.Kept.{right_folded}

-- how a usage changes
abbrev pub UsageBy : Option Change → ℕ → Totals → Totals → Type 0
UsageBy None octets usage usage' = usage' ≡ usage
UsageBy (Some Comes) octets usage usage' = (usage'.octets ≡ usage.octets + octets) × (usage'.count ≡ usage.count + 1)
UsageBy (Some Goes) octets usage usage' = (usage.octets ≡ usage'.octets + octets) × (usage.count ≡ usage'.count + 1)

same_pair : {a b c d : ℤ} → a ≡ c → b ≡ d → (let x : Pair = record { octets = a; count = b } in x) ≡ record { octets = c; count = d }
same_pair e f = rw (e, f) refl

-- no total is cut
pub totals_are : (change : Change) (octets : ℕ) (usage usage' : Totals) → UsageBy (Some change) octets usage usage' → usage'.octets < 2 ^ 62 → usage'.count < 2 ^ 62 → totals_by change octets usage ≡ usage'
totals_are Comes octets usage usage' (o, k) small few = same_totals (omega arith) (omega arith)
totals_are Goes octets usage usage' (o, k) small few = same_totals (omega arith) (omega arith)

total_more : (xs : List ℤ) (x : ℤ) → total_of (xs ++ x ∷ []) ≡ total_of xs +ℤ x
total_more xs x = fold-append ◌+ℤ◌ (pos 0) xs (x ∷ [])

sum_more : (pairs : List Pair) (pair : Pair) → sum_of (pairs ++ pair ∷ []) ≡ record { octets = (sum_of pairs).octets +ℤ pair.octets; count = (sum_of pairs).count +ℤ pair.count }
sum_more pairs pair =
    same_pair (ap total_of (map-append (λ (p : Pair). p.octets) pairs (pair ∷ [])) ∙ total_more (map (λ (p : Pair). p.octets) pairs) pair.octets)
    (ap total_of (map-append (λ (p : Pair). p.count) pairs (pair ∷ [])) ∙ total_more (map (λ (p : Pair). p.count) pairs) pair.count)

-- the sum with the line's pair is the new usage
sums_by : (change : Change) (octets : ℕ) (usage usage' : Totals) → UsageBy (Some change) octets usage usage' → (pairs : List Pair) → sum_of pairs ≡ pair_of usage
    → sum_of (pairs ++ pair_by change octets ∷ []) ≡ pair_of usage'
sums_by Comes octets usage usage' (o, k) pairs sum =
    sum_more pairs (pair_by Comes octets)
    ∙ same_pair (ap (λ (p : Pair). p.octets +ℤ pos octets) sum ∙ ap pos (sym o)) (ap (λ (p : Pair). p.count +ℤ pos 1) sum ∙ ap pos (sym k))
sums_by Goes octets usage usage' (o, k) pairs sum =
    sum_more pairs (pair_by Goes octets)
    ∙ same_pair (ap (λ (p : Pair). p.octets +ℤ neg_ℤ (pos octets)) sum ∙ ap (λ n. pos n +ℤ neg_ℤ (pos octets)) o ∙ +ℤ-neg_ℤ_cancel (pos usage'.octets) (pos octets))
    (ap (λ (p : Pair). p.count +ℤ neg_ℤ (pos 1)) sum ∙ ap (λ n. pos n +ℤ neg_ℤ (pos 1)) k ∙ +ℤ-neg_ℤ_cancel (pos usage'.count) (pos 1))

abs_neg : (n : ℕ) → unsigned_abs (neg_ℤ (pos n)) ≡ n
abs_neg zero = refl
abs_neg (suc n) = omega arith

small_by : (change : Change) (octets : ℕ) → octets < 1000000000000000000 → IsSmall (pair_by change octets)
small_by Comes octets small = record { octets = small; count = omega arith }
small_by Goes octets small = record { octets = subst (λ n. n < 1000000000000000000) (sym (abs_neg octets)) small; count = omega arith }

small_more : (pairs : List Pair) (pair : Pair) → AreSmallPairs pairs → IsSmall pair → AreSmallPairs (pairs ++ pair ∷ [])
small_more [] pair small one = (one, tt)
small_more (first ∷ pairs) pair small one = (small.0, small_more pairs pair small.1 one)

written_more : (pairs : List Pair) (pair : Pair) → AreWritten pairs → IsSmall pair → AreWritten (pairs ++ pair ∷ [])
written_more [] pair written one = absurd written
written_more (first ∷ pairs) pair written one = (written.0, small_more pairs pair written.1 one)

text_more : (limits : LimitNumbers) (pairs : List Pair) (pair : Pair) → written_ledger limits pairs ++ written_line pair ≡ written_ledger limits (pairs ++ pair ∷ [])
text_more limits pairs pair =
    append_assoc (written_definition limits) (codes "\n" ++ flat_map written_line pairs) (written_line pair)
    ∙ ap (λ b. written_definition limits ++ (10 ∷ b)) (ap (λ b. flat_map written_line pairs ++ b) (sym (append-nil (written_line pair))) ∙ sym (flat_map-append written_line pairs (pair ∷ [])))

-- a ledger with its line is right
right_appended : (change : Change) (octets : ℕ) (limits : LimitNumbers) (usage usage' : Totals) (ledger ledger' : Option (List ℕ)) → octets < 1000000000000000000 → UsageBy (Some change) octets usage usage'
    → IsRight limits usage ledger → has_room (length (bytes_of ledger)) (line_by change octets) ≡ true → ledger' ≡ Some (bytes_of ledger ++ line_by change octets) → IsRight limits usage' ledger'
right_appended change octets limits usage usage' ledger ledger' small moved right room appended =
    let bytes : bytes_of ledger ≡ written_ledger limits right.pairs = ap bytes_of right.text in
    let text : bytes_of ledger ++ line_by change octets ≡ written_ledger limits (right.pairs ++ pair_by change octets ∷ []) = ap (λ b. b ++ line_by change octets) bytes ∙ text_more limits right.pairs (pair_by change octets) in
    record {
      pairs = right.pairs ++ pair_by change octets ∷ [];
      text = appended ∙ ap Some text;
      short = subst (λ n. n < 5120) (sym (length-append (bytes_of ledger) (line_by change octets)) ∙ ap length text) (ltb-true (length (bytes_of ledger) + length (line_by change octets)) 5120 room);
      numbers = written_more right.pairs (pair_by change octets) right.numbers (small_by change octets small);
      sums = sums_by change octets usage usage' moved right.pairs right.sums;
    }

-- what is kept of a root with its line
pub kept_lined : (change : Change) (octets : ℕ) (limits : LimitNumbers) (usage usage' : Totals) (ledger ledger' : Option (List ℕ)) (book book' : Book) → octets < 1000000000000000000
    → UsageBy (Some change) octets usage usage' → usage'.octets < 2 ^ 62 → usage'.count < 2 ^ 62 → IsKept limits usage ledger (bytes_of ledger) book
    → book' ≡ changed_book change octets limits book Settled → FoldsShort change octets limits book → ChangedLedger change octets limits book ledger Settled ledger' → IsKept limits usage' ledger' (bytes_of ledger') book'
kept_lined change octets limits usage usage' ledger ledger' book book' small moved most few kept book_is short line =
    by (has_room book.length (line_by change octets)) refl line short book_is
  where
    totals : totals_by change octets book.totals ≡ usage'
    totals = ap (totals_by change octets) kept.totals ∙ totals_are change octets usage usage' moved most few

    by : (room : Bool) → has_room book.length (line_by change octets) ≡ room
        → LineLedger room (line_by change octets) (folded limits (totals_by change octets book.totals)) ledger Settled ledger'
        → (room ≡ false → length (folded limits (totals_by change octets book.totals)) < 5120)
        → book' ≡ record { totals = totals_by change octets book.totals; standing = Settled; length = cond room (book.length + length (line_by change octets)) (length (folded limits (totals_by change octets book.totals))) }
        → IsKept limits usage' ledger' (bytes_of ledger') book'
    by true room line short is = record {
      totals = ap (λ (b : Book). b.totals) is ∙ totals;
      right = right_appended change octets limits usage usage' ledger ledger' small moved kept.right (ap (λ n. has_room n (line_by change octets)) (sym kept.long) ∙ room) line;
      long = ap (λ (b : Book). b.length) is ∙ ap (λ n. n + length (line_by change octets)) kept.long ∙ sym (length-append (bytes_of ledger) (line_by change octets)) ∙ ap (λ l. length (bytes_of l)) (sym line);
    }
    by false room line short is = record {
      totals = ap (λ (b : Book). b.totals) is ∙ totals;
      right = right_folded limits usage' ledger' (omega arith) (omega arith) (line ∙ ap (λ u. Some (folded limits u)) totals) (subst (λ u. length (folded limits u) < 5120) totals (short refl));
      long = ap (λ (b : Book). b.length) is ∙ ap (λ l. length (bytes_of l)) (sym line);
    }
