-- The sum lines of a ledger, one after the other.
use Rattle.std.proofs.Common.{◌≡◌, ℕ, ◌+◌, ◌-◌, ◌*◌, ◌<◌, ◌≤◌, ℤ, pos, ◌+ℤ◌, unsigned_abs, to_z, of_z, w64, FitsSigned, List, [], ◌∷◌, ◌++◌, Bool, true, false, cond, ◌||◌, length, map, Option, Some, None, is_some, refl, ap, ◌∙◌, sym, ⊎_elim, arith, nat_lt, length-append}
use Rattle.std.proofs.Math.Numerals.{one-add}
use Rattle.std.specs.List.{onto_first, list_all, list_any, after_first, prefix_len, cons_option}
use Rattle.std.specs.Option.{option_map, option_or}
use Rattle.std.proofs.lemmas.Bool.{cases_Bool, cond-true, cond-false, and_from, and_parts, or_parts, lt-ltb, le-ltb, false≢true}
use Rattle.std.proofs.lemmas.Option.{some_pair_parts}
use Rattle.std.proofs.lemmas.Int.{ints, to_z-of_z, fits_signed_from_abs}
use mir.Syntax.{w128}
use Rattle.std.proofs.lemmas.List.{append_assoc, append-nil, map-append, nil_from_length}
use Rattle.std.proofs.lemmas.List.Folds.{list_all-append}
use Rattle.std.proofs.lemmas.List.Elements.{filter_map-append}
use Rattle.std.proofs.lemmas.List.Sums.{fold-append}
use Rattle.maildirsize.specs.declared.ledger_text.LedgerFault.TheVariants.{BadLine, Torn}
use Rattle.maildirsize.specs.Lines.{is_line_feed, parts_of, all_but_last, last_of, lines_in, rest_in, first_line}
use Rattle.maildirsize.specs.Sums.{Pair, total_of}
use Rattle.maildirsize.specs.SumLine.{pair_in, is_sum_line, pairs_in, sum_line_at}
use Rattle.maildirsize.specs.Reading.{line_fault, rest_fault, summary}
use Rattle.maildirsize.specs.declared.ledger_text.LedgerText.{LedgerText}
use Rattle.quota_units.specs.Limiting.{LimitNumbers}
use Rattle.quota_units.proofs.CutLemmas.{after-cons}
use Rattle.maildirsize.proofs.SplitLemmas.{line_more, line_over, split_yes, split_no}

-- a text is its first line, and what stands behind the line feed where there is one
or_true : (b c : Bool) → b ≡ true → (b || c) ≡ true
or_true b c h = ap (λ x. x || c) h

or_false : (b c : Bool) → b ≡ false → (b || c) ≡ c
or_false b c h = ap (λ x. x || c) h

pub parts_first : (bs : List ℕ)
    → parts_of bs ≡ first_line bs ∷ cond (list_any is_line_feed bs) (parts_of (after_first is_line_feed bs)) []
parts_first [] = refl
parts_first (x ∷ xs) = ⊎_elim
    (λ (h : is_line_feed x ≡ true).
    let any = or_true (is_line_feed x) (list_any is_line_feed xs) h in
    let rest = after-cons is_line_feed x xs ∙ cond-true (is_line_feed x) xs (after_first is_line_feed xs) h in
    split_yes is_line_feed x xs h ∙ sym
    (ap (λ l. l ∷ cond (list_any is_line_feed (x ∷ xs)) (parts_of (after_first is_line_feed (x ∷ xs))) []) (line_over x xs h)
    ∙ ap (λ b. [] ∷ cond b (parts_of (after_first is_line_feed (x ∷ xs))) []) any ∙ ap (λ r. [] ∷ parts_of r) rest))
    (λ (h : is_line_feed x ≡ false).
    let any = or_false (is_line_feed x) (list_any is_line_feed xs) h in
    let rest = after-cons is_line_feed x xs ∙ cond-false (is_line_feed x) xs (after_first is_line_feed xs) h in
    split_no is_line_feed x xs h ∙ ap (onto_first x) (parts_first xs)
    ∙ sym (ap (λ l. l ∷ cond (list_any is_line_feed (x ∷ xs)) (parts_of (after_first is_line_feed (x ∷ xs))) []) (line_more x xs h)
    ∙ ap (λ b. (x ∷ first_line xs) ∷ cond b (parts_of (after_first is_line_feed (x ∷ xs))) []) any
    ∙ ap (λ r. (x ∷ first_line xs) ∷ cond (list_any is_line_feed xs) (parts_of r) []) rest))
    (cases_Bool (is_line_feed x))

pub parts_ended : (bs : List ℕ) → list_any is_line_feed bs ≡ true
    → parts_of bs ≡ first_line bs ∷ parts_of (after_first is_line_feed bs)
parts_ended bs h = parts_first bs ∙ ap (λ b. first_line bs ∷ cond b (parts_of (after_first is_line_feed bs)) []) h

line_whole : (bs : List ℕ) → list_any is_line_feed bs ≡ false → first_line bs ≡ bs
line_whole [] h = refl
line_whole (x ∷ xs) h = let p = or_parts (is_line_feed x) (list_any is_line_feed xs) h in line_more x xs p.0
    ∙ ap (λ ys. x ∷ ys) (line_whole xs p.1)

pub parts_torn : (bs : List ℕ) → list_any is_line_feed bs ≡ false → parts_of bs ≡ bs ∷ []
parts_torn bs h = parts_first bs ∙ ap (λ b. first_line bs ∷ cond b (parts_of (after_first is_line_feed bs)) []) h
    ∙ ap (λ l. l ∷ []) (line_whole bs h)

-- how long the first line is
pub line_length : (bs : List ℕ) → list_any is_line_feed bs ≡ true
    → length (first_line bs) + 1 + length (after_first is_line_feed bs) ≡ length bs
line_length [] h = absurd (false≢true h)
line_length (x ∷ xs) h = ⊎_elim
    (λ (k : is_line_feed x ≡ true).
    let line = ap length (line_over x xs k) in
    let rest = ap length (after-cons is_line_feed x xs ∙ cond-true (is_line_feed x) xs (after_first is_line_feed xs) k) in
    omega (arith, line, rest))
    (λ (k : is_line_feed x ≡ false).
    let line = ap length (line_more x xs k) in
    let rest = ap length (after-cons is_line_feed x xs ∙ cond-false (is_line_feed x) xs (after_first is_line_feed xs) k) in
    let more = line_length xs (sym (or_false (is_line_feed x) (list_any is_line_feed xs) k) ∙ h) in
    omega (arith, line, rest, more))
    (cases_Bool (is_line_feed x))

-- what stands at the end of a list of parts
pub all_but_last_append : (xs : List (List ℕ)) (p : List ℕ) (ps : List (List ℕ))
    → all_but_last (xs ++ p ∷ ps) ≡ xs ++ all_but_last (p ∷ ps)
all_but_last_append [] p ps = refl
all_but_last_append (x ∷ []) p ps = refl
all_but_last_append (x ∷ y ∷ ys) p ps = ap (λ zs. x ∷ zs) (all_but_last_append (y ∷ ys) p ps)

pub last_of_append : (xs : List (List ℕ)) (p : List ℕ) (ps : List (List ℕ)) → last_of (xs ++ p ∷ ps) ≡ last_of (p ∷ ps)
last_of_append [] p ps = refl
last_of_append (x ∷ []) p ps = refl
last_of_append (x ∷ y ∷ ys) p ps = last_of_append (y ∷ ys) p ps

-- lines that are sum lines, and then one that is not
lines_right : (done : List (List ℕ)) → list_all is_sum_line done ≡ true → prefix_len is_sum_line done ≡ length done
lines_right [] r = refl
lines_right (t ∷ done) r =
    let p = and_parts (is_sum_line t) (list_all is_sum_line done) r in
    cond-true (is_sum_line t) (1 + prefix_len is_sum_line done) 0 p.0 ∙ ap (λ n. 1 + n) (lines_right done p.1)
    ∙ one-add (length done)

lines_wrong : (done : List (List ℕ)) (line : List ℕ) (others : List (List ℕ)) → list_all is_sum_line done ≡ true
    → is_sum_line line ≡ false
    → prefix_len is_sum_line (done ++ line ∷ others) ≡ length done
lines_wrong [] line others r h = cond-false (is_sum_line line) (1 + prefix_len is_sum_line others) 0 h
lines_wrong (t ∷ done) line others r h =
    let p = and_parts (is_sum_line t) (list_all is_sum_line done) r in
    cond-true (is_sum_line t) (1 + prefix_len is_sum_line (done ++ line ∷ others)) 0 p.0
    ∙ ap (λ n. 1 + n) (lines_wrong done line others p.1 h) ∙ one-add (length done)

pub no_bad_line : (done : List (List ℕ)) → list_all is_sum_line done ≡ true → line_fault done ≡ None
no_bad_line done r =
    ap (λ n. cond (nat_lt n (length done)) (Some (BadLine (n + 2))) None) (lines_right done r)
    ∙ cond-false (nat_lt (length done) (length done)) (Some (BadLine (length done + 2))) None
    (le-ltb (length done) (length done) (omega arith))

bad_line_at : (done : List (List ℕ)) (line : List ℕ) (others : List (List ℕ)) → list_all is_sum_line done ≡ true
    → is_sum_line line ≡ false
    → line_fault (done ++ line ∷ others) ≡ Some (BadLine (length done + 2))
bad_line_at done line others r h =
    let all = done ++ line ∷ others in
    let lengths = length-append done (line ∷ others) in
    let within : length done < length all = omega (arith, lengths) in
    ap (λ n. cond (nat_lt n (length all)) (Some (BadLine (n + 2))) None) (lines_wrong done line others r h)
    ∙ cond-true (nat_lt (length done) (length all)) (Some (BadLine (length done + 2))) None
    (lt-ltb (length done) (length all) within)

torn_at : (len : ℕ) (rest : List ℕ) → 0 < length rest → rest_fault len rest ≡ Some (Torn (len - length rest))
torn_at len rest h = cond-true (nat_lt 0 (length rest)) (Some (Torn (len - length rest))) None (lt-ltb 0 (length rest) h)

-- the lines up to a place are sum lines, so many, and add up to this
pub record SummedTo (bytes rest : List ℕ) (lines : ℕ) (octets count : ℤ) : Type 0 where
  pub done : List (List ℕ)
  pub parts : parts_of bytes ≡ done ++ parts_of rest
  pub right : list_all is_sum_line done ≡ true
  pub lines_are : lines ≡ length done
  pub pairs : length (pairs_in done) ≡ length done
  pub octets_are : octets ≡ total_of (map (λ (p : Pair). p.octets) (pairs_in done))
  pub count_is : count ≡ total_of (map (λ (p : Pair). p.count) (pairs_in done))

-- what a line at the start says
line_taken : (ended : Bool) (after : List ℕ) (o : Option Pair) (pair : Pair) (next : List ℕ)
    → ◌≡◌ {A = Option (Pair × List ℕ)} (cond ended (option_map (λ p. (p, after)) o) None) (Some (pair, next))
    → (ended ≡ true) × ((o ≡ Some pair) × (after ≡ next))
line_taken true after None pair next h = cc
line_taken true after (Some p) pair next h = let q = some_pair_parts p pair after next h in (refl, (ap Some q.0, q.1))
line_taken false after o pair next h = cc

line_refused : (ended : Bool) (after : List ℕ) (o : Option Pair)
    → ◌≡◌ {A = Option (Pair × List ℕ)} (cond ended (option_map (λ p. (p, after)) o) None) None → ended ≡ true → o ≡ None
line_refused true after None h e = refl
line_refused true after (Some p) h e = cc
line_refused false after o h e = cc

pairs_push : (done : List (List ℕ)) (line : List ℕ) (pair : Pair) → pair_in line ≡ Some pair
    → pairs_in (done ++ line ∷ []) ≡ pairs_in done ++ pair ∷ []
pairs_push done line pair h = filter_map-append pair_in done (line ∷ []) ∙ ap (λ o. pairs_in done ++ cons_option o []) h

total_push : (f : Pair → ℤ) (pairs : List Pair) (pair : Pair)
    → total_of (map f (pairs ++ pair ∷ [])) ≡ total_of (map f pairs) +ℤ f pair
total_push f pairs pair = ap total_of (map-append f pairs (pair ∷ [])) ∙ fold-append ◌+ℤ◌ (pos 0) (map f pairs) (f pair ∷ [])

module _ (bytes rest : List ℕ) (lines : ℕ) (octets count : ℤ) (read : SummedTo bytes rest lines octets count) where
  pub sum_more : (pair : Pair) (next : List ℕ) → sum_line_at rest ≡ Some (pair, next)
      → SummedTo bytes next (lines + 1) (octets +ℤ pair.octets) (count +ℤ pair.count)
  sum_more pair next h =
      let line = first_line rest in
      let t = line_taken (list_any is_line_feed rest) (after_first is_line_feed rest) (pair_in line) pair next h in
      let pushed = pairs_push read.done line pair t.1.0 in
      let lengths = length-append read.done (line ∷ []) in
      let pair_lengths = ap length pushed ∙ length-append (pairs_in read.done) (pair ∷ []) in
      record {
        done = read.done ++ line ∷ [];
        parts = read.parts ∙ ap (λ ps. read.done ++ ps) (parts_ended rest t.0 ∙ ap (λ r. line ∷ parts_of r) t.1.1)
            ∙ sym (append_assoc read.done (line ∷ []) (parts_of next));
        right = list_all-append is_sum_line read.done (line ∷ [])
            ∙ and_from (list_all is_sum_line read.done) (list_all is_sum_line (line ∷ [])) read.right
            (and_from (is_sum_line line) true (ap is_some t.1.0) refl);
        lines_are = omega (arith, read.lines_are, lengths);
        pairs = omega (arith, read.pairs, lengths, pair_lengths);
        octets_are = ap (λ z. z +ℤ pair.octets) read.octets_are
            ∙ sym (ap (λ ps. total_of (map (λ (p : Pair). p.octets) ps)) pushed
            ∙ total_push (λ (p : Pair). p.octets) (pairs_in read.done) pair);
        count_is = ap (λ z. z +ℤ pair.count) read.count_is
            ∙ sym (ap (λ ps. total_of (map (λ (p : Pair). p.count) ps)) pushed
            ∙ total_push (λ (p : Pair). p.count) (pairs_in read.done) pair);
      }

  -- the next line is no sum line
  pub sums_wrong : (len : ℕ) → list_any is_line_feed rest ≡ true → sum_line_at rest ≡ None
      → option_or (line_fault (lines_in bytes)) (rest_fault len (rest_in bytes)) ≡ Some (BadLine (lines + 2))
  sums_wrong len any h =
      let line = first_line rest in
      let none = line_refused (list_any is_line_feed rest) (after_first is_line_feed rest) (pair_in line) h any in
      let next = parts_first (after_first is_line_feed rest) in
      let after = after_first is_line_feed rest in
      let parts = read.parts ∙ ap (λ ps. read.done ++ ps) (parts_ended rest any ∙ ap (λ ps. line ∷ ps) (parts_first after)) in
      let others = cond (list_any is_line_feed after) (parts_of (after_first is_line_feed after)) [] in
      let all = ap all_but_last parts ∙ all_but_last_append read.done line (first_line after ∷ others) in
      ap (λ ls. option_or (line_fault ls) (rest_fault len (rest_in bytes))) all
      ∙ ap (λ o. option_or o (rest_fault len (rest_in bytes)))
      (bad_line_at read.done line (all_but_last (first_line after ∷ others)) read.right (ap is_some none))
      ∙ ap (λ n. Some (BadLine (n + 2))) (sym read.lines_are)

  -- no line feed ends the next line
  pub sums_torn : (len : ℕ) → list_any is_line_feed rest ≡ false → 0 < length rest
      → option_or (line_fault (lines_in bytes)) (rest_fault len (rest_in bytes)) ≡ Some (Torn (len - length rest))
  sums_torn len none some =
      let parts = read.parts ∙ ap (λ ps. read.done ++ ps) (parts_torn rest none) in
      let all = ap all_but_last parts ∙ all_but_last_append read.done rest [] ∙ append-nil read.done in
      let last = ap last_of parts ∙ last_of_append read.done rest [] in
      ap (λ ls. option_or (line_fault ls) (rest_fault len (rest_in bytes))) all
      ∙ ap (λ o. option_or o (rest_fault len (rest_in bytes))) (no_bad_line read.done read.right)
      ∙ ap (rest_fault len) last ∙ torn_at len rest some

  -- the fault of what is left
  pub sums_fault : (len : ℕ) → sum_line_at rest ≡ None → 0 < length rest
      → option_or (line_fault (lines_in bytes)) (rest_fault len (rest_in bytes)) ≡ Some
      (cond (list_any is_line_feed rest) (BadLine (lines + 2)) (Torn (len - length rest)))
  sums_fault len h some = ⊎_elim
      (λ (k : list_any is_line_feed rest ≡ true). sums_wrong len k h
      ∙ ap Some (sym (cond-true (list_any is_line_feed rest) (BadLine (lines + 2)) (Torn (len - length rest)) k)))
      (λ (k : list_any is_line_feed rest ≡ false). sums_torn len k some
      ∙ ap Some (sym (cond-false (list_any is_line_feed rest) (BadLine (lines + 2)) (Torn (len - length rest)) k)))
      (cases_Bool (list_any is_line_feed rest))

-- a sum line takes a byte at least
pub sum_line_shorter : (rest : List ℕ) (pair : Pair) (next : List ℕ) → sum_line_at rest ≡ Some (pair, next)
    → length next + 1 ≤ length rest
sum_line_shorter rest pair next h =
    let t = line_taken (list_any is_line_feed rest) (after_first is_line_feed rest) (pair_in (first_line rest)) pair next h in
    let lengths = line_length rest t.0 in
    let same = ap length t.1.1 in
    omega (arith, lengths, same)

-- nothing is left
module _ (bytes rest : List ℕ) (lines : ℕ) (octets count : ℤ) (read : SummedTo bytes rest lines octets count)
    (over : length rest ≡ 0) where
  nothing : parts_of rest ≡ [] ∷ []
  nothing = ap parts_of (nil_from_length rest over)

  parts_over : parts_of bytes ≡ read.done ++ [] ∷ []
  parts_over = read.parts ∙ ap (λ ps. read.done ++ ps) nothing

  pub sums_lines : lines_in bytes ≡ read.done
  sums_lines = ap all_but_last parts_over ∙ all_but_last_append read.done [] [] ∙ append-nil read.done

  pub sums_right : (len : ℕ) → option_or (line_fault (lines_in bytes)) (rest_fault len (rest_in bytes)) ≡ None
  sums_right len =
      ap (λ ls. option_or (line_fault ls) (rest_fault len (rest_in bytes))) sums_lines
      ∙ ap (λ o. option_or o (rest_fault len (rest_in bytes))) (no_bad_line read.done read.right)
      ∙ ap (rest_fault len) (ap last_of parts_over ∙ last_of_append read.done [] [])

  pub sums_summary : (limits : LimitNumbers)
      → ◌≡◌ {A = LedgerText} (record { limits = limits; lines = lines; octets = octets; count = count })
      (summary limits (pairs_in (lines_in bytes)))
  sums_summary limits =
      let same = ap pairs_in sums_lines in
      let count_of = read.lines_are ∙ sym read.pairs in
      ap (λ n. text n octets count) count_of ∙ ap (λ z. text (length (pairs_in read.done)) z count) read.octets_are
      ∙ ap (λ z. text (length (pairs_in read.done)) (total_of (map (λ (p : Pair). p.octets) (pairs_in read.done))) z) read.count_is
      ∙ sym (ap (summary limits) same)
    where
      text : ℕ → ℤ → ℤ → LedgerText
      text n o c = record { limits = limits; lines = n; octets = o; count = c }

abs_add : (x y : ℤ) → unsigned_abs (x +ℤ y) ≤ unsigned_abs x + unsigned_abs y
abs_add x y = omega (arith, ints)

-- one number more in a sum of 128 bits
pub added : (o m f : ℤ) (lines : ℕ) → unsigned_abs o ≤ lines * 1000000000000000000 → lines < 5120
    → unsigned_abs m < 1000000000000000000 → f ≡ to_z w64 (of_z w64 m)
    → (to_z w128 (of_z w128 (o +ℤ to_z w128 (of_z w128 f))) ≡ o +ℤ m) × (unsigned_abs (o +ℤ m) ≤ (lines + 1) * 1000000000000000000)
added o m f lines small few less e =
    let narrow : FitsSigned w64 m = fits_signed_from_abs w64 m (omega arith) in
    let wide : FitsSigned w128 m = fits_signed_from_abs w128 m (omega arith) in
    let bound = abs_add o m in
    let total : FitsSigned w128 (o +ℤ m) = fits_signed_from_abs w128 (o +ℤ m) (omega (arith, bound)) in
    let same = e ∙ to_z-of_z w64 m narrow in (
      ap (λ z. to_z w128 (of_z w128 (o +ℤ to_z w128 (of_z w128 z)))) same
          ∙ ap (λ z. to_z w128 (of_z w128 (o +ℤ z))) (to_z-of_z w128 m wide) ∙ to_z-of_z w128 (o +ℤ m) total,
      omega (arith, bound),
    )

pub summed_as : (bytes rest : List ℕ) (lines : ℕ) (a b c d : ℤ) → a ≡ b → c ≡ d → SummedTo bytes rest lines b d
    → SummedTo bytes rest lines a c
summed_as bytes rest lines a b c d e f read = rw (e, f) read

pub bound_as : (a b : ℤ) (most : ℕ) → a ≡ b → unsigned_abs b ≤ most → unsigned_abs a ≤ most
bound_as a b most e h = rw e h
