-- Readings of a whole ledger, and its first fault.
use Rattle.std.proofs.Common.{◌≡◌, ℕ, ◌+◌, ◌-◌, ◌<◌, ◌≤◌, List, [], ◌∷◌, true, false, cond, ◌||◌, not, length, map, take, Option, Some, None, is_some, Result, Ok, Err, IfOk, IsOkAnd, refl, ap, ◌∙◌, sym, ⊎_elim, arith, nat_lt, nat_le}
use Rattle.std.proofs.Math.Numerals.{one-add}
use Rattle.std.specs.List.{list_all, list_any, after_first, prefix_len, sum_by, filter_map, cons_option}
use Rattle.std.specs.Option.{option_map, option_or}
use Rattle.std.specs.Result.{result_err}
use Rattle.std.proofs.lemmas.Bool.{cases_Bool, cond-true, cond-false, and_from, and_parts, le-ltb, lt-leb, lt-ltb, ltb-false, false≢true}
use Rattle.std.proofs.lemmas.Option.{cond_some, same_Some}
use Rattle.quota_units.specs.Limiting.{LimitNumbers}
use Rattle.maildirsize.specs.declared.ledger_text.LedgerFault.{LedgerFault}
use Rattle.maildirsize.specs.declared.ledger_text.LedgerFault.TheVariants.{TooLong, BadDefinition, BadLine, Torn}
use Rattle.maildirsize.specs.declared.ledger_text.LedgerText.{LedgerText}
use Rattle.maildirsize.specs.declared.definition.Member.{Member}
use Rattle.maildirsize.specs.Prefixes.{skip_while, begins_with}
use Rattle.maildirsize.specs.Lines.{is_line_feed, is_in_line, parts_of, all_but_last, last_of, lines_in, rest_in, first_line}
use Rattle.maildirsize.specs.Definition.{is_member, member_in, members_in, limits_named, wrong_text_in, definition_in, wrong_member_in, definition_of}
use Rattle.maildirsize.specs.SumLine.{pair_in, is_sum_line, pairs_in}
use Rattle.maildirsize.specs.Sums.{Pair}
use Rattle.maildirsize.specs.Reading.{Reads, summary, SumsUp, line_fault, rest_fault, fault_in, fault_of}
use Rattle.quota_units.proofs.CutLemmas.{after-cons}
use Rattle.maildirsize.proofs.PrefixLemmas.{skip_yes, skip_no}
use Rattle.maildirsize.proofs.SumsLemmas.{parts_first, parts_ended, parts_torn, no_bad_line}

-- a definition whose members are all right has no wrong one
all_right : (texts : List (List ℕ)) → list_all is_member texts ≡ true → prefix_len is_member texts ≡ length texts
all_right [] r = refl
all_right (t ∷ texts) r =
    let p = and_parts (is_member t) (list_all is_member texts) r in
    cond-true (is_member t) (1 + prefix_len is_member texts) 0 p.0 ∙ ap (λ n. 1 + n) (all_right texts p.1) ∙ one-add (length texts)

not_wrong : (texts : List (List ℕ)) → list_all is_member texts ≡ true → wrong_text_in texts ≡ None
not_wrong texts r =
    ap (λ n. cond (nat_lt n (length texts)) (Some (sum_by (λ (t : List ℕ). length t + 1) (take n texts))) None) (all_right texts r)
    ∙ cond-false (nat_lt (length texts) (length texts))
    (Some (sum_by (λ (t : List ℕ). length t + 1) (take (length texts) texts))) None
    (le-ltb (length texts) (length texts) (omega arith))

pub defined_not_wrong : (line : List ℕ) (limits : LimitNumbers) → definition_in line ≡ Some limits → wrong_member_in line ≡ None
defined_not_wrong line limits h =
    not_wrong (members_in line) (cond_some (list_all is_member (members_in line)) (limits_named (filter_members line)) limits h).0
  where
    filter_members : List ℕ → List Member
    filter_members l = filter_map member_in (members_in l)

wrong_not_defined : (line : List ℕ) (at : ℕ) → wrong_member_in line ≡ Some at → definition_in line ≡ None
wrong_not_defined line at h = ⊎_elim
    (λ (r : list_all is_member (members_in line) ≡ true). let n = not_wrong (members_in line) r in absurd (clash n h))
    (λ (r : list_all is_member (members_in line) ≡ false). cond-false (list_all is_member (members_in line))
    (Some (limits_named (filter_map member_in (members_in line)))) None r)
    (cases_Bool (list_all is_member (members_in line)))
  where
    clash : {o : Option ℕ} {n : ℕ} → o ≡ None → o ≡ Some n → ⊥
    clash {o} {n} a b = cc

pub no_definition : (bytes : List ℕ) (at : ℕ) → wrong_member_in (first_line bytes) ≡ Some at → None ≡ definition_of bytes
no_definition [] at h = refl
no_definition (b ∷ bytes) at h = sym (wrong_not_defined (first_line (b ∷ bytes)) at h)

-- a line feed stands behind the first line or nowhere
pub ended_begins : (bytes : List ℕ) → list_any is_line_feed bytes ≡ begins_with is_line_feed (skip_while is_in_line bytes)
ended_begins [] = refl
ended_begins (x ∷ bytes) = ⊎_elim
    (λ (h : is_line_feed x ≡ true).
    ap (λ b. b || list_any is_line_feed bytes) h ∙ sym (ap (begins_with is_line_feed) (skip_no is_in_line x bytes (ap not h)) ∙ h))
    (λ (h : is_line_feed x ≡ false).
    ap (λ b. b || list_any is_line_feed bytes) h ∙ ended_begins bytes
    ∙ sym (ap (begins_with is_line_feed) (skip_yes is_in_line x bytes (ap not h))))
    (cases_Bool (is_line_feed x))

pub after_line : (bytes rest : List ℕ) → skip_while is_in_line bytes ≡ 10 ∷ rest → after_first is_line_feed bytes ≡ rest
after_line [] rest h = cc
after_line (x ∷ bytes) rest h = ⊎_elim
    (λ (k : is_line_feed x ≡ true).
    let e = sym (skip_no is_in_line x bytes (ap not k)) ∙ h in
    let tail : bytes ≡ rest = cc in
    after-cons is_line_feed x bytes ∙ cond-true (is_line_feed x) bytes (after_first is_line_feed bytes) k ∙ tail)
    (λ (k : is_line_feed x ≡ false).
    after-cons is_line_feed x bytes ∙ cond-false (is_line_feed x) bytes (after_first is_line_feed bytes) k
    ∙ after_line bytes rest (sym (skip_yes is_in_line x bytes (ap not k)) ∙ h))
    (cases_Bool (is_line_feed x))

-- the lines of a text with a line feed are the first and those behind it
lines_ended : (bytes : List ℕ) → list_any is_line_feed bytes ≡ true
    → (lines_in bytes ≡ first_line bytes ∷ lines_in (after_first is_line_feed bytes)) ×
    (rest_in bytes ≡ rest_in (after_first is_line_feed bytes))
lines_ended bytes h =
    let after = after_first is_line_feed bytes in
    let parts = parts_ended bytes h in
    let more = parts_first after in
    let others = cond (list_any is_line_feed after) (parts_of (after_first is_line_feed after)) [] in (
      ap all_but_last (parts ∙ ap (λ ps. first_line bytes ∷ ps) more) ∙ ap (λ ps. first_line bytes ∷ all_but_last ps) (sym more),
      ap last_of (parts ∙ ap (λ ps. first_line bytes ∷ ps) more) ∙ ap last_of (sym more),
    )

lines_torn : (bytes : List ℕ) → list_any is_line_feed bytes ≡ false → lines_in bytes ≡ []
lines_torn bytes h = ap all_but_last (parts_torn bytes h)

-- the fault of a text that is not too long
short_fault : (bytes : List ℕ) → length bytes < 5120 → fault_of bytes ≡ fault_in (length bytes) (lines_in bytes) (rest_in bytes)
short_fault bytes h = cond-false (nat_le 5120 (length bytes)) (Some (TooLong (length bytes)))
    (fault_in (length bytes) (lines_in bytes) (rest_in bytes)) (lt-leb 5120 (length bytes) h)

pub fault_without_line : (bytes : List ℕ) → length bytes < 5120 → list_any is_line_feed bytes ≡ false
    → fault_of bytes ≡ Some (Torn 0)
fault_without_line bytes short h = short_fault bytes short
    ∙ ap (λ ls. fault_in (length bytes) ls (rest_in bytes)) (lines_torn bytes h)

pub fault_of_definition : (bytes : List ℕ) (at : ℕ) → length bytes < 5120 → wrong_member_in (first_line bytes) ≡ Some at
    → fault_of bytes ≡ Some (cond (list_any is_line_feed bytes) (BadDefinition at) (Torn 0))
fault_of_definition bytes at short h = ⊎_elim
    (λ (k : list_any is_line_feed bytes ≡ true).
    let others = lines_in (after_first is_line_feed bytes) in
    short_fault bytes short ∙ ap (λ ls. fault_in (length bytes) ls (rest_in bytes)) (lines_ended bytes k).0
    ∙ ap (λ o. option_or (option_map BadDefinition o) (option_or (line_fault others) (rest_fault (length bytes) (rest_in bytes)))) h
    ∙ ap Some (sym (cond-true (list_any is_line_feed bytes) (BadDefinition at) (Torn 0) k)))
    (λ (k : list_any is_line_feed bytes ≡ false).
    fault_without_line bytes short k ∙ ap Some (sym (cond-false (list_any is_line_feed bytes) (BadDefinition at) (Torn 0) k)))
    (cases_Bool (list_any is_line_feed bytes))

-- a text whose definition is right, and the bytes behind its line feed
module _ (bytes sums : List ℕ) (limits : LimitNumbers) (short : length bytes < 5120)
    (defined : definition_in (first_line bytes) ≡ Some limits) (found : skip_while is_in_line bytes ≡ 10 ∷ sums) where
  ended : list_any is_line_feed bytes ≡ true
  ended = ended_begins bytes ∙ ap (begins_with is_line_feed) found

  cut : (lines_in bytes ≡ first_line bytes ∷ lines_in sums) × (rest_in bytes ≡ rest_in sums)
  cut =
      let l = lines_ended bytes ended in
      let after = after_line bytes sums found in
      (l.0 ∙ ap (λ a. first_line bytes ∷ lines_in a) after, l.1 ∙ ap rest_in after)

  pub fault_of_sums : fault_of bytes ≡ option_or (line_fault (lines_in sums)) (rest_fault (length bytes) (rest_in sums))
  fault_of_sums =
      short_fault bytes short ∙ ap (λ ls. fault_in (length bytes) ls (rest_in bytes)) cut.0
      ∙ ap (λ o. option_or (option_map BadDefinition o)
      (option_or (line_fault (lines_in sums)) (rest_fault (length bytes) (rest_in bytes))))
      (defined_not_wrong (first_line bytes) limits defined)
      ∙ ap (λ r. option_or (line_fault (lines_in sums)) (rest_fault (length bytes) r)) cut.1

-- the lines of which none is bad are sum lines
prefix_all : (lines : List (List ℕ)) → length lines ≤ prefix_len is_sum_line lines → list_all is_sum_line lines ≡ true
prefix_all [] h = refl
prefix_all (line ∷ lines) h = ⊎_elim
    (λ (k : is_sum_line line ≡ true).
    let e = cond-true (is_sum_line line) (1 + prefix_len is_sum_line lines) 0 k in
    and_from (is_sum_line line) (list_all is_sum_line lines) k (prefix_all lines (omega (arith, e, h))))
    (λ (k : is_sum_line line ≡ false).
    let e = cond-false (is_sum_line line) (1 + prefix_len is_sum_line lines) 0 k in
    absurd (omega (arith, e, h)))
    (cases_Bool (is_sum_line line))

none_bad : (lines : List (List ℕ)) → line_fault lines ≡ None → list_all is_sum_line lines ≡ true
none_bad lines h = ⊎_elim
    (λ (k : nat_lt (prefix_len is_sum_line lines) (length lines) ≡ true).
    absurd (clash (cond-true (nat_lt (prefix_len is_sum_line lines) (length lines))
    (Some (BadLine (prefix_len is_sum_line lines + 2))) None k) h))
    (λ (k : nat_lt (prefix_len is_sum_line lines) (length lines) ≡ false). prefix_all lines
    (ltb-false (prefix_len is_sum_line lines) (length lines) k))
    (cases_Bool (nat_lt (prefix_len is_sum_line lines) (length lines)))
  where
    clash : {o : Option LedgerFault} {f : LedgerFault} → o ≡ Some f → o ≡ None → ⊥
    clash {o} {f} a b = cc

pairs_stated : (lines : List (List ℕ)) → list_all is_sum_line lines ≡ true → map pair_in lines ≡ map Some (pairs_in lines)
pairs_stated [] h = refl
pairs_stated (line ∷ lines) h =
    let p = and_parts (is_sum_line line) (list_all is_sum_line lines) h in
    stated (pair_in line) p.0 (pairs_stated lines p.1)
  where
    stated : (o : Option Pair) → is_some o ≡ true → map pair_in lines ≡ map Some (pairs_in lines)
        → o ∷ map pair_in lines ≡ map Some (cons_option o (pairs_in lines))
    stated None k e = absurd (false≢true k)
    stated (Some p) k e = ap (λ os. Some p ∷ os) e

or_none : {A : Type 0} (a b : Option A) → option_or a b ≡ None → (a ≡ None) × (b ≡ None)
or_none None b h = (refl, h)
or_none (Some x) b h = cc

whole_text : (len : ℕ) (rest : List ℕ) → rest_fault len rest ≡ None → rest ≡ []
whole_text len [] h = refl
whole_text len (x ∷ rest) h =
    let some : 0 < length (x ∷ rest) = omega arith in
    let e = cond-true (nat_lt 0 (length (x ∷ rest))) (Some (Torn (len - length (x ∷ rest)))) None
    (lt-ltb 0 (length (x ∷ rest)) some) in
    cc

-- the lines that none is wrong of are read
pub sums_read : (bytes sums : List ℕ) (limits : LimitNumbers) → length bytes < 5120 → definition_in (first_line bytes) ≡ Some limits
    → skip_while is_in_line bytes ≡ 10 ∷ sums
    → option_or (line_fault (lines_in sums)) (rest_fault (length bytes) (rest_in sums)) ≡ None
    → Reads bytes limits (pairs_in (lines_in sums))
sums_read bytes sums limits short defined found none =
    let c = cut bytes sums limits short defined found in
    let n = or_none (line_fault (lines_in sums)) (rest_fault (length bytes) (rest_in sums)) none in
    record {
      definition = first_line bytes;
      sums = lines_in sums;
      short = short;
      lines = c.0;
      whole = c.1 ∙ whole_text (length bytes) (rest_in sums) n.1;
      defined = defined;
      stated = pairs_stated (lines_in sums) (none_bad (lines_in sums) n.0);
    }

all_stated : (lines : List (List ℕ)) (pairs : List Pair) → map pair_in lines ≡ map Some pairs → list_all is_sum_line lines ≡ true
all_stated [] pairs h = refl
all_stated (line ∷ lines) [] h = cc
all_stated (line ∷ lines) (p ∷ pairs) h =
    let first : pair_in line ≡ Some p = cc in
    let more : map pair_in lines ≡ map Some pairs = cc in
    and_from (is_sum_line line) (list_all is_sum_line lines) (ap is_some first) (all_stated lines pairs more)

-- what is read has no fault
pub no_fault : (bytes : List ℕ) (limits : LimitNumbers) (pairs : List Pair) → Reads bytes limits pairs → fault_of bytes ≡ None
no_fault bytes limits pairs read =
    short_fault bytes read.short ∙ ap (λ ls. fault_in (length bytes) ls (rest_in bytes)) read.lines
    ∙ ap (λ o. option_or (option_map BadDefinition o)
    (option_or (line_fault read.sums) (rest_fault (length bytes) (rest_in bytes))))
    (defined_not_wrong read.definition limits read.defined)
    ∙ ap (λ o. option_or o (rest_fault (length bytes) (rest_in bytes)))
    (no_bad_line read.sums (all_stated read.sums pairs read.stated))
    ∙ ap (rest_fault (length bytes)) read.whole

same_pairs : (ps qs : List Pair) → map (λ (p : Pair). Some p) ps ≡ map (λ (p : Pair). Some p) qs → ps ≡ qs
same_pairs [] [] h = refl
same_pairs [] (q ∷ qs) h = cc
same_pairs (p ∷ ps) [] h = cc
same_pairs (p ∷ ps) (q ∷ qs) h =
    let first : p ≡ q = cc in
    let more : map (λ (p : Pair). Some p) ps ≡ map (λ (p : Pair). Some p) qs = cc in
    ap (λ x. x ∷ ps) first ∙ ap (λ xs. q ∷ xs) (same_pairs ps qs more)

pub one_reading_lem : (bytes : List ℕ) (l m : LimitNumbers) (ps qs : List Pair) → Reads bytes l ps → Reads bytes m qs
    → (l ≡ m) × (ps ≡ qs)
one_reading_lem bytes l m ps qs a b =
    let lines = sym a.lines ∙ b.lines in
    let definition : a.definition ≡ b.definition = cc in
    let sums : a.sums ≡ b.sums = cc in (
      same_Some l m (sym a.defined ∙ ap definition_in definition ∙ b.defined),
      same_pairs ps qs (sym a.stated ∙ ap (map pair_in) sums ∙ b.stated),
    )

-- what a text is read as, and what refuses it, tell the two apart
pub read_exactly : (bytes : List ℕ) (r : Result LedgerText LedgerFault) → result_err r ≡ fault_of bytes → IfOk r (SumsUp bytes)
    → (limits : LimitNumbers) (pairs : List Pair) → Reads bytes limits pairs → IsOkAnd r (λ ledger. ledger ≡ summary limits pairs)
read_exactly bytes (Ok ledger) fault read limits pairs h =
    let one = one_reading_lem bytes ledger.limits limits read.0 pairs read.1 h in
    read.2 ∙ ap (λ l. summary l read.0) one.0 ∙ ap (summary limits) one.1
read_exactly bytes (Err e) fault read limits pairs h = let n = fault ∙ no_fault bytes limits pairs h in cc

-- the ledger that is read, by the sum lines behind its definition
pub reads_as : (bytes sums : List ℕ) (limits : LimitNumbers) (r : Result LedgerText LedgerFault) → length bytes < 5120
    → definition_in (first_line bytes) ≡ Some limits → skip_while is_in_line bytes ≡ 10 ∷ sums
    → result_err r ≡ option_or (line_fault (lines_in sums)) (rest_fault (length bytes) (rest_in sums))
    → IfOk r (λ ledger. ledger ≡ summary limits (pairs_in (lines_in sums)))
    → IfOk r (SumsUp bytes)
reads_as bytes sums limits (Ok ledger) short defined found fault is =
    let pairs = pairs_in (lines_in sums) in
    let same : ledger.limits ≡ limits = ap (λ (l : LedgerText). l.limits) is in
    (pairs, rw same (sums_read bytes sums limits short defined found (sym fault)), is ∙ ap (λ l. summary l pairs) (sym same))
reads_as bytes sums limits (Err e) short defined found fault is = tt
