-- Roots are settled one after another.
use Rattle.std.proofs.Common.{◌≡◌, ℕ, ◌<◌, ◌≤◌, ◌+◌, Bool, true, false, nat_eq, List, length, Option, Some, None, refl, sym, ap, ◌∙◌, inl, inr, subst, eqb-true, arith, get_or}
use Rattle.std.proofs.lemmas.List.{get_or_read}
use Rattle.std.specs.Prelude.{IfSome, is_some}
use Rattle.std.proofs.lemmas.Bool.{false≢true, cases_lt}
use Rattle.quota_units.specs.Limiting.{LimitNumbers}
use Rattle.quota_units.specs.declared.totals.Totals.{Totals}
use Rattle.quota_roots.specs.declared.root.RootSpec.{RootSpec}
use Rattle.keeper.specs.Files.{Files, Row}
use Rattle.keeper.specs.Calls.{Told, Changes, OnFiles}
use Rattle.keeper.proofs.LedgerLemmas.{but_then, rows_same}
use Rattle.admission.specs.Fitting.{limits_at}
use Rattle.root_ledgers.specs.declared.book.Book.{Book}
use Rattle.root_ledgers.specs.declared.book.Standing.{Standing}
use Rattle.root_ledgers.specs.declared.book.Standing.TheVariants.{Settled, Doubt}
use Rattle.root_ledgers.specs.Scans.{scan}
use Rattle.root_ledgers.specs.Scanning.{AreScans, IsScan, is_wanted}
use Rattle.root_ledgers.specs.Ledgers.{folded}
use Rattle.root_ledgers.specs.Settling.{Kept, kept_of, book_at, folded_book, SettlesOrStays, Settling, Marks, MarksOne}
use Rattle.keeper.proofs.Changing.{changes_then}

one_then : (may may1 : Bool) → (may1 ≡ true → may ≡ true) → (limits : LimitNumbers) (totals totals1 : Totals) → totals1 ≡ totals → (book book1 book2 : Book) (ledger ledger1 ledger2 : Option (List ℕ))
    → SettlesOrStays may limits totals book book1 ledger ledger1 → SettlesOrStays may1 limits totals1 book1 book2 ledger1 ledger2
    → SettlesOrStays may limits totals book book2 ledger ledger2
one_then may may1 wider limits totals totals1 same book book1 book2 ledger ledger1 ledger2 (inl s) (inl t) =
    inl (record { book_is = t.book_is ∙ s.book_is; ledger_is = t.ledger_is ∙ s.ledger_is })
one_then may may1 wider limits totals totals1 same book book1 book2 ledger ledger1 ledger2 (inl s) (inr (is, t)) =
    inr (
      wider is,
      record {
        doubt = sym (ap (λ (b : Book). b.standing) s.book_is) ∙ t.doubt;
        book_is = t.book_is ∙ ap (folded_book limits) same;
        ledger_is = t.ledger_is ∙ ap (λ x. Some (folded limits x)) same;
        short = subst (λ x. length (folded limits x) < 5120) same t.short;
      },
    )
one_then may may1 wider limits totals totals1 same book book1 book2 ledger ledger1 ledger2 (inr (is, s)) (inl t) =
    inr (is, record { doubt = s.doubt; book_is = t.book_is ∙ s.book_is; ledger_is = t.ledger_is ∙ s.ledger_is; short = s.short })
one_then may may1 wider limits totals totals1 same book book1 book2 ledger ledger1 ledger2 (inr (is, s)) (inr (also, t)) =
    let e : Settled ≡ Doubt = sym (ap (λ (b : Book). b.standing) s.book_is) ∙ t.doubt in absurd (cc)

mark_then : (may may1 : Bool) → (may1 ≡ true → may ≡ true) → (a b c : Standing) → MarksOne may a b → MarksOne may1 b c → MarksOne may a c
mark_then may may1 wider a b c (inl s) (inl t) = inl (t ∙ s)
mark_then may may1 wider a b c (inl s) (inr (is, doubt, settled)) = inr (wider is, sym s ∙ doubt, settled)
mark_then may may1 wider a b c (inr (is, doubt, settled)) (inl t) = inr (is, doubt, t ∙ settled)
mark_then may may1 wider a b c (inr (is, doubt, settled)) (inr (also, doubt1, settled1)) = absurd (let e : Settled ≡ Doubt = sym settled ∙ doubt1 in cc)

module _ (may may1 : ℕ → Bool) (wider : (r : ℕ) → may1 r ≡ true → may r ≡ true) where
  pub marks_then : (a b c : List Book) → Marks may a b → Marks may1 b c → Marks may a c
  marks_then a b c s t = record { count = t.count ∙ s.count; each = λ r. mark_then (may r) (may1 r) (wider r) _ _ _ (s.each r) (t.each r) }

  module _ (roots : List RootSpec) (mailboxes : List (List ℕ)) (limits : List LimitNumbers) where
    pub settling_then : (a b c : List Book) (f g h : Files) → Settling may roots mailboxes (kept_of limits a) (kept_of limits b) f g → Settling may1 roots mailboxes (kept_of limits b) (kept_of limits c) g h
        → Settling may roots mailboxes (kept_of limits a) (kept_of limits c) f h
    settling_then a b c f g h s t = record {
      same = but_then f g h s.same t.same;
      each = λ r. one_then (may r) (may1 r) (wider r) (limits_at limits r) _ _ (ap (scan roots r mailboxes) (rows_same f g s.same)) _ _ _ _ _ _ (s.each r) (t.each r);
    }

    pub settles_then : (a b c : List Book) (t u v : Option Told) → Changes (OnFiles (Settling may roots mailboxes (kept_of limits a) (kept_of limits b))) t u → Changes (OnFiles (Settling may1 roots mailboxes (kept_of limits b) (kept_of limits c))) u v
        → Changes (OnFiles (Settling may roots mailboxes (kept_of limits a) (kept_of limits c))) t v
    settles_then a b c t u v =
        changes_then (OnFiles (Settling may roots mailboxes (kept_of limits a) (kept_of limits b))) (OnFiles (Settling may1 roots mailboxes (kept_of limits b) (kept_of limits c))) (OnFiles (Settling may roots mailboxes (kept_of limits a) (kept_of limits c)))
        (λ x y z. settling_then a b c x.files y.files z.files) t u v

pub only_one : (may : ℕ → Bool) (root : ℕ) → may root ≡ true → (r : ℕ) → nat_eq root r ≡ true → may r ≡ true
only_one may root is r same = subst (λ k. may k ≡ true) (eqb-true root r same) is

pub settled_stays : (may : Bool) (standing standing' : Standing) → MarksOne may standing standing' → standing ≡ Settled → standing' ≡ Settled
settled_stays may standing standing' (inl same) settled = same ∙ settled
settled_stays may standing standing' (inr (is, doubt, now)) settled = now

module _ (may : ℕ → Bool) (n : ℕ) where
  -- each root below n that may be is settled
  abbrev pub SettledBelow : ℕ → List Book → Type 0
  SettledBelow m books = (root : ℕ) → root < m → may root ≡ true → (book_at books root).standing ≡ Settled

  pub settled_more : (a b : List Book) → SettledBelow n a → Marks (nat_eq n) a b → (book_at b n).standing ≡ Settled → SettledBelow (n + 1) b
  settled_more a b before marks here root below is = elim (cases_lt root n) [
    | inl earlier ↦ settled_stays _ _ _ (marks.each root) (before root earlier is)
    | inr not_earlier ↦ let e : n ≡ root = omega arith in subst (λ k. (book_at b k).standing ≡ Settled) e here
  ]

  pub settled_here : (a : List Book) → SettledBelow n a → (may n ≡ true → (book_at a n).standing ≡ Settled) → SettledBelow (n + 1) a
  settled_here a before here root below is = elim (cases_lt root n) [
    | inl earlier ↦ before root earlier is
    | inr not_earlier ↦ let e : n ≡ root = omega arith in subst (λ k. may k ≡ true → (book_at a k).standing ≡ Settled) e here is
  ]

-- a root that was scanned may be settled, and is in doubt
pub wanted_may : (may : Bool) (standing : Standing) (found : Option Totals) (totals : Totals) → IsScan (is_wanted may standing) found → found ≡ Some totals → (may ≡ true) × (standing ≡ Doubt)
wanted_may may standing found totals scanned is = by standing (sym scanned.there ∙ ap is_some is)
  where
    by : (s : Standing) → is_wanted may s ≡ true → (may ≡ true) × (s ≡ Doubt)
    by Settled wanted = absurd (false≢true wanted)
    by Doubt wanted = (wanted, refl)

-- a root that may be settled and was not scanned is settled
pub unwanted_settled : (may : Bool) (standing : Standing) (found : Option Totals) → IsScan (is_wanted may standing) found → found ≡ None → may ≡ true → standing ≡ Settled
unwanted_settled may standing found scanned is there = by standing (sym scanned.there ∙ ap is_some is)
  where
    by : (s : Standing) → is_wanted may s ≡ false → s ≡ Settled
    by Settled wanted = refl
    by Doubt wanted = absurd (false≢true (sym wanted ∙ there))

-- what is known of the message files stays known
pub rows_still : (P : List Row → Type 0) (may : ℕ → Bool) (roots : List RootSpec) (mailboxes : List (List ℕ)) (k k' : Kept) (t t' : Option Told)
    → Changes (OnFiles (Settling may roots mailboxes k k')) t t' → IfSome t (λ x. P x.files.rows) → IfSome t' (λ x. P x.files.rows)
rows_still P may roots mailboxes k k' None None changed known = tt
rows_still P may roots mailboxes k k' None (Some y) changed known = absurd changed
rows_still P may roots mailboxes k k' (Some x) None changed known = absurd changed
rows_still P may roots mailboxes k k' (Some x) (Some y) changed known = subst P (sym (rows_same x.files y.files changed.same)) known

-- the roots behind the one that was settled stay as they were
pub left_more : (n : ℕ) (a b c : List Book) → Marks (nat_eq n) b c → ((root : ℕ) → n ≤ root → (book_at b root).standing ≡ (book_at a root).standing)
    → (root : ℕ) → n + 1 ≤ root → (book_at c root).standing ≡ (book_at a root).standing
left_more n a b c marks before root behind = elim (marks.each root) [
  | inl same ↦ same ∙ before root (omega arith)
  | inr w ↦ let e : n ≡ root = eqb-true n root w.0 in let f : n < n = omega arith in absurd (omega arith)
]

-- what was found of the root at a place
pub scan_here : (may : ℕ → Bool) (count : ℕ) (books : List Book) (scans : List (Option Totals)) (root : ℕ) (found : Option Totals)
    → AreScans count (λ k. is_wanted (may k) (book_at books k).standing) scans → root < count → found ≡ get_or scans root found → IsScan (is_wanted (may root) (book_at books root).standing) found
scan_here may count books scans root found scanned inside read =
    subst (IsScan (is_wanted (may root) (book_at books root).standing)) (sym (get_or_read scans root found (omega (arith, scanned.count)) read None)) (scanned.each root inside)
