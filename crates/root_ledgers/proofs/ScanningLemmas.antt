-- Scans of several roots grow, root by root and mailbox by mailbox.
use Rattle.std.proofs.Common.{◌≡◌, ℕ, ◌+◌, ◌<◌, Bool, true, false, cond, List, [], ◌∷◌, ◌++◌, length, take, get_or, Option, Some, None, sum_by, refl, sym, ap, ◌∙◌, inl, inr, subst, arith}
use Rattle.std.specs.Prelude.{IfSome, is_some}
use Rattle.std.proofs.lemmas.Bool.{cases_lt}
use Rattle.std.proofs.lemmas.List.{get_or_push, get_or_past, length_push}
use Rattle.std.proofs.Math.ListN.{get_or-append}
use Rattle.quota_units.specs.declared.totals.Totals.{Totals}
use Rattle.quota_roots.specs.declared.root.RootSpec.{RootSpec}
use Rattle.quota_roots.specs.Governing.{governs_at}
use Rattle.keeper.specs.Files.{Files, Row, listed}
use Rattle.keeper.specs.Calls.{Told, Changes}
use Rattle.keeper.specs.declared.rows.FileRow.{FileRow}
use Rattle.keeper.proofs.Changing.{changes_then, changes_weaken}
use Rattle.quota_units.specs.Sums.{AreSmall, cut_sum, cut_totals}
use Rattle.quota_units.proofs.SumLemmas.{same_totals}
use Rattle.root_ledgers.specs.Scans.{scan, sizes_of}
use Rattle.root_ledgers.specs.Scanning.{AreScans, IsFresh, IsScan, ScansList, with_files, empty_scan, scan_at}
use Rattle.root_ledgers.proofs.ScanLemmas.{sum_more}

-- what is known of each item, and of one more behind them
pub pushed_at : {X : Type 0} (P : ℕ → X → Type 0) (d : X) (xs : List X) (n : ℕ) (x : X) → length xs ≡ n → ((k : ℕ) → k < n → P k (get_or xs k d)) → P n x → (k : ℕ) → k < n + 1 → P k (get_or (xs ++ x ∷ []) k d)
pushed_at P d xs n x long before here k below = elim (cases_lt k n) [
  | inl earlier ↦ subst (P k) (sym (get_or-append xs (x ∷ []) d k (omega (arith, long, earlier)))) (before k earlier)
  | inr not_earlier ↦ let e : n ≡ k = omega arith in subst (λ j. P j (get_or (xs ++ x ∷ []) j d)) e (subst (P n) (sym (get_or_push xs x d n long)) here)
]

pub scans_more : (wanted : ℕ → Bool) (n : ℕ) (scans : List (Option Totals)) (found : Option Totals) → AreScans n wanted scans → IsScan (wanted n) found → AreScans (n + 1) wanted (scans ++ found ∷ [])
scans_more wanted n scans found before here = record {
  count = let e = length_push scans found in omega (arith, e, before.count);
  each = pushed_at (λ k x. IsScan (wanted k) x) None scans n found before.count before.each here;
}

-- a scan that has counted nothing is fresh where nothing was listed
pub empty_fresh : (wanted : Bool) (roots : List RootSpec) (root : ℕ) (rows : List Row) (found : Option Totals) → found ≡ empty_scan wanted → IsFresh roots root [] found rows
empty_fresh true roots root rows found is = rw is refl
empty_fresh false roots root rows found is = rw is tt

-- the files of one more mailbox
counted_octets : (roots : List RootSpec) (root : ℕ) (rows : List Row) (mailboxes : List (List ℕ)) (n : ℕ) → n < length mailboxes → (size : List ℕ → ℕ)
    → sum_by (λ m. cond (governs_at roots root m) (size m) 0) (take (n + 1) mailboxes) ≡ sum_by (λ m. cond (governs_at roots root m) (size m) 0) (take n mailboxes) + cond (governs_at roots root (get_or mailboxes n [])) (size (get_or mailboxes n [])) 0
counted_octets roots root rows mailboxes n inside size = sum_more (λ m. cond (governs_at roots root m) (size m) 0) mailboxes n [] inside

cut_both : (a b : ℕ) → cut_sum (cut_sum a + cut_sum b) ≡ cut_sum (a + b)
cut_both a b = omega arith

module _ (roots : List RootSpec) (root : ℕ) (rows : List Row) (mailboxes : List (List ℕ)) (n : ℕ) (inside : n < length mailboxes) where
  abbrev here : List ℕ
  here = get_or mailboxes n []

  -- the scan with one more mailbox, by whether the root governs it
  scan_by : (b : Bool) → governs_at roots root here ≡ b
      → scan roots root (take (n + 1) mailboxes) rows
      ≡ cut_totals (sum_by (λ m. cond (governs_at roots root m) (sizes_of (listed m rows)) 0) (take n mailboxes) + cond b (sizes_of (listed here rows)) 0)
      (sum_by (λ m. cond (governs_at roots root m) (length (listed m rows)) 0) (take n mailboxes) + cond b (length (listed here rows)) 0)
  scan_by b is =
      same_totals (ap cut_sum (counted_octets roots root rows mailboxes n inside (λ m. sizes_of (listed m rows)) ∙ ap (λ c. sum_by (λ m. cond (governs_at roots root m) (sizes_of (listed m rows)) 0) (take n mailboxes) + cond c (sizes_of (listed here rows)) 0) is))
      (ap cut_sum (counted_octets roots root rows mailboxes n inside (λ m. length (listed m rows)) ∙ ap (λ c. sum_by (λ m. cond (governs_at roots root m) (length (listed m rows)) 0) (take n mailboxes) + cond c (length (listed here rows)) 0) is))

  counted_by : (b : Bool) → governs_at roots root here ≡ b → (totals : Totals) → totals ≡ scan roots root (take n mailboxes) rows
      → (let x : Totals = cond b (cut_totals (totals.octets + cut_sum (sizes_of (listed here rows))) (totals.count + cut_sum (length (listed here rows)))) totals in x) ≡ scan roots root (take (n + 1) mailboxes) rows
  counted_by true is totals fresh =
      rw fresh (same_totals (cut_both _ (sizes_of (listed here rows))) (cut_both _ (length (listed here rows)))) ∙ sym (scan_by true is)
  counted_by false is totals fresh =
      fresh ∙ same_totals (ap cut_sum (omega arith)) (ap cut_sum (omega arith)) ∙ sym (scan_by false is)

  -- the mailbox was listed
  pub fresh_listed : (found found' : Option Totals) → found' ≡ with_files (governs_at roots root here) (cut_totals (sizes_of (listed here rows)) (length (listed here rows))) found
      → IsFresh roots root (take n mailboxes) found rows → IsFresh roots root (take (n + 1) mailboxes) found' rows
  fresh_listed None found' is fresh = rw is tt
  fresh_listed (Some totals) found' is fresh = rw is (counted_by (governs_at roots root here) refl totals fresh)

  -- it was not, since the root does not govern it
  pub fresh_past : (found : Option Totals) → (is_some found ≡ true → governs_at roots root here ≡ false) → IsFresh roots root (take n mailboxes) found rows → IsFresh roots root (take (n + 1) mailboxes) found rows
  fresh_past None not_governed fresh = tt
  fresh_past (Some totals) not_governed fresh = counted_by false (not_governed refl) totals fresh

-- each root that is scanned still is, and no other
pub scans_kept : (count : ℕ) (wanted : ℕ → Bool) (scans scans' : List (Option Totals)) → AreScans count wanted scans → length scans' ≡ length scans
    → ((root : ℕ) → is_some (scan_at scans' root) ≡ is_some (scan_at scans root)) → ((root : ℕ) → IfSome (scan_at scans' root) AreSmall) → AreScans count wanted scans'
scans_kept count wanted scans scans' before long same small = record {
  count = long ∙ before.count;
  each = λ root inside. record { there = same root ∙ (before.each root inside).there; small = small root };
}

-- a mailbox is listed
abbrev pub ListsSome : List ℕ → List FileRow → Told → Told → Type 0
ListsSome mailbox files told told' = (files ≡ listed mailbox told.files.rows) × (told'.files ≡ told.files)

module _ (roots : List RootSpec) (mailboxes : List (List ℕ)) (n : ℕ) (inside : n < length mailboxes) (box : List ℕ) (is : box ≡ get_or mailboxes n []) where
  one_listed : (scans scans' : List (Option Totals)) (count : ℕ) → length scans' ≡ count → (files : List FileRow)
      → ((root : ℕ) → root < count → scan_at scans' root ≡ with_files (governs_at roots root box) (cut_totals (sizes_of files) (length files)) (scan_at scans root))
      → (rows : List Row) → files ≡ listed box rows → ((root : ℕ) → IsFresh roots root (take n mailboxes) (scan_at scans root) rows) → (root : ℕ) → IsFresh roots root (take (n + 1) mailboxes) (scan_at scans' root) rows
  one_listed scans scans' count long files counts rows found fresh root = elim (cases_lt root count) [
    | inl below ↦
        fresh_listed roots root rows mailboxes n inside (scan_at scans root) (scan_at scans' root)
        (counts root below ∙ ap (λ fs. with_files (governs_at roots root box) (cut_totals (sizes_of fs) (length fs)) (scan_at scans root)) found
        ∙ ap (λ m. with_files (governs_at roots root m) (cut_totals (sizes_of (listed m rows)) (length (listed m rows))) (scan_at scans root)) is) (fresh root)
    | inr past ↦ subst (λ x. IsFresh roots root (take (n + 1) mailboxes) x rows) (sym (get_or_past scans' root None (omega (arith, long, past)))) tt
  ]

  pub files_listed : (scans scans' : List (Option Totals)) (count : ℕ) → length scans' ≡ count → (files : List FileRow)
      → ((root : ℕ) → root < count → scan_at scans' root ≡ with_files (governs_at roots root box) (cut_totals (sizes_of files) (length files)) (scan_at scans root))
      → (t u v : Option Told) → Changes (ScansList roots (take n mailboxes) scans) t u → Changes (ListsSome box files) u v → Changes (ScansList roots (take (n + 1) mailboxes) scans') t v
  files_listed scans scans' count long files counts =
      changes_then (ScansList roots (take n mailboxes) scans) (ListsSome box files) (ScansList roots (take (n + 1) mailboxes) scans')
      (λ x y z before lists. (one_listed scans scans' count long files counts x.files.rows (lists.0 ∙ ap (λ (f : Files). listed box f.rows) before.1) before.0, lists.1 ∙ before.1))

  pub files_past : (scans : List (Option Totals)) → ((root : ℕ) → is_some (scan_at scans root) ≡ true → governs_at roots root box ≡ false)
      → (t u : Option Told) → Changes (ScansList roots (take n mailboxes) scans) t u → Changes (ScansList roots (take (n + 1) mailboxes) scans) t u
  files_past scans none =
      changes_weaken (ScansList roots (take n mailboxes) scans) (ScansList roots (take (n + 1) mailboxes) scans)
      (λ x y before. ((λ root. fresh_past roots root x.files.rows mailboxes n inside (scan_at scans root) (λ there. ap (λ m. governs_at roots root m) (sym is) ∙ none root there) (before.0 root)), before.1))
