-- Roots of a live account are settled.
use Rattle.std.proofs.Common.{◌≡◌, ℕ, ◌<◌, Bool, List, length, Option, Some, None, refl, sym, ap, ◌∙◌, inl, inr, subst, arith}
use Rattle.std.specs.Prelude.{IfSome, ◌⊎◌}
use Rattle.std.proofs.lemmas.Bool.{cases_lt}
use Rattle.std.proofs.lemmas.List.{get_or_past, length-map}
use Rattle.std.specs.Prelude.{Result, Ok, Err, MatchResult, IsErrAnd, OnOk}
use Rattle.quota_units.specs.Causes.{HasCause}
use Rattle.keeper.specs.declared.failed.KeepError.{KeepError}
use Rattle.keeper.specs.declared.failed.KeepError.TheVariants.{NoMemory as keep_no_memory, Failed}
use Rattle.account_core.specs.declared.calls.StepError.{StepError}
use Rattle.account_core.specs.declared.calls.StepError.TheVariants.{Store as StoreError}
use Rattle.account_ledger.specs.Faults.{step_error}
use Rattle.keeper.specs.Files.{Files, ledger_at, ledger_bytes, bytes_of}
use Rattle.keeper.specs.Calls.{Told, Changes, Due, OnFiles}
use Rattle.keeper.proofs.Changing.{changes_weaken}
use Rattle.keeper.proofs.LedgerLemmas.{rows_same}
use Rattle.admission.specs.Fitting.{limits_at}
use Rattle.account_core.specs.Account.{Account}
use Rattle.root_ledgers.specs.declared.book.Book.{Book}
use Rattle.root_ledgers.specs.declared.book.Standing.{Standing}
use Rattle.root_ledgers.specs.declared.book.Standing.TheVariants.{Settled, Doubt}
use Rattle.root_ledgers.specs.Ledgers.{IsRight, folded}
use Rattle.root_ledgers.specs.Scans.{scan}
use Rattle.root_ledgers.specs.Settling.{IsKept, Marks, MarksOne, Settling, SettlesOrStays, book_at, kept_of, no_book, standings_of}
use Rattle.root_ledgers.proofs.Kept.{kept_folded}
use Rattle.account_ledger.specs.Messages.{StandFor}
use Rattle.account_ledger.specs.Stores.{standing_at, usage_at}
use Rattle.account_ledger.specs.Settling.{AreFolded, IsSettledNow, SettlesLedgers, SettlesSome}
use Rattle.account_ledger.specs.Lives.{Live, StandsIfTold, Looks, Prepares, Shows, Stands, store_of}
use Rattle.account_ledger.proofs.UsageLemmas.{scan_is_usage}
use Rattle.account_ledger.proofs.Showing.{after_told, bounded_of, standing_of}

-- a live account with other books, files and counts
abbrev pub with_books : Live → Option Told → ℕ → ℕ → List Book → Live
with_books l told faults lists books = record l { told = told; faults = faults; lists = lists; books = books }

module _ (l : Live) (account : Account) (shows : Shows l account) (may : ℕ → Bool) (books' : List Book) (files' : Files)
    (settling : Settling may l.roots l.mailboxes (kept_of l.limits l.books) (kept_of l.limits books') shows.told.files files') where
  scanned : (root : ℕ) → root < length l.roots → scan l.roots root l.mailboxes shows.told.files.rows ≡ usage_at l.roots root account
  scanned root inside =
      scan_is_usage l.roots root inside account l.mailboxes shows.told.files.rows shows.stands.mailboxes_are shows.stands.stand (bounded_of l account shows)

  kept_by : (may : Bool) (root : ℕ) → root < length l.roots
      → SettlesOrStays may (limits_at l.limits root) (scan l.roots root l.mailboxes shows.told.files.rows) (book_at l.books root) (book_at books' root) (ledger_at shows.told.files root) (ledger_at files' root)
      → (book_at books' root).standing ≡ Settled → IsKept (limits_at l.limits root) (usage_at l.roots root account) (ledger_at files' root) (ledger_bytes files' root) (book_at books' root)
  kept_by may root inside (inl stays) settled =
      let old = shows.stands.kept root inside (sym (ap (λ (b : Book). b.standing) stays.book_is) ∙ settled) in
      record {
        totals = ap (λ (b : Book). b.totals) stays.book_is ∙ old.totals;
        right = subst (λ l1. IsRight (limits_at l.limits root) (usage_at l.roots root account) l1) (sym stays.ledger_is) old.right;
        long = ap (λ (b : Book). b.length) stays.book_is ∙ old.long ∙ ap (λ l1. length (bytes_of l1)) (sym stays.ledger_is);
      }
  kept_by may root inside (inr (is, s)) settled =
      kept_folded (limits_at l.limits root) (usage_at l.roots root account) (scan l.roots root l.mailboxes shows.told.files.rows) (ledger_at files' root) (book_at books' root)
      (scanned root inside) (omega arith) (omega arith) s.book_is s.ledger_is s.short

  pub stands_settled : (told' : Option Told) (faults' lists' : ℕ) → Stands (with_books l told' faults' lists' books') account files'
  stands_settled told' faults' lists' = record {
    limits_are = shows.stands.limits_are;
    mailboxes_are = shows.stands.mailboxes_are;
    epoch_is = shows.stands.epoch_is;
    deliveries_are = shows.stands.deliveries_are;
    generation_is = shows.stands.generation_is;
    stand = subst (λ rows. StandFor rows account) (sym (rows_same shows.told.files files' settling.same)) shows.stands.stand;
    kept = λ root inside settled. kept_by (may root) root inside (settling.each root) settled;
  }

  -- the ledger of a root that is settled now is the folded text of its limits and its usage
  one_folded : (root : ℕ) → root < length l.roots
      → SettlesOrStays (may root) (limits_at l.limits root) (scan l.roots root l.mailboxes shows.told.files.rows) (book_at l.books root) (book_at books' root) (ledger_at shows.told.files root) (ledger_at files' root)
      → (book_at l.books root).standing ≡ Doubt → (book_at books' root).standing ≡ Settled
      → ledger_at files' root ≡ Some (folded (limits_at account.limits root) (usage_at l.roots root account))
  one_folded root inside (inl stays) doubt settled = let e : Settled ≡ Doubt = sym settled ∙ ap (λ (b : Book). b.standing) stays.book_is ∙ doubt in absurd (cc)
  one_folded root inside (inr (is, s)) doubt settled =
      s.ledger_is ∙ ap (λ u. Some (folded (limits_at l.limits root) u)) (scanned root inside)
      ∙ ap (λ ls. Some (folded (limits_at ls root) (usage_at l.roots root account))) (sym shows.stands.limits_are)

  pub each_folded : length books' ≡ length l.roots → AreFolded l.roots account (standings_of l.books) (standings_of books') shows.told.files files'
  each_folded count root doubt settled =
      let now = sym (standing_of books' root) ∙ settled in
      elim (cases_lt root (length l.roots)) [
        | inl inside ↦ one_folded root inside (settling.each root) (sym (standing_of l.books root) ∙ doubt) now
        | inr past ↦ let e : Settled ≡ Doubt = sym now ∙ ap (λ (b : Book). b.standing) (get_or_past books' root no_book (omega (arith, past))) in absurd (cc)
      ]

mark_of : (may : Bool) (a b c d : Standing) → a ≡ c → b ≡ d → MarksOne may c d → MarksOne may a b
mark_of may a b c d e f (inl same) = inl (f ∙ same ∙ sym e)
mark_of may a b c d e f (inr (is, doubt, now)) = inr (is, e ∙ doubt, f ∙ now)

marks_each : (may : ℕ → Bool) (books books' : List Book) → Marks may books books' → (root : ℕ) → MarksOne (may root) (standing_at (standings_of books) root) (standing_at (standings_of books') root)
marks_each may books books' marks root = mark_of (may root) _ _ _ _ (standing_of books root) (standing_of books' root) (marks.each root)

pub standings_count : (books books' : List Book) → length books' ≡ length books → length (standings_of books') ≡ length (standings_of books)
standings_count books books' same = length-map books' (λ (b : Book). b.standing) ∙ same ∙ sym (length-map books (λ (b : Book). b.standing))

module _ (may : ℕ → Bool) (l : Live) (books' : List Book) where
  ledger_settled : (files files' : Files) (root : ℕ)
      → SettlesOrStays (may root) (limits_at l.limits root) (scan l.roots root l.mailboxes files.rows) (book_at l.books root) (book_at books' root) (ledger_at files root) (ledger_at files' root)
      → (ledger_at files' root ≡ ledger_at files root) ⊎ IsSettledNow may (standings_of l.books) (standings_of books') root
  ledger_settled files files' root (inl stays) = inl stays.ledger_is
  ledger_settled files files' root (inr (is, s)) = inr (is, standing_of l.books root ∙ s.doubt, standing_of books' root ∙ ap (λ (b : Book). b.standing) s.book_is)

  ledgers_settled : (now now' : Option Told) → Changes (OnFiles (Settling may l.roots l.mailboxes (kept_of l.limits l.books) (kept_of l.limits books'))) now now'
      → Changes (OnFiles (SettlesLedgers may (standings_of l.books) (standings_of books'))) now now'
  ledgers_settled =
      changes_weaken {X = Told} (OnFiles (Settling may l.roots l.mailboxes (kept_of l.limits l.books) (kept_of l.limits books'))) (OnFiles (SettlesLedgers may (standings_of l.books) (standings_of books')))
      (λ (x y : Told) settling. record { same = settling.same; each = λ root. ledger_settled x.files y.files root (settling.each root) })

-- some roots that may be settled are, by what settling does to their books and ledgers
module _ (failed : Type 0) (may : ℕ → Bool) (l : Live) (told' : Option Told) (faults' lists' : ℕ) (books' : List Book)
    (settling : Changes (OnFiles (Settling may l.roots l.mailboxes (kept_of l.limits l.books) (kept_of l.limits books'))) l.told told') (marks : Marks may l.books books') where
  abbrev here : Live
  here = with_books l told' faults' lists' books'

  on_told : (account : Account) (shows : Shows l account) (Q : Told → Type 0)
      → ((y : Told) → Settling may l.roots l.mailboxes (kept_of l.limits l.books) (kept_of l.limits books') shows.told.files y.files → Q y) → IfSome told' Q
  on_told account shows Q fact = after_told (OnFiles (Settling may l.roots l.mailboxes (kept_of l.limits l.books) (kept_of l.limits books'))) l.told told' shows.told Q shows.is_told settling fact

  texts_settled : (account : Account) → Shows l account → Changes (OnFiles (AreFolded l.roots account (standings_of l.books) (standings_of books'))) l.told told'
  texts_settled account shows = by l.told told' shows.is_told settling
    where
      by : (t t' : Option Told) → t ≡ Some shows.told → Changes (OnFiles (Settling may l.roots l.mailboxes (kept_of l.limits l.books) (kept_of l.limits books'))) t t'
          → Changes (OnFiles (AreFolded l.roots account (standings_of l.books) (standings_of books'))) t t'
      by None None is s = tt
      by None (Some y) is s = absurd s
      by (Some x) None is s = absurd s
      by (Some x) (Some y) is s =
          let e : x ≡ shows.told = let i : Some x ≡ Some shows.told = is in cc in
          subst (λ (z : Told). AreFolded l.roots account (standings_of l.books) (standings_of books') z.files y.files) (sym e)
          (each_folded l account shows may books' y.files
          (subst (λ (z : Told). Settling may l.roots l.mailboxes (kept_of l.limits l.books) (kept_of l.limits books') z.files y.files) e s)
          (marks.count ∙ shows.whole.kept.each ∙ shows.whole.limits))

  pub prepares_settled : HasCause failed l.faults faults' → Due failed l.faults l.append_faults faults' l.append_faults l.told told' → Prepares failed may l here
  prepares_settled cause due = record {
    same = refl;
    settles = record {
      files = ledgers_settled may l books' l.told told' settling;
      texts = texts_settled;
      count = standings_count l.books books' marks.count;
      each = marks_each may l.books books' marks;
      appends = refl;
    };
    stands = λ account shows. on_told account shows (λ told. Stands here account told.files) (λ y s. stands_settled l account shows may books' y.files s told' faults' lists');
    cause = cause;
    due = due;
  }

-- a mailbox was listed, and no root is settled
pub files_still : (l : Live) (told' : Option Told) (account : Account) (shows : Shows l account) (faults' lists' : ℕ)
    → Changes (OnFiles (λ files files'. files' ≡ files)) l.told told' → StandsIfTold (with_books l told' faults' lists' l.books) account
files_still l told' account shows faults' lists' same =
    after_told (OnFiles (λ files files'. files' ≡ files)) l.told told' shows.told (λ told. Stands (with_books l told' faults' lists' l.books) account told.files) shows.is_told same
    (λ y e. subst (λ (f : Files). Stands (with_books l told' faults' lists' l.books) account f) (sym e) (record {
      limits_are = shows.stands.limits_are;
      mailboxes_are = shows.stands.mailboxes_are;
      epoch_is = shows.stands.epoch_is;
      deliveries_are = shows.stands.deliveries_are;
      generation_is = shows.stands.generation_is;
      stand = shows.stands.stand;
      kept = shows.stands.kept;
    }))

pub settles_none : (Is : Account → Type 0) (may : ℕ → Bool) (l : Live) (told' : Option Told) (faults' lists' : ℕ) → Changes (OnFiles (λ files files'. files' ≡ files)) l.told told'
    → SettlesSome Is may (store_of l) (store_of (with_books l told' faults' lists' l.books))
settles_none Is may l told' faults' lists' same = record {
  files = changes_weaken {X = Told} (OnFiles (λ files files'. files' ≡ files)) (OnFiles (SettlesLedgers may (standings_of l.books) (standings_of l.books)))
      (λ (x y : Told) e. record { same = still x.files y.files e; each = λ root. inl (ap (λ f. ledger_at f root) e) }) l.told told' same;
  texts = λ account is. changes_weaken {X = Told} (OnFiles (λ files files'. files' ≡ files)) (OnFiles (AreFolded l.roots account (standings_of l.books) (standings_of l.books)))
      (λ (x y : Told) e root doubt settled. absurd (let d : Settled ≡ Doubt = sym settled ∙ doubt in cc)) l.told told' same;
  count = refl;
  each = λ root. inl refl;
  appends = refl;
}
  where
    still : (f g : Files) → g ≡ f → g ≡ record f { ledgers = g.ledgers }
    still f g e = rw e refl

pub looks_prepare : (failed : Type 0) (may : ℕ → Bool) (l m : Live) → Looks failed l m → Prepares failed may l m
looks_prepare failed may l m looks =
    subst (λ (x : Live). Prepares failed may l x) (sym looks.same) (record {
      same = refl;
      settles = settles_none (Shows l) may l m.told m.faults _ looks.files;
      stands = λ account shows. files_still l m.told account shows m.faults _ looks.files;
      cause = looks.cause;
      due = subst (λ n. Due failed l.faults l.append_faults m.faults n l.told m.told) (ap (λ (x : Live). x.append_faults) looks.same) looks.due;
    })

-- a failure that is said in other words
pub prepares_said : (failed failed' : Type 0) (may : ℕ → Bool) (l m : Live) → (failed → failed') → (failed' → failed) → Prepares failed may l m → Prepares failed' may l m
prepares_said failed failed' may l m to fro prep = record {
  same = prep.same;
  settles = prep.settles;
  stands = prep.stands;
  cause = record { later = prep.cause.later; rose = λ f. prep.cause.rose (fro f); kept = λ not. prep.cause.kept (λ f. not (to f)) };
  due = changes_weaken {X = Told} _ _ (λ (x y : Told) s. record { fewer = λ f. s.fewer (fro f); bounded = s.bounded }) l.told m.told prep.due;
}

-- an answer of the keeper's and the same answer in the words of calls
abbrev pub IsSaid : {T : Type 0} → Result T KeepError → Result T StepError → Type 0
IsSaid answer said = MatchResult answer (λ x. said ≡ Ok x) (λ e. IsErrAnd said (λ d. d ≡ step_error e))

-- both fail or neither does
pub said_failed : {T : Type 0} (answer : Result T KeepError) (said : Result T StepError) → IsSaid answer said → (answer ≡ Err Failed → said ≡ Err StoreError) × (said ≡ Err StoreError → answer ≡ Err Failed)
said_failed (Ok x) (Ok y) is = (λ e. absurd (cc), λ e. absurd (cc))
said_failed (Ok x) (Err d) is = absurd (cc)
said_failed (Err e) (Ok y) is = absurd is
said_failed (Err keep_no_memory) (Err d) is = (λ e. absurd (cc), λ e. absurd (cc))
said_failed (Err Failed) (Err d) is = (λ e. ap Err is, λ e. refl)

pub said_on_ok : {T P Q : Type 0} (answer : Result T KeepError) (said : Result T StepError) → IsSaid answer said → (P → Q) → OnOk answer P → OnOk said Q
said_on_ok (Ok x) (Ok y) is then p = then p
said_on_ok (Ok x) (Err d) is then p = tt
said_on_ok (Err e) (Ok y) is then p = absurd is
said_on_ok (Err e) (Err d) is then p = tt
