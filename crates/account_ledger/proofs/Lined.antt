-- From what is kept of roots and their ledgers to what clauses say of lines.
use Rattle.std.proofs.Common.{◌≡◌, ◌≢◌, ℕ, ◌+◌, ◌≤◌, Bool, true, false, List, length, Option, Some, None, refl, sym, ap, ◌∙◌, subst, arith, inl, inr, sum_by}
use Rattle.std.specs.Prelude.{Ok, Err, Result, IfSome}
use Rattle.std.specs.List.{range_with_len}
use Rattle.std.proofs.lemmas.Bool.{cases_lt}
use Rattle.std.proofs.lemmas.List.{get_or_past}
use Rattle.quota_units.specs.Causes.{HasCause}
use Rattle.quota_units.specs.Limiting.{LimitNumbers}
use Rattle.quota_units.specs.declared.totals.Totals.{Totals}
use Rattle.quota_roots.specs.declared.root.RootSpec.{RootSpec}
use Rattle.keeper.specs.Files.{Files, ledger_at, ledger_bytes, bytes_of}
use Rattle.keeper.specs.Calls.{Told, Changes, Due, OnFiles}
use Rattle.keeper.proofs.Changing.{changes_then, changes_weaken}
use Rattle.keeper.proofs.LedgerLemmas.{rows_same}
use Rattle.keeper.proofs.Spending.{spends_none, spends_not, spends_then}
use Rattle.admission.specs.Fitting.{limits_at}
use Rattle.account_core.specs.declared.calls.Call.{Call}
use Rattle.account_core.specs.declared.calls.Reply.{Reply}
use Rattle.account_core.specs.declared.calls.StepError.{StepError}
use Rattle.account_core.specs.declared.calls.StepError.TheVariants.{Store as StoreError, NoMemory, JournalFull}
use Rattle.account_core.specs.Account.{Account, Message}
use Rattle.account_core.specs.Forms.{HasForm}
use Rattle.account_core.specs.Machine.{reply_of, step}
use Rattle.root_ledgers.specs.declared.book.Book.{Book}
use Rattle.root_ledgers.specs.declared.book.Standing.{Standing}
use Rattle.root_ledgers.specs.declared.book.Standing.TheVariants.{Settled, Doubt}
use Rattle.root_ledgers.specs.declared.change.Change.{Change}
use Rattle.root_ledgers.specs.Ledgers.{folded}
use Rattle.root_ledgers.specs.Lines.{AreLong, BookBy, BookLined, BooksLined, HasCauses, LedgerBy, LedgerLined, LedgersLined, LineLedger, change_at, changed_book, fallen_at, fell_below, has_room, line_by, totals_by}
use Rattle.root_ledgers.specs.Settling.{book_at, lengths_of, no_book, standings_of}
use Rattle.root_ledgers.proofs.Sums.{same_below}
use Rattle.account_ledger.specs.Stores.{length_at, standing_at, usage_at}
use Rattle.account_ledger.specs.Settling.{LedgersStay}
use Rattle.account_ledger.specs.Writing.{LineAt, LineStanding, LinesAt, Writing, WritesBy, WritesLines, WritesSo, misses, nothing, writing}
use Rattle.account_ledger.specs.Filing.{RowsFor}
use Rattle.account_ledger.specs.Lives.{Acts, StandsIfTold, IsShown, Live, Shows, Stands, store_of}
use Rattle.account_ledger.proofs.Showing.{length_of, standing_of, told_then}
use Rattle.account_ledger.proofs.Settled.{files_still, standings_count, with_books}
use Rattle.account_ledger.proofs.Stepping.{stay_same}
use Rattle.account_ledger.proofs.Shifting.{FilesShifted, Moves, box_of, stands_shifted, with_lines}

-- changes one after another, from what is told
pub changes_from : (R S T : Told → Told → Type 0) (a b c : Option Told) (x : Told) → a ≡ Some x → Changes R a b → Changes S b c → ((y z : Told) → R x y → S y z → T x z) → Changes T a c
changes_from R S T None None None x is r s then = tt
changes_from R S T None None (Some z) x is r s then = absurd s
changes_from R S T None (Some y) c x is r s then = absurd r
changes_from R S T (Some w) None c x is r s then = absurd r
changes_from R S T (Some w) (Some y) None x is r s then = absurd s
changes_from R S T (Some w) (Some y) (Some z) x is r s then =
    let e : w ≡ x = let i : Some w ≡ Some x = is in cc in
    subst (λ v. T v z) (sym e) (then y z (subst (λ v. R v y) e r) s)

-- standings
standing_by : (change : Option Change) (octets : ℕ) (limits : LimitNumbers) (book book' : Book) → BookLined change octets limits book book' → LineStanding change book.standing book'.standing
standing_by None octets limits book book' is = ap (λ (b : Book). b.standing) is
standing_by (Some change) octets limits book book' lined = by book.standing refl lined
  where
    by : (s : Standing) → book.standing ≡ s → BookBy s change octets limits book book' → LineStanding (Some change) s book'.standing
    by Doubt is lined = ap (λ (b : Book). b.standing) lined ∙ is
    by Settled is lined = tt

module _ (roots : List RootSpec) (changes : ℕ → Option Change) (octets : ℕ) (limits : List LimitNumbers) (books books' : List Book) (lined : BooksLined (length roots) changes octets limits books books') where
  -- a root that the account does not have is in doubt
  past : length books ≡ length roots → (root : ℕ) → length roots ≤ root → LineStanding (changes root) (standing_at (standings_of books) root) (standing_at (standings_of books') root)
  past each root far = by (changes root)
    where
      was : standing_at (standings_of books) root ≡ Doubt
      was = standing_of books root ∙ ap (λ (b : Book). b.standing) (get_or_past books root no_book (omega (arith, each, far)))

      is : standing_at (standings_of books') root ≡ Doubt
      is = standing_of books' root ∙ ap (λ (b : Book). b.standing) (get_or_past books' root no_book (omega (arith, each, far, lined.count)))

      by : (change : Option Change) → LineStanding change (standing_at (standings_of books) root) (standing_at (standings_of books') root)
      by None = is ∙ sym was
      by (Some change) = rw was is

  pub line_standings : length books ≡ length roots → (root : ℕ) → LineStanding (changes root) (standing_at (standings_of books) root) (standing_at (standings_of books') root)
  line_standings each root = elim (cases_lt root (length roots)) [
    | inl inside ↦ rw (standing_of books root, standing_of books' root) (standing_by (changes root) octets (limits_at limits root) (book_at books root) (book_at books' root) (lined.done root inside))
    | inr far ↦ past each root far
  ]

  pub fell_are : (room : Bool) → fell_below (length roots) room changes octets books books'
      ≡ sum_by (λ root. fallen_at room (changes root) octets (standing_at (standings_of books) root) (length_at (lengths_of books) root) (standing_at (standings_of books') root)) (range_with_len 0 (length roots))
  fell_are room = same_below _ _ (length roots) 0 (λ i low high. rw (standing_of books i, standing_of books' i, length_of books i) refl)

  -- and so many faults were counted
  pub fell_seen : (room : Bool) (before mid now : ℕ) → mid ≡ before → HasCauses (fell_below (length roots) room changes octets books books') mid now
      → HasCauses (sum_by (λ root. fallen_at room (changes root) octets (standing_at (standings_of books) root) (length_at (lengths_of books) root) (standing_at (standings_of books') root)) (range_with_len 0 (length roots))) before now
  fell_seen room before mid now same causes = subst (λ n. HasCauses n before now) (fell_are room) (subst (λ b. HasCauses (fell_below (length roots) room changes octets books books') b now) same causes)

-- ledgers
text_swap : (room : Bool) (line text text1 : List ℕ) (ledger ledger' : Option (List ℕ)) (standing' : Standing) → (room ≡ false → standing' ≡ Settled → text ≡ text1)
    → LineLedger room line text ledger standing' ledger' → LineLedger room line text1 ledger standing' ledger'
text_swap true line text text1 ledger ledger' Settled same l = l
text_swap true line text text1 ledger ledger' Doubt same l = l
text_swap false line text text1 ledger ledger' Settled same l = l ∙ ap Some (same refl refl)
text_swap false line text text1 ledger ledger' Doubt same l = l

ledger_by : (change : Option Change) (octets : ℕ) (limits limits' : LimitNumbers) (usage' : Totals) (book book' : Book) (ledger ledger' : Option (List ℕ)) → limits' ≡ limits
    → (book.standing ≡ Settled → book.length ≡ length (bytes_of ledger))
    → (book'.standing ≡ Settled → book'.totals ≡ usage') → BookLined change octets limits book book' → LedgerLined change octets limits book book'.standing ledger ledger'
    → LineAt change octets (folded limits' usage') book.standing ledger book'.standing ledger'
ledger_by None octets limits limits' usage' book book' ledger ledger' same long totals lined line = line
ledger_by (Some change) octets limits limits' usage' book book' ledger ledger' same long totals lined line = by book.standing refl lined line
  where
    by : (s : Standing) → book.standing ≡ s → BookBy s change octets limits book book' → LedgerBy s change octets limits book book'.standing ledger ledger' → LineAt (Some change) octets (folded limits' usage') s ledger book'.standing ledger'
    by Doubt is lined line = line
    by Settled is lined line =
        subst (λ n. LineLedger (has_room n (line_by change octets)) (line_by change octets) (folded limits' usage') ledger book'.standing ledger') (long is)
        (text_swap (has_room book.length (line_by change octets)) (line_by change octets) (folded limits (totals_by change octets book.totals)) (folded limits' usage') ledger ledger' book'.standing
        (λ room settled. ap (folded limits) (sym (ap (λ (b : Book). b.totals) (lined.0 ∙ ap (changed_book change octets limits book) settled)) ∙ totals settled) ∙ ap (λ l. folded l usage') (sym same)) line)

line_past : (change : Option Change) (octets : ℕ) (text : List ℕ) (standing standing' : Standing) (ledger ledger' : Option (List ℕ)) → standing ≡ Doubt → ledger' ≡ ledger
    → LineAt change octets text standing ledger standing' ledger'
line_past None octets text standing standing' ledger ledger' doubt same = same
line_past (Some change) octets text standing standing' ledger ledger' doubt same = rw doubt same

-- the length of a settled root's ledger is known, also after a row of the files has changed
pub long_shown : (l : Live) (account : Account) (shows : Shows l account) (files1 : Files) → ((root : ℕ) → ledger_at files1 root ≡ ledger_at shows.told.files root)
    → (root : ℕ) → (book_at l.books root).standing ≡ Settled → length (ledger_bytes files1 root) ≡ (book_at l.books root).length
long_shown l account shows files1 same root settled = elim (cases_lt root (length l.roots)) [
  | inl inside ↦ ap (λ b. length (bytes_of b)) (same root) ∙ sym (shows.stands.kept root inside settled).long
  | inr far ↦
      let e : Settled ≡ Doubt = sym settled ∙ ap (λ (b : Book). b.standing) (get_or_past l.books root no_book (omega (arith, shows.whole.kept.each, shows.whole.limits, far))) in
      absurd (cc)
]

module _ (call : Call) (l : Live) (leaving coming : Option Message) (octets deliveries' generation' : ℕ) (told1 told' : Option Told) (faults1 faults' appends1 appends' lists' : ℕ) (books' : List Book)
    (moves : (account : Account) → Shows l account → Moves leaving coming octets deliveries' generation' account (step l.roots account call))
    (shifted : Changes (OnFiles (FilesShifted l.mailboxes leaving coming)) l.told told1)
    (lined : BooksLined (length l.roots) (change_at l.roots (box_of leaving) (box_of coming)) octets l.limits l.books books')
    (lines : Changes (OnFiles (LedgersLined (length l.roots) (change_at l.roots (box_of leaving) (box_of coming)) octets l.limits l.books books')) told1 told') where
  abbrev l' : Live
  l' = with_lines l told' faults' appends' lists' books' deliveries' generation'

  abbrev changes : ℕ → Option Change
  changes = change_at l.roots (box_of leaving) (box_of coming)

  module _ (account : Account) (shows : Shows l account) where
    stands_at : (files1 files' : Files) → FilesShifted l.mailboxes leaving coming shows.told.files files1
        → LedgersLined (length l.roots) changes octets l.limits l.books books' files1 files' → Stands l' (step l.roots account call) files'
    stands_at files1 files' s n =
        stands_shifted l leaving coming octets deliveries' generation' account (step l.roots account call) shows told' faults' appends' lists' books' files1 files' (moves account shows) s.rows s.ledgers lined n

    pub stands_lined : StandsIfTold l' (step l.roots account call)
    stands_lined =
        let a = told_then (OnFiles (FilesShifted l.mailboxes leaving coming)) l.told told1 shows.told shows.is_told shifted in
        let b = told_then (OnFiles (LedgersLined (length l.roots) changes octets l.limits l.books books')) told1 told' a.0 a.1 lines in
        subst (λ o. IfSome o (λ (t : Told). Stands l' (step l.roots account call) t.files)) (sym b.1) (stands_at a.0.files b.0.files a.2 b.2)

    one_line : (files1 files' : Files) → FilesShifted l.mailboxes leaving coming shows.told.files files1 → LedgersLined (length l.roots) changes octets l.limits l.books books' files1 files'
        → LinesAt l.roots (step l.roots account call) (box_of leaving) (box_of coming) octets (standings_of l.books) (standings_of books') shows.told.files files'
    one_line files1 files' s n root =
        let after = step l.roots account call in
        let files = shows.told.files in
        let each = shows.whole.kept.each ∙ shows.whole.limits in
        let stands = stands_at files1 files' s n in
        elim (cases_lt root (length l.roots)) [
          | inl inside ↦
              rw (standing_of l.books root, standing_of books' root)
              (subst (λ (x : Option (List ℕ)). LineAt (changes root) octets (folded (limits_at after.limits root) (usage_at l.roots root after)) (book_at l.books root).standing x (book_at books' root).standing (ledger_at files' root)) (s.ledgers root)
              (ledger_by (changes root) octets (limits_at l.limits root) (limits_at after.limits root) (usage_at l.roots root after) (book_at l.books root) (book_at books' root) (ledger_at files1 root) (ledger_at files' root)
              (ap (λ ls. limits_at ls root) stands.limits_are) (λ settled. sym (long_shown l account shows files1 s.ledgers root settled)) (λ settled. (stands.kept root inside settled).totals) (lined.done root inside) (n.done root inside)))
          | inr far ↦
              line_past (changes root) octets _ _ _ _ _ (standing_of l.books root ∙ ap (λ (b : Book). b.standing) (get_or_past l.books root no_book (omega (arith, each, far)))) (n.left root far ∙ s.ledgers root)
        ]

    pub ledgers_lined : Changes (OnFiles (LinesAt l.roots (step l.roots account call) (box_of leaving) (box_of coming) octets (standings_of l.books) (standings_of books'))) l.told told'
    ledgers_lined =
        changes_from (OnFiles (FilesShifted l.mailboxes leaving coming)) (OnFiles (LedgersLined (length l.roots) changes octets l.limits l.books books')) _ l.told told1 told' shows.told shows.is_told shifted lines
        (λ y z s n. one_line y.files z.files s n)

  module _ (each : length l.books ≡ length l.roots) (calm : faults1 ≡ l.faults) (still : appends1 ≡ l.append_faults)
      (causes : HasCauses (fell_below (length l.roots) false changes octets l.books books') faults1 faults') (appends : HasCauses (fell_below (length l.roots) true changes octets l.books books') appends1 appends') where
    pub writes_lined : WritesLines (Shows l) call (box_of leaving) (box_of coming) octets (store_of l) (store_of l')
    writes_lined = record {
      count = standings_count l.books books' lined.count;
      standings = line_standings l.roots changes octets l.limits l.books books' lined each;
      ledgers = ledgers_lined;
      faults = fell_seen l.roots changes octets l.limits l.books books' lined false l.faults faults1 faults' calm causes;
      appends = fell_seen l.roots changes octets l.limits l.books books' lined true l.append_faults appends1 appends' still appends;
    }

    -- a call that was replied to, and whose file and lines were written
    pub acts_lined : (bytes : List ℕ) (given : Reply) → ((account : Account) → Shows l account → given ≡ reply_of l.roots account call) → HasForm l.roots l.mailboxes call given → misses given ≡ false
        → (WritesLines (Shows l) call (box_of leaving) (box_of coming) octets (store_of l) (store_of l') → WritesSo (Shows l) call (writing call given) (store_of l) (store_of l'))
        → Changes (OnFiles (λ files files1. RowsFor l.epoch call bytes given files.rows files1.rows)) l.told told1
        → deliveries' ≤ l.deliveries + 1 → generation' ≤ l.generation + 1
        → Due ⊥ l.faults l.append_faults faults1 appends1 l.told told1 → Due ⊥ faults1 appends1 faults' appends' told1 told'
        → Acts call bytes (Ok given) l l'
    acts_lined bytes given reply form there wrote rows few fewer due1 due2 = record {
      keeps = record { roots = refl; mailboxes = refl; epoch = refl };
      reply = reply;
      form = form;
      there = there;
      writes = wrote writes_lined;
      rows = changes_then {X = Told} _ _ _ (λ (x y z : Told) r n. subst (λ rs. RowsFor l.epoch call bytes given x.files.rows rs) (sym (rows_same y.files z.files n.same)) r) l.told told1 told' rows lines;
      stands = stands_lined;
      counts = (few, fewer);
      later = record { faults = omega (arith, calm, causes.later); appends = omega (arith, still, appends.later) };
      cause = λ e. absurd (cc);
      due = spends_not ⊥ _ _ _ _ _ (λ e. absurd (let i : Ok given ≡ Err StoreError = e in cc)) (spends_then ⊥ ⊥ _ _ _ _ _ _ (omega (arith, calm, still)) due1 due2);
      never_full = λ limit e. absurd (cc);
    }

-- what is known of what was told goes along
pub changes_known : (Q : Told → Type 0) (R S : Told → Told → Type 0) (a b : Option Told) → IfSome a Q → Changes R a b → ((x y : Told) → Q x → R x y → S x y) → Changes S a b
changes_known Q R S None None q r then = tt
changes_known Q R S None (Some y) q r then = absurd r
changes_known Q R S (Some x) None q r then = absurd r
changes_known Q R S (Some x) (Some y) q r then = then x y q r

-- the length of each settled root's ledger is known, also after a row of the files has changed
pub long_after : (l : Live) (leaving coming : Option Message) (told1 : Option Told) → IsShown l → Changes (OnFiles (FilesShifted l.mailboxes leaving coming)) l.told told1 → AreLong l.books told1
long_after l leaving coming told1 shown shifted root settled = by l.told told1 refl shown shifted
  where
    by : (o p : Option Told) → l.told ≡ o → IfSome o (λ told. (account : Account) × Shows l account) → Changes (OnFiles (FilesShifted l.mailboxes leaving coming)) o p
        → IfSome p (λ t. length (ledger_bytes t.files root) ≡ (book_at l.books root).length)
    by None None is given s = tt
    by None (Some y) is given s = absurd s
    by (Some x) None is given s = absurd s
    by (Some x) (Some y) is given s =
        let e : given.1.told ≡ x = let i : Some given.1.told ≡ Some x = sym given.1.is_told ∙ is in cc in
        long_shown l given.0 given.1 y.files (λ r. s.ledgers r ∙ ap (λ (t : Told). ledger_at t.files r) (sym e)) root settled

-- a call that was replied to and changed a file, but no ledger and no count
pub acts_filed : (call : Call) (l : Live) (leaving coming : Option Message) (octets : ℕ) (told1 : Option Told) (faults1 lists' : ℕ)
    → ((account : Account) → Shows l account → Moves leaving coming octets l.deliveries l.generation account (step l.roots account call))
    → Changes (OnFiles (FilesShifted l.mailboxes leaving coming)) l.told told1
    → BooksLined (length l.roots) (change_at l.roots (box_of leaving) (box_of coming)) octets l.limits l.books l.books
    → Changes (OnFiles (LedgersLined (length l.roots) (change_at l.roots (box_of leaving) (box_of coming)) octets l.limits l.books l.books)) told1 told1
    → faults1 ≡ l.faults → (bytes : List ℕ) (given : Reply) → ((account : Account) → Shows l account → given ≡ reply_of l.roots account call) → HasForm l.roots l.mailboxes call given → misses given ≡ false
    → writing call given ≡ nothing → Changes (OnFiles (λ files files1. RowsFor l.epoch call bytes given files.rows files1.rows)) l.told told1 → Due ⊥ l.faults l.append_faults faults1 l.append_faults l.told told1
    → Acts call bytes (Ok given) l (with_lines l told1 faults1 l.append_faults lists' l.books l.deliveries l.generation)
acts_filed call l leaving coming octets told1 faults1 lists' moves shifted lined lines calm bytes given reply form there quiet rows due = record {
  keeps = record { roots = refl; mailboxes = refl; epoch = refl };
  reply = reply;
  form = form;
  there = there;
  writes = subst (λ (w : Writing). WritesSo (Shows l) call w (store_of l) (store_of (with_lines l told1 faults1 l.append_faults lists' l.books l.deliveries l.generation))) (sym quiet) (
    record {
      standings = refl;
      ledgers = changes_weaken {X = Told} _ _ (λ (x y : Told) s root. s.ledgers root) l.told told1 shifted;
      appends = refl;
    },
    calm,
  );
  rows = rows;
  stands = stands_lined call l leaving coming octets l.deliveries l.generation told1 told1 faults1 faults1 l.append_faults l.append_faults lists' l.books moves shifted lined lines;
  counts = (omega arith, omega arith);
  later = record { faults = omega (arith, calm); appends = omega arith };
  cause = λ e. absurd (cc);
  due = spends_not ⊥ _ _ _ _ _ (λ e. absurd (let i : Ok given ≡ Err StoreError = e in cc)) due;
  never_full = λ limit e. absurd (cc);
}

-- the keeper has failed, and nothing changed
pub acts_failed : (call : Call) (bytes : List ℕ) (fault : StepError) (l : Live) (told1 : Option Told) (faults1 lists1 : ℕ) → Changes (OnFiles (λ files files'. files' ≡ files)) l.told told1
    → HasCause (fault ≡ StoreError) l.faults faults1 → Due (fault ≡ StoreError) l.faults l.append_faults faults1 l.append_faults l.told told1 → ((limit : ℕ) → fault ≢ JournalFull limit)
    → Acts call bytes (Err fault) l (with_books l told1 faults1 lists1 l.books)
acts_failed call bytes fault l told1 faults1 lists1 same cause due full = record {
  keeps = record { roots = refl; mailboxes = refl; epoch = refl };
  reply = tt;
  form = tt;
  there = tt;
  writes = wrote fault refl;
  rows = changes_weaken {X = Told} _ _ (λ (x y : Told) e. ap (λ (f : Files). f.rows) e) l.told told1 same;
  stands = λ account shows. files_still l told1 account shows faults1 lists1 same;
  counts = (refl, refl);
  later = record { faults = cause.later; appends = omega arith };
  cause = λ e. cause.rose (same_fault e);
  due = spends_not (fault ≡ StoreError) _ _ _ _ _ same_fault due;
  never_full = λ limit e. full limit (same_fault e);
}
  where
    same_fault : {x y : StepError} → (let r : Result Reply StepError = Err x in r) ≡ Err y → x ≡ y
    same_fault e = cc

    stay : LedgersStay (store_of l) (store_of (with_books l told1 faults1 lists1 l.books))
    stay = record { standings = refl; ledgers = changes_weaken {X = Told} _ _ (λ (x y : Told) e root. ap (λ f. ledger_at f root) e) l.told told1 same; appends = refl }

    wrote : (f : StepError) → fault ≡ f → WritesBy (Shows l) call (Err f) (store_of l) (store_of (with_books l told1 faults1 lists1 l.books))
    wrote StoreError is = stay
    wrote NoMemory is = (stay, cause.kept (λ e. let i : NoMemory ≡ StoreError = sym is ∙ e in cc))
    wrote (JournalFull limit) is = absurd (full limit is)

-- a call that was replied to, and changed nothing
pub acts_still : (call : Call) (bytes : List ℕ) (given : Reply) (l : Live) → ((account : Account) → Shows l account → given ≡ reply_of l.roots account call) → HasForm l.roots l.mailboxes call given
    → misses given ≡ false → writing call given ≡ nothing → Changes (OnFiles (λ files files1. RowsFor l.epoch call bytes given files.rows files1.rows)) l.told l.told
    → ((account : Account) → Shows l account → step l.roots account call ≡ account) → Acts call bytes (Ok given) l l
acts_still call bytes given l reply form there quiet rows leaves = record {
  keeps = record { roots = refl; mailboxes = refl; epoch = refl };
  reply = reply;
  form = form;
  there = there;
  writes = subst (λ (w : Writing). WritesSo (Shows l) call w (store_of l) (store_of l)) (sym quiet) (stay_same (store_of l), refl);
  rows = rows;
  stands = λ account shows. subst (λ a. StandsIfTold l a) (sym (leaves account shows)) (subst (λ o. IfSome o (λ told. Stands l account told.files)) (sym shows.is_told) shows.stands);
  counts = (omega arith, omega arith);
  later = record { faults = omega arith; appends = omega arith };
  cause = λ e. absurd (cc);
  due = spends_none (let r : Result Reply StepError = Ok given in r ≡ Err StoreError) (l.faults + l.append_faults) l.told (λ e. absurd (let i : Ok given ≡ Err StoreError = e in cc));
  never_full = λ limit e. absurd (cc);
}
