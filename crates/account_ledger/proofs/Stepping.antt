-- From the steps of a call to all that it does.
use Rattle.std.proofs.Common.{◌≡◌, ◌≢◌, ℕ, ◌+◌, Bool, true, false, List, Option, refl, sym, ap, ◌∙◌, subst, arith, inl, inr}
use Rattle.std.specs.Prelude.{Result, Ok, Err, IfOk, IfSome}
use Rattle.quota_units.specs.Causes.{Rose, next_count}
use Rattle.quota_roots.specs.declared.root.RootSpec.{RootSpec}
use Rattle.keeper.specs.Files.{Files, Row, ledger_at}
use Rattle.keeper.specs.Calls.{Told, Changes, Due, OnFiles}
use Rattle.keeper.proofs.Changing.{changes_then, changes_weaken, changes_same}
use Rattle.keeper.proofs.LedgerLemmas.{rows_same}
use Rattle.keeper.proofs.Spending.{spends_then, spends_not, spends_none}
use Rattle.account_core.specs.declared.calls.Call.{Call}
use Rattle.account_core.specs.declared.calls.Reply.{Reply}
use Rattle.account_core.specs.declared.calls.StepError.{StepError}
use Rattle.account_core.specs.declared.calls.StepError.TheVariants.{Store as StoreError, NoMemory, JournalFull}
use Rattle.account_core.specs.Account.{Account}
use Rattle.account_core.specs.Forms.{HasForm}
use Rattle.account_core.specs.Machine.{reply_of, step}
use Rattle.root_ledgers.specs.declared.book.Book.{Book}
use Rattle.root_ledgers.specs.declared.book.Standing.{Standing}
use Rattle.root_ledgers.specs.Settling.{MarksOne, standings_of}
use Rattle.account_ledger.specs.Stores.{Agrees, Store}
use Rattle.account_ledger.specs.Settling.{AreFolded, AreSettled, LedgersStay, SettledFor, SettlesLedgers, SettlesSome, LedgersAndFaultsStay, needs}
use Rattle.account_ledger.specs.Writing.{Spares, Writing, WritesBy, WritesLines, WritesSo, limits_of, line, misses, named_line, nothing, writing}
use Rattle.account_ledger.specs.Filing.{RowsBy, RowsFor}
use Rattle.account_ledger.specs.Performing.{ListsFor, Performs}
use Rattle.account_ledger.specs.Lives.{Acts, Counted, StandsIfTold, IsWhole, Live, Looks, Prepares, Shows, Stands, Steps, store_of}
use Rattle.account_ledger.proofs.Showing.{agrees_then, ok_is_no_err, shows_then}
use Rattle.account_ledger.proofs.Settled.{files_still, looks_prepare, prepares_said, settles_none, with_books}

-- facts that hold of an account hold where it is known in another way
module _ (Is Is1 : Account → Type 0) (weaker : (account : Account) → Is account → Is1 account) (call : Call) (f f' : Store) where
  lines_map : (from to : Option (List ℕ)) (octets : ℕ) → WritesLines Is1 call from to octets f f' → WritesLines Is call from to octets f f'
  lines_map from to octets w = record {
    count = w.count;
    standings = w.standings;
    ledgers = λ account is. w.ledgers account (weaker account is);
    faults = w.faults;
    appends = w.appends;
  }

  so_map : (w : Writing) → WritesSo Is1 call w f f' → WritesSo Is call w f f'
  so_map nothing calm = calm
  so_map (line from to octets) w = lines_map from to octets w
  so_map (named_line mailbox base from to) w = record {
    octets = w.octets;
    named = λ account is. w.named account (weaker account is);
    lines = lines_map from to w.octets w.lines;
  }
  so_map (limits_of row) w = w

  pub writes_map : (result : Result Reply StepError) → WritesBy Is1 call result f f' → WritesBy Is call result f f'
  writes_map (Ok given) w = so_map (writing call given) w
  writes_map (Err StoreError) w = w
  writes_map (Err NoMemory) w = w
  writes_map (Err (JournalFull limit)) w = w

  pub replies_map : (roots : List RootSpec) (result : Result Reply StepError) → IfOk result (λ given. (account : Account) → Is1 account → given ≡ reply_of roots account call)
      → IfOk result (λ given. (account : Account) → Is account → given ≡ reply_of roots account call)
  replies_map roots (Ok given) reply = λ account is. reply account (weaker account is)
  replies_map roots (Err fault) reply = tt

pub some_map : (Is Is1 : Account → Type 0) → ((account : Account) → Is account → Is1 account) → (may : ℕ → Bool) (f f' : Store) → SettlesSome Is1 may f f' → SettlesSome Is may f f'
some_map Is Is1 weaker may f f' s = record { files = s.files; texts = λ account is. s.texts account (weaker account is); count = s.count; each = s.each; appends = s.appends }

-- all that a call does
module _ (Is Is1 : Account → Type 0) (weaker : (account : Account) → Is account → Is1 account) (call : Call) (bytes : List ℕ) (result : Result Reply StepError) (f f' : Store) where
  pub performs_map : Performs Is1 call bytes result f f' → Performs Is call bytes result f f'
  performs_map p =
      let g = p.ledgers in
      record {
        keeps = p.keeps;
        reply = replies_map Is Is1 weaker call f f' f.roots result p.reply;
        form = p.form;
        ledgers = record {
          middle = g.middle;
          keeps = g.keeps;
          agrees = λ account is. g.agrees account (weaker account is);
          settles = some_map Is Is1 weaker (needs f.roots call) f g.middle g.settles;
          settled = g.settled;
          later = g.later;
          calm = g.calm;
          writes = writes_map Is Is1 weaker call g.middle f' result g.writes;
        };
        rows = p.rows;
        spared = p.spared;
        due = p.due;
        later = p.later;
        cause = p.cause;
        lists = p.lists;
        never_full = p.never_full;
      }

counted_same : (result : Result Reply StepError) (a b l' : Live) → a.deliveries ≡ b.deliveries → a.generation ≡ b.generation → Counted result a l' → Counted result b l'
counted_same (Ok given) a b l' d g counts = (omega (arith, d, counts.0), omega (arith, g, counts.1))
counted_same (Err fault) a b l' d g counts = (counts.0 ∙ d, counts.1 ∙ g)

-- nothing changes
same_ledgers : (t t' : Option Told) → Changes (OnFiles (λ files files'. files' ≡ files)) t t' → Changes (OnFiles (λ files files'. (root : ℕ) → ledger_at files' root ≡ ledger_at files root)) t t'
same_ledgers t t' = changes_weaken {X = Told} _ _ (λ (x y : Told) e root. ap (λ f. ledger_at f root) e) t t'

pub stay_same : (f : Store) → LedgersStay f f
stay_same f = record {
  standings = refl;
  ledgers = changes_same {X = Told} (OnFiles (λ files files'. (root : ℕ) → ledger_at files' root ≡ ledger_at files root)) (λ (x : Told) root. refl) f.told;
  appends = refl;
}

writes_nothing : (Is : Account → Type 0) (call : Call) (fault : StepError) (f : Store) → WritesBy Is call (Err fault) f f
writes_nothing Is call StoreError f = stay_same f
writes_nothing Is call NoMemory f = (stay_same f, refl)
writes_nothing Is call (JournalFull limit) f = (stay_same f, refl)

-- the call was not made, or nothing was to be settled
pub prepares_same : (failed : Type 0) (may : ℕ → Bool) (l : Live) → ¬ failed → Prepares failed may l l
prepares_same failed may l not = record {
  same = refl;
  settles = settles_none (Shows l) may l l.told l.faults l.lists (changes_same {X = Told} (OnFiles (λ files files'. files' ≡ files)) (λ (x : Told). refl) l.told);
  stands = λ account shows. subst (λ o. IfSome o (λ told. Stands l account told.files)) (sym shows.is_told) shows.stands;
  cause = record { later = omega arith; rose = λ f. absurd (not f); kept = λ n. refl };
  due = spends_none failed (l.faults + l.append_faults) l.told not;
}

pub calm_looked : (failed : Type 0) (l m : Live) → Looks failed l m → ¬ failed → LedgersAndFaultsStay (store_of l) (store_of m)
calm_looked failed l m looks not =
    subst (λ (x : Live). LedgersAndFaultsStay (store_of l) (store_of x)) (sym looks.same)
    (record { standings = refl; ledgers = same_ledgers l.told m.told looks.files; appends = refl }, looks.cause.kept not)

-- the roots that a call needs are settled when it is replied to
settled_ok : (result : Result Reply StepError) (may : ℕ → Bool) (f f' : Store) → IfOk result (λ given. misses given ≡ false) → AreSettled may f' → IfOk result (λ given. SettledFor (misses given) may f f')
settled_ok (Ok given) may f f' there all = subst (λ b. SettledFor b may f f') (sym there) all
settled_ok (Err fault) may f f' there all = tt

-- rows and failures over what is settled first
rows_then : (may : ℕ → Bool) (epoch : ℕ) (call : Call) (bytes : List ℕ) (result : Result Reply StepError) (f m f' : Store) → Changes (OnFiles (SettlesLedgers may f.standings m.standings)) f.told m.told
    → Changes (OnFiles (λ files files'. RowsBy epoch call bytes result files.rows files'.rows)) m.told f'.told → Changes (OnFiles (λ files files'. RowsBy epoch call bytes result files.rows files'.rows)) f.told f'.told
rows_then may epoch call bytes result f m f' settled rows =
    changes_then {X = Told} _ _ _ (λ (x y z : Told) first next. subst (λ rs. RowsBy epoch call bytes result rs z.files.rows) (rows_same x.files y.files first.same) next) f.told m.told f'.told settled rows

module _ (call : Call) (bytes : List ℕ) (l : Live) (told1 : Option Told) (faults1 lists1 : ℕ) (books1 : List Book) where
  abbrev m : Live
  m = with_books l told1 faults1 lists1 books1

  module _ (failed : Type 0) (prep : Prepares failed (needs l.roots call) l m) (whole : IsWhole m) where
    shows_m : (account : Account) → Shows l account → Shows m account
    shows_m account shows = shows_then (OnFiles (SettlesLedgers (needs l.roots call) (standings_of l.books) (standings_of books1))) l m account shows whole prep.settles.files (prep.stands account shows)

    agrees_m : Agrees (Shows l) (store_of m)
    agrees_m = agrees_then (OnFiles (SettlesLedgers (needs l.roots call) (standings_of l.books) (standings_of books1))) l m whole prep.settles.files prep.stands

    acted : (result : Result Reply StepError) (l' : Live) → ¬ failed → AreSettled (needs l.roots call) (store_of m) → Acts call bytes result m l'
        → (result ≡ Err NoMemory → Spares call (store_of l) (store_of l')) → ListsFor call l.lists l'.lists → Steps call bytes result l l'
    acted result l' not settled acts spared lists = record {
      performs = record {
        keeps = record { roots = acts.keeps.roots; mailboxes = acts.keeps.mailboxes; epoch = acts.keeps.epoch };
        reply = replies_map (Shows l) (Shows m) shows_m call (store_of m) (store_of l') l.roots result acts.reply;
        form = acts.form;
        ledgers = record {
          middle = store_of m;
          keeps = record { roots = refl; mailboxes = refl; epoch = refl };
          agrees = agrees_m;
          settles = prep.settles;
          settled = settled_ok result (needs l.roots call) (store_of l) (store_of m) acts.there settled;
          later = prep.cause.later;
          calm = λ other. prep.cause.kept not;
          writes = writes_map (Shows l) (Shows m) shows_m call (store_of m) (store_of l') result acts.writes;
        };
        rows = rows_then (needs l.roots call) l.epoch call bytes result (store_of l) (store_of m) (store_of l') prep.settles.files acts.rows;
        spared = spared;
        due = spends_then failed (result ≡ Err StoreError) _ _ _ _ _ _ (omega (arith, prep.cause.later)) prep.due acts.due;
        later = record { faults = omega (arith, prep.cause.later, acts.later.faults); appends = acts.later.appends };
        cause = λ is. subst (λ n. Rose n l'.faults) (prep.cause.kept not) (acts.cause is);
        lists = lists;
        never_full = acts.never_full;
      };
      stands = λ account shows. acts.stands account (shows_m account shows);
      counts = counted_same result m l l' refl refl acts.counts;
    }

    answered : (given : Reply) → ¬ failed → SettledFor (misses given) (needs l.roots call) (store_of l) (store_of m)
        → ((account : Account) → Shows l account → given ≡ reply_of l.roots account call) → HasForm l.roots l.mailboxes call given
        → ((account : Account) → Shows l account → step l.roots account call ≡ account) → writing call given ≡ nothing
        → ((rows : List Row) → RowsFor l.epoch call bytes given rows rows) → ListsFor call l.lists lists1 → Steps call bytes (Ok given) l m
    answered given not settled reply form leaves quiet rows lists = record {
      performs = record {
        keeps = record { roots = refl; mailboxes = refl; epoch = refl };
        reply = reply;
        form = form;
        ledgers = record {
          middle = store_of m;
          keeps = record { roots = refl; mailboxes = refl; epoch = refl };
          agrees = agrees_m;
          settles = prep.settles;
          settled = settled;
          later = prep.cause.later;
          calm = λ other. prep.cause.kept not;
          writes = subst (λ (w : Writing). WritesSo (Shows l) call w (store_of m) (store_of m)) (sym quiet) (stay_same (store_of m), refl);
        };
        rows = changes_weaken {X = Told} _ _ (λ (x y : Told) s. subst (λ rs. RowsFor l.epoch call bytes given x.files.rows rs) (sym (rows_same x.files y.files s.same)) (rows x.files.rows)) l.told told1 prep.settles.files;
        spared = λ e. absurd (cc);
        due = spends_not failed _ _ _ _ _ (λ e. absurd (let i : Ok given ≡ Err StoreError = e in cc)) prep.due;
        later = record { faults = prep.cause.later; appends = omega arith };
        cause = λ e. absurd (cc);
        lists = lists;
        never_full = λ limit e. absurd (cc);
      };
      stands = λ account shows. subst (λ a. StandsIfTold m a) (sym (leaves account shows)) (prep.stands account shows);
      counts = (omega arith, omega arith);
    }

  erred : (fault : StepError) → Prepares (fault ≡ StoreError) (needs l.roots call) l m → IsWhole m → (fault ≡ NoMemory → LedgersAndFaultsStay (store_of l) (store_of m)) → ((limit : ℕ) → fault ≢ JournalFull limit)
      → ListsFor call l.lists lists1 → Steps call bytes (Err fault) l m
  erred fault prep whole calm full lists = record {
    performs = record {
      keeps = record { roots = refl; mailboxes = refl; epoch = refl };
      reply = tt;
      form = tt;
      ledgers = record {
        middle = store_of m;
        keeps = record { roots = refl; mailboxes = refl; epoch = refl };
        agrees = agrees_m (fault ≡ StoreError) prep whole;
        settles = prep.settles;
        settled = tt;
        later = prep.cause.later;
        calm = λ other. prep.cause.kept (λ e. other (ap (λ (x : StepError). Err x) e));
        writes = writes_nothing (Shows l) call fault (store_of m);
      };
      rows = changes_weaken {X = Told} _ _ (λ (x y : Told) s. rows_same x.files y.files s.same) l.told told1 prep.settles.files;
      spared = λ e. inl (calm (same_fault e));
      due = spends_not (fault ≡ StoreError) _ _ _ _ _ same_fault prep.due;
      later = record { faults = prep.cause.later; appends = omega arith };
      cause = λ e. prep.cause.rose (same_fault e);
      lists = lists;
      never_full = λ limit e. full limit (same_fault e);
    };
    stands = prep.stands;
    counts = (refl, refl);
  }
    where
      same_fault : {x y : StepError} → (let a : Result Reply StepError = Err x in a) ≡ Err y → x ≡ y
      same_fault e = cc

-- the same of what the roots are settled to
pub steps_then : (call : Call) (bytes : List ℕ) (result : Result Reply StepError) (failed : Type 0) (l m l' : Live) → ¬ failed → Prepares failed (needs l.roots call) l m → IsWhole m
    → AreSettled (needs l.roots call) (store_of m) → Acts call bytes result m l' → (result ≡ Err NoMemory → Spares call (store_of l) (store_of l')) → ListsFor call l.lists l'.lists → Steps call bytes result l l'
steps_then call bytes result failed l m l' not prep whole settled acts spared lists =
    subst (λ (x : Live). Prepares failed (needs l.roots call) l x → IsWhole x → AreSettled (needs l.roots call) (store_of x) → Acts call bytes result x l' → Steps call bytes result l l') (sym prep.same)
    (λ p w s a. acted call bytes l m.told m.faults m.lists m.books failed p w result l' not s a spared lists) prep whole settled acts

pub steps_answered : (call : Call) (bytes : List ℕ) (given : Reply) (failed : Type 0) (l m : Live) → ¬ failed → Prepares failed (needs l.roots call) l m → IsWhole m
    → SettledFor (misses given) (needs l.roots call) (store_of l) (store_of m)
    → ((account : Account) → Shows l account → given ≡ reply_of l.roots account call) → HasForm l.roots l.mailboxes call given
    → ((account : Account) → Shows l account → step l.roots account call ≡ account) → writing call given ≡ nothing
    → ((rows : List Row) → RowsFor l.epoch call bytes given rows rows) → ListsFor call l.lists m.lists → Steps call bytes (Ok given) l m
steps_answered call bytes given failed l m not prep whole settled reply form leaves quiet rows lists =
    subst (λ (x : Live). Prepares failed (needs l.roots call) l x → IsWhole x → SettledFor (misses given) (needs l.roots call) (store_of l) (store_of x) → ListsFor call l.lists x.lists → Steps call bytes (Ok given) l x) (sym prep.same)
    (λ p w s n. answered call bytes l m.told m.faults m.lists m.books failed p w given not s reply form leaves quiet rows n) prep whole settled lists

pub steps_err : (call : Call) (bytes : List ℕ) (fault : StepError) (l m : Live) → Prepares (fault ≡ StoreError) (needs l.roots call) l m → IsWhole m → (fault ≡ NoMemory → LedgersAndFaultsStay (store_of l) (store_of m))
    → ((limit : ℕ) → fault ≢ JournalFull limit) → ListsFor call l.lists m.lists → Steps call bytes (Err fault) l m
steps_err call bytes fault l m prep whole calm full lists =
    subst (λ (x : Live). Prepares (fault ≡ StoreError) (needs l.roots call) l x → IsWhole x → (fault ≡ NoMemory → LedgersAndFaultsStay (store_of l) (store_of x)) → ListsFor call l.lists x.lists → Steps call bytes (Err fault) l x) (sym prep.same)
    (λ p w c n. erred call bytes l m.told m.faults m.lists m.books fault p w c full n) prep whole calm lists

-- there was no memory before anything was done
pub steps_spared : (call : Call) (bytes : List ℕ) (l : Live) → IsWhole l → ListsFor call l.lists l.lists → Steps call bytes (Err NoMemory) l l
steps_spared call bytes l whole lists =
    steps_err call bytes NoMemory l l (prepares_same (NoMemory ≡ StoreError) (needs l.roots call) l (λ e. cc)) whole (λ e. (stay_same (store_of l), refl)) (λ limit e. cc) lists

-- nothing is there that the call names
pub steps_refused : (call : Call) (bytes : List ℕ) (given : Reply) (l : Live) → IsWhole l → misses given ≡ true
    → ((account : Account) → Shows l account → given ≡ reply_of l.roots account call) → HasForm l.roots l.mailboxes call given
    → ((account : Account) → Shows l account → step l.roots account call ≡ account) → writing call given ≡ nothing
    → ((rows : List Row) → RowsFor l.epoch call bytes given rows rows) → ListsFor call l.lists l.lists → Steps call bytes (Ok given) l l
steps_refused call bytes given l whole missed reply form leaves quiet rows lists =
    steps_answered call bytes given ⊥ l l (λ f. f) (prepares_same ⊥ (needs l.roots call) l (λ f. f)) whole
    (subst (λ b. SettledFor b (needs l.roots call) (store_of l) (store_of l)) (sym missed) (stay_same (store_of l), refl)) reply form leaves quiet rows lists

-- a mailbox was listed first
module _ (call : Call) (bytes : List ℕ) (result : Result Reply StepError) (l : Live) (told1 : Option Told) (faults1 lists1 : ℕ) (same : Changes (OnFiles (λ files files'. files' ≡ files)) l.told told1)
    (calm : faults1 ≡ l.faults) (spends : Due ⊥ l.faults l.append_faults faults1 l.append_faults l.told told1) (l' : Live) where
  abbrev n : Live
  n = with_books l told1 faults1 lists1 l.books

  shows_n : (account : Account) → Shows l account → Shows n account
  shows_n account shows =
      shows_then (OnFiles (λ files files'. files' ≡ files)) l n account shows (record { limits = shows.whole.limits; kept = shows.whole.kept; mailboxes = shows.whole.mailboxes }) same
      (files_still l told1 account shows faults1 lists1 same)

  some_looked : (may : ℕ → Bool) (f : Store) → SettlesSome (Shows n) may (store_of n) f → SettlesSome (Shows l) may (store_of l) f
  some_looked may f s = record {
    files = changes_then {X = Told} _ _ _ (λ (x y z : Told) e t. subst (λ (fs : Files). SettlesLedgers may (standings_of l.books) f.standings fs z.files) e t) l.told told1 f.told same s.files;
    texts = λ account shows. changes_then {X = Told} _ _ _ (λ (x y z : Told) e t. subst (λ (fs : Files). AreFolded l.roots account (standings_of l.books) f.standings fs z.files) e t) l.told told1 f.told same (s.texts account (shows_n account shows));
    count = s.count;
    each = s.each;
    appends = s.appends;
  }

  stay_looked : (f : Store) → LedgersStay (store_of n) f → LedgersStay (store_of l) f
  stay_looked f s = record {
    standings = s.standings;
    ledgers = changes_then {X = Told} _ _ _ (λ (x y z : Told) e t root. t root ∙ ap (λ fs. ledger_at fs root) e) l.told told1 f.told same s.ledgers;
    appends = s.appends;
  }

  for_looked : (b : Bool) (may : ℕ → Bool) (f : Store) → SettledFor b may (store_of n) f → SettledFor b may (store_of l) f
  for_looked true may f (stay, still) = (stay_looked f stay, still ∙ calm)
  for_looked false may f all = all

  ok_looked : (r : Result Reply StepError) (may : ℕ → Bool) (f : Store) → IfOk r (λ given. SettledFor (misses given) may (store_of n) f) → IfOk r (λ given. SettledFor (misses given) may (store_of l) f)
  ok_looked (Ok given) may f settled = for_looked (misses given) may f settled
  ok_looked (Err fault) may f settled = tt

  spares_looked : Spares call (store_of n) (store_of l') → Spares call (store_of l) (store_of l')
  spares_looked (inl (stay, still)) = inl (stay_looked (store_of l') stay, still ∙ calm)
  spares_looked (inr all) = inr all

  looked : Steps call bytes result n l' → ListsFor call l.lists l'.lists → Steps call bytes result l l'
  looked s lists =
      let p = s.performs in
      let g = p.ledgers in
      record {
        performs = record {
          keeps = record { roots = p.keeps.roots; mailboxes = p.keeps.mailboxes; epoch = p.keeps.epoch };
          reply = replies_map (Shows l) (Shows n) shows_n call (store_of n) (store_of l') l.roots result p.reply;
          form = p.form;
          ledgers = record {
            middle = g.middle;
            keeps = record { roots = g.keeps.roots; mailboxes = g.keeps.mailboxes; epoch = g.keeps.epoch };
            agrees = λ account shows. g.agrees account (shows_n account shows);
            settles = some_looked (needs l.roots call) g.middle g.settles;
            settled = ok_looked result (needs l.roots call) g.middle g.settled;
            later = omega (arith, g.later, calm);
            calm = λ other. g.calm other ∙ calm;
            writes = writes_map (Shows l) (Shows n) shows_n call g.middle (store_of l') result g.writes;
          };
          rows = changes_then {X = Told} _ _ _ (λ (x y z : Told) e t. subst (λ (fs : Files). RowsBy l.epoch call bytes result fs.rows z.files.rows) e t) l.told told1 l'.told same p.rows;
          spared = λ e. spares_looked (p.spared e);
          due = spends_then ⊥ (result ≡ Err StoreError) _ _ _ _ _ _ (omega (arith, calm)) spends p.due;
          later = record { faults = omega (arith, calm, p.later.faults); appends = p.later.appends };
          cause = λ e. subst (λ k. Rose k l'.faults) calm (p.cause e);
          lists = lists;
          never_full = p.never_full;
        };
        stands = λ account shows. s.stands account (shows_n account shows);
        counts = counted_same result n l l' refl refl s.counts;
      }

pub steps_looked : (call : Call) (bytes : List ℕ) (result : Result Reply StepError) (failed : Type 0) (l m l' : Live) → Looks failed l m → ¬ failed → Steps call bytes result m l' → ListsFor call l.lists l'.lists → Steps call bytes result l l'
steps_looked call bytes result failed l m l' looks not steps lists =
    looked call bytes result l m.told m.faults (next_count l.lists) looks.files (looks.cause.kept not)
    (subst (λ k. Due ⊥ l.faults l.append_faults m.faults k l.told m.told) (ap (λ (x : Live). x.append_faults) looks.same) (spends_not failed ⊥ _ _ _ _ (λ f. absurd f) looks.due))
    l' (subst (λ (x : Live). Steps call bytes result x l') looks.same steps) lists

pub not_failed : {A B : Type 0} {r : Result A B} {x : A} {y : B} → r ≡ Ok x → r ≡ Err y → ⊥
not_failed e f = ok_is_no_err (sym e ∙ f)

same_err : {A B : Type 0} {r : Result A B} {x y : B} → r ≡ Err x → r ≡ Err y → x ≡ y
same_err e f = err_is (sym e ∙ f)
  where
    err_is : {A B : Type 0} {x y : B} → (let r : Result A B = Err x in r) ≡ Err y → x ≡ y
    err_is e = cc

-- the roots that may be settled, said in another way
mark_may : (may may1 : Bool) (a b : Standing) → may ≡ may1 → MarksOne may a b → MarksOne may1 a b
mark_may may may1 a b same (inl stays) = inl stays
mark_may may may1 a b same (inr (is, doubt, settled)) = inr (sym same ∙ is, doubt, settled)

pub some_may : (Is : Account → Type 0) (may may1 : ℕ → Bool) (f f' : Store) → ((root : ℕ) → may root ≡ may1 root) → SettlesSome Is may f f' → SettlesSome Is may1 f f'
some_may Is may may1 f f' same s = record {
  files = changes_weaken {X = Told} _ _ (λ (x y : Told) l. record {
    same = l.same;
    each = λ root. elim (l.each root) [
      | inl stays ↦ inl stays
      | inr now ↦ inr (sym (same root) ∙ now.0, now.1, now.2)
    ];
  }) f.told f'.told s.files;
  texts = s.texts;
  count = s.count;
  each = λ root. mark_may (may root) (may1 root) _ _ (same root) (s.each root);
  appends = s.appends;
}

pub prepares_may : (failed : Type 0) (may may1 : ℕ → Bool) (l m : Live) → ((root : ℕ) → may root ≡ may1 root) → Prepares failed may l m → Prepares failed may1 l m
prepares_may failed may may1 l m same prep = record {
  same = prep.same;
  settles = some_may (Shows l) may may1 (store_of l) (store_of m) same prep.settles;
  stands = prep.stands;
  cause = prep.cause;
  due = prep.due;
}

-- settling failed, or there was no memory
pub steps_unsettled : {A : Type 0} (call : Call) (bytes : List ℕ) (result : Result A StepError) (may : ℕ → Bool) (l m : Live) → ((root : ℕ) → may root ≡ needs l.roots call root)
    → Prepares (result ≡ Err StoreError) may l m → (result ≡ Err NoMemory → LedgersAndFaultsStay (store_of l) (store_of m)) → ((limit : ℕ) → result ≢ Err (JournalFull limit)) → IsWhole m
    → (fault : StepError) → result ≡ Err fault → ListsFor call l.lists m.lists → Steps call bytes (Err fault) l m
steps_unsettled call bytes result may l m same prep spared full whole fault is lists =
    steps_err call bytes fault l m
    (prepares_said (result ≡ Err StoreError) (fault ≡ StoreError) (needs l.roots call) l m (same_err is) (λ e. is ∙ ap (λ (x : StepError). Err x) e) (prepares_may _ may (needs l.roots call) l m same prep))
    whole (λ e. spared (is ∙ ap (λ (x : StepError). Err x) e)) (λ limit e. full limit (is ∙ ap (λ (x : StepError). Err x) e)) lists

-- a mailbox could not be listed
pub steps_unlisted : {A : Type 0} (call : Call) (bytes : List ℕ) (result : Result A StepError) (l m : Live) → Looks (result ≡ Err StoreError) l m → ((limit : ℕ) → result ≢ Err (JournalFull limit)) → IsWhole m
    → (fault : StepError) → result ≡ Err fault → ListsFor call l.lists m.lists → Steps call bytes (Err fault) l m
steps_unlisted call bytes result l m looks full whole fault is lists =
    steps_unsettled call bytes result (needs l.roots call) l m (λ root. refl) (looks_prepare _ (needs l.roots call) l m looks)
    (λ e. calm_looked _ l m looks (λ f. let g : NoMemory ≡ StoreError = same_err e f in cc)) full whole fault is lists
