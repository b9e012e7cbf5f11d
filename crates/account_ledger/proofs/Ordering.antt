-- A state is in order, and stays so with each entry.
use Rattle.std.proofs.Common.{◌≡◌, ◌≢◌, ℕ, ◌+◌, ◌<◌, ◌≤◌, Bool, true, false, cond, List, [], ◌∷◌, ◌++◌, length, Option, Some, None, refl, sym, ap, ◌∙◌, subst, inl, arith}
use Rattle.std.specs.Prelude.{Result, Ok, Err, IfOk, IfSome}
use Rattle.std.specs.Option.{option_map}
use Rattle.std.proofs.lemmas.List.{length_push}
use Rattle.std.proofs.lemmas.List.Sums.{sum_by_push}
use Rattle.quota_units.specs.Causes.{Rose}
use Rattle.quota_units.specs.declared.totals.Totals.{Totals}
use Rattle.quota_roots.specs.declared.setup.Setup.{Setup}
use Rattle.keeper.specs.Calls.{Told, Changes, OnFiles}
use Rattle.account_core.specs.declared.calls.Call.{Call}
use Rattle.account_core.specs.declared.calls.Call.TheVariants.{Deliver, Check, Remove, Mark, Move, Quota, SetLimits, Roots, Status, ScanBegin, ScanPart, Install}
use Rattle.account_core.specs.declared.calls.Entry.{Entry}
use Rattle.account_core.specs.declared.calls.Reply.{Reply}
use Rattle.account_core.specs.declared.calls.StepError.{StepError}
use Rattle.account_core.specs.declared.calls.StepError.TheVariants.{Store as StoreError, NoMemory, JournalFull}
use Rattle.account_core.specs.Account.{Account}
use Rattle.account_core.specs.Forms.{HasForm}
use Rattle.account_core.specs.Machine.{reply_of}
use Rattle.account_core.specs.History.{replay, entry_of}
use Rattle.account_core.specs.Histories.{Origin}
use Rattle.account_core.specs.Legality.{AreServed, IsLegal, MayBeAsked, MayBeServed, fault_count}
use Rattle.account_core.specs.Logs.{Serves}
use Rattle.account_core.specs.Orderly.{IsOrderly}
use Rattle.account_core.proofs.Orderly.{replay_orderly}
use Rattle.account_core.proofs.Replaying.{replay_more}
use Rattle.account_ledger.specs.Opening.{opening_account, opening_of}
use Rattle.account_ledger.specs.Stores.{Store, usage_at}
use Rattle.account_ledger.specs.Performing.{ListsFor, Performs}
use Rattle.account_ledger.specs.Lives.{Counted, StandsIfTold, IsShown, IsWhole, Live, Prepares, Shows, Stands, Steps, after_call, store_of}
use Rattle.account_ledger.specs.Filing.{RowsBy}
use Rattle.root_ledgers.specs.Settling.{standings_of}
use Rattle.account_ledger.specs.Settling.{SettlesLedgers, SettlesSome}
use Rattle.account_ledger.specs.States.{Holds, InOrder, IsAccount, IsInOrder, OfAccount, ServesNext, State, entry_fault}
use Rattle.account_ledger.proofs.Showing.{agree_of}
use Rattle.account_ledger.proofs.Stepping.{performs_map, some_map}

abbrev pub origin_of : Option Told → Setup → ℕ → Live → Origin
origin_of then setup journal l = record { roots = l.roots; journal = journal; epoch = l.epoch; account = opening_of setup l.epoch then }

abbrev pub state_of : Option Told → ℕ → Setup → ℕ → Live → List Entry → State
state_of then first_faults setup journal l history =
    record { store = store_of l; origin = origin_of then setup journal l; history = history; first_faults = first_faults }

-- more entries
served_more : (history : List Entry) (entry : Entry) → AreServed history → MayBeServed entry.call → AreServed (history ++ entry ∷ [])
served_more [] entry served call = (call, tt)
served_more (first ∷ history) entry served call = (served.0, served_more history entry served.1 call)

faults_more : (history : List Entry) (entry : Entry) → fault_count (history ++ entry ∷ []) ≡ fault_count history + cond entry.fault 1 0
faults_more history entry = sum_by_push (λ (e : Entry). cond e.fault 1 0) history entry

asked_served : (call : Call) → MayBeAsked call → MayBeServed call
asked_served (Deliver mailbox octets flags) asked = asked
asked_served (Check octets) asked = tt
asked_served (Remove mailbox base) asked = tt
asked_served (Mark mailbox base flags) asked = tt
asked_served (Move from base to) asked = tt
asked_served (Quota name) asked = tt
asked_served (SetLimits name limits) asked = tt
asked_served (Roots mailbox) asked = tt
asked_served (Status mailbox) asked = tt
asked_served ScanBegin asked = tt
asked_served (ScanPart index) asked = tt
asked_served (Install generation) asked = absurd asked

pub lists_same : (call : Call) (lists : ℕ) → ListsFor call lists lists
lists_same (Deliver mailbox octets flags) lists = tt
lists_same (Check octets) lists = tt
lists_same (Remove mailbox base) lists = tt
lists_same (Mark mailbox base flags) lists = tt
lists_same (Move from base to) lists = tt
lists_same (Quota name) lists = tt
lists_same (SetLimits name limits) lists = tt
lists_same (Roots mailbox) lists = tt
lists_same (Status mailbox) lists = tt
lists_same ScanBegin lists = refl
lists_same (ScanPart index) lists = inl refl
lists_same (Install generation) lists = tt

module _ (then : Option Told) (first_faults : ℕ) (setup : Setup) (journal : ℕ) (l : Live) (history : List Entry) (order : InOrder then first_faults setup journal l history) (whole : IsWhole l) where
  abbrev s : State
  s = state_of then first_faults setup journal l history

  abbrev opening : Told → Account
  opening t = opening_account setup l.epoch t.files

  shows_at : (t n : Told) → l.told ≡ Some n → Holds setup l history t n → Shows l (replay l.roots (opening t) history)
  shows_at t n is held = record {
    told = n;
    is_told = is;
    whole = whole;
    stands = held.stands;
    entries = length history;
    few = omega (arith, order.legal.within, order.journal_is, order.sound.most_room);
    orderly = replay_orderly l.roots (opening t) history order.legal.served (omega (arith, order.legal.within, order.journal_is, order.sound.most_room)) held.orderly;
  }

  -- the account that the history makes is the one that is kept
  pub shows_account : (account : Account) → IsAccount s account → Shows l account
  shows_account account is = by then l.told refl order.held is
    where
      by : (t n : Option Told) → l.told ≡ n → Changes (Holds setup l history) t n → option_map (λ (o : Account). replay l.roots o history) (opening_of setup l.epoch t) ≡ Some account → Shows l account
      by None n e held is = absurd (cc)
      by (Some t) None e held is = absurd held
      by (Some t) (Some n) e held is = subst (Shows l) (same is) (shows_at t n e held)
        where
          same : {x y : Account} → Some x ≡ Some y → x ≡ y
          same f = cc

  pub is_shown : IsShown l
  is_shown = by then l.told refl order.held
    where
      by : (t n : Option Told) → l.told ≡ n → Changes (Holds setup l history) t n → IfSome n (λ told. (account : Account) × Shows l account)
      by None None e held = tt
      by None (Some n) e held = absurd held
      by (Some t) None e held = absurd held
      by (Some t) (Some n) e held = (replay l.roots (opening t) history, shows_at t n e held)

  pub order_seen : IsInOrder s
  order_seen = record {
    legal = order.legal;
    agrees = λ account is. agree_of l account (shows_account account is);
    roots = refl;
    epoch = refl;
  }

  pub performs_seen : (call : Call) (bytes : List ℕ) (result : Result Reply StepError) (f' : Store) → Performs (Shows l) call bytes result (store_of l) f' → Performs (IsAccount s) call bytes result (store_of l) f'
  performs_seen call bytes result f' = performs_map (IsAccount s) (Shows l) shows_account call bytes result (store_of l) f'

  pub usage_seen : (root : ℕ) (result : Result Totals StepError) → IfOk result (λ totals. (account : Account) → Shows l account → totals ≡ usage_at l.roots root account)
      → IfOk result (λ totals. OfAccount s (λ account. totals ≡ usage_at s.origin.roots root account))
  usage_seen root (Ok totals) usage = λ account is. usage account (shows_account account is)
  usage_seen root (Err fault) usage = tt

  pub settles_seen : (may : ℕ → Bool) (f : Store) → SettlesSome (Shows l) may (store_of l) f → SettlesSome (IsAccount s) may (store_of l) f
  settles_seen may f settles = some_map (IsAccount s) (Shows l) shows_account may (store_of l) f settles

  -- the history after a call
  abbrev pub after : ℕ → Call → Option Bool → List Entry
  after caller call None = history
  after caller call (Some fault) = history ++ entry_of caller call fault ∷ []

  module _ (caller : ℕ) (call : Call) (bytes : List ℕ) (result : Result Reply StepError) (l' : Live) (steps : Steps call bytes result l l') (asked : MayBeAsked call) (room : length history < journal) where
    abbrev history' : List Entry
    history' = after caller call (entry_fault result)

    told_still : Changes (λ x y. Unit {0}) l.told l'.told
    told_still = by l.told l'.told steps.performs.rows
      where
        by : (t n : Option Told) → Changes (OnFiles (λ files files'. RowsBy l.epoch call bytes result files.rows files'.rows)) t n → Changes (λ (x y : Told). Unit {0}) t n
        by None None rows = tt
        by None (Some n) rows = rows
        by (Some t) None rows = rows
        by (Some t) (Some n) rows = tt

    replayed : (account : Account) → replay l.roots account history' ≡ after_call l.roots (replay l.roots account history) call result
    replayed account = by result
      where
        by : (r : Result Reply StepError) → replay l.roots account (after caller call (entry_fault r)) ≡ after_call l.roots (replay l.roots account history) call r
        by (Ok given) = replay_more l.roots account history (entry_of caller call false)
        by (Err StoreError) = replay_more l.roots account history (entry_of caller call true)
        by (Err NoMemory) = refl
        by (Err (JournalFull limit)) = refl

    legal_then : IsLegal journal first_faults l'.faults history'
    legal_then = by result refl steps.performs.cause
      where
        later : l.faults ≤ l'.faults
        later = steps.performs.later.faults

        by : (r : Result Reply StepError) → result ≡ r → (r ≡ Err StoreError → Rose l.faults l'.faults) → IsLegal journal first_faults l'.faults (after caller call (entry_fault r))
        by (Ok given) is cause =
            let entry = entry_of caller call false in
            let e = faults_more history entry in
            let f = length_push history entry in
            record { within = omega (arith, f, room); served = served_more history entry order.legal.served (asked_served call asked); excused = omega (arith, e, order.legal.excused, later) }
        by (Err StoreError) is cause =
            let entry = entry_of caller call true in
            let e = faults_more history entry in
            let f = length_push history entry in
            let rose = cause refl in
            record { within = omega (arith, f, room); served = served_more history entry order.legal.served (asked_served call asked); excused = omega (arith, e, order.legal.excused, rose) }
        by (Err NoMemory) is cause = record { within = order.legal.within; served = order.legal.served; excused = omega (arith, order.legal.excused, later) }
        by (Err (JournalFull limit)) is cause = record { within = order.legal.within; served = order.legal.served; excused = omega (arith, order.legal.excused, later) }

    counted : (l'.deliveries ≤ length history') × (l'.generation ≤ length history')
    counted = by result steps.counts
      where
        by : (r : Result Reply StepError) → Counted r l l' → (l'.deliveries ≤ length (after caller call (entry_fault r))) × (l'.generation ≤ length (after caller call (entry_fault r)))
        by (Ok given) counts = let f = length_push history (entry_of caller call false) in (omega (arith, f, counts.0, order.delivered), omega (arith, f, counts.1, order.changed))
        by (Err StoreError) counts = let f = length_push history (entry_of caller call true) in (omega (arith, f, counts.0, order.delivered), omega (arith, f, counts.1, order.changed))
        by (Err NoMemory) counts = (omega (arith, counts.0, order.delivered), omega (arith, counts.1, order.changed))
        by (Err (JournalFull limit)) counts = (omega (arith, counts.0, order.delivered), omega (arith, counts.1, order.changed))

    held_then : Changes (Holds setup l' history') then l'.told
    held_then = by then l.told l'.told refl refl order.held told_still
      where
        some_is : {x y : Told} → Some x ≡ Some y → x ≡ y
        some_is e = cc

        by : (t n n' : Option Told) → l.told ≡ n → l'.told ≡ n' → Changes (Holds setup l history) t n → Changes (λ (x y : Told). Unit {0}) n n' → Changes (Holds setup l' history') t n'
        by None None None e f held still = tt
        by None None (Some n') e f held still = absurd still
        by None (Some n) n' e f held still = absurd held
        by (Some t) None n' e f held still = absurd held
        by (Some t) (Some n) None e f held still = absurd still
        by (Some t) (Some n) (Some n') e f held still =
            let account = replay l.roots (opening t) history in
            let stands : Stands l' (after_call l.roots account call result) n'.files =
            subst (λ o. IfSome o (λ (told : Told). Stands l' (after_call l.roots account call result) told.files)) f (steps.stands account (shows_at t n e held)) in
            record {
              orderly = subst (λ e. IsOrderly 0 (opening_account setup e t.files)) (sym steps.performs.keeps.epoch) held.orderly;
              stands =
                  subst (λ e. Stands l' (replay l'.roots (opening_account setup e t.files) history') n'.files) (sym steps.performs.keeps.epoch)
                  (subst (λ r. Stands l' (replay r (opening t) history') n'.files) (sym steps.performs.keeps.roots)
                  (subst (λ a. Stands l' a n'.files) (sym (replayed (opening t))) stands));
            }

    pub order_then : InOrder then first_faults setup journal l' history'
    order_then = record {
      sound = order.sound;
      journal_is = order.journal_is;
      roots_are = steps.performs.keeps.roots ∙ order.roots_are;
      legal = legal_then;
      delivered = counted.0;
      changed = counted.1;
      held = held_then;
    }

    serves_then : Serves (origin_of then setup journal l) caller history call result history'
    serves_then = by result refl steps.performs.reply steps.performs.form steps.performs.never_full
      where
        machine : (given : Reply) → ((account : Account) → Shows l account → given ≡ reply_of l.roots account call)
            → IfSome (opening_of setup l.epoch then) (λ o. given ≡ reply_of l.roots (replay l.roots o history) call)
        machine given reply = at then l.told refl order.held
          where
            at : (t n : Option Told) → l.told ≡ n → Changes (Holds setup l history) t n → IfSome (opening_of setup l.epoch t) (λ o. given ≡ reply_of l.roots (replay l.roots o history) call)
            at None n e held = tt
            at (Some t) None e held = absurd held
            at (Some t) (Some n) e held = reply (replay l.roots (opening t) history) (shows_at t n e held)

        by : (r : Result Reply StepError) → result ≡ r → IfOk r (λ given. (account : Account) → Shows l account → given ≡ reply_of l.roots account call) → IfOk r (HasForm l.roots l.mailboxes call)
            → ((limit : ℕ) → r ≢ Err (JournalFull limit)) → Serves (origin_of then setup journal l) caller history call r (after caller call (entry_fault r))
        by (Ok given) is reply form full = (room, record { machine = machine given reply; mailboxes = l.mailboxes; form = form }, refl)
        by (Err StoreError) is reply form full = (room, refl)
        by (Err NoMemory) is reply form full = refl
        by (Err (JournalFull limit)) is reply form full = absurd (full limit refl)

    pub serves_next : ServesNext caller call bytes result s (state_of then first_faults setup journal l' history')
    serves_next = record {
      opened = rw (steps.performs.keeps.epoch, steps.performs.keeps.roots) (record { origin = refl; first_faults = refl });
      serves = serves_then;
      performs = performs_seen call bytes result (store_of l') steps.performs;
    }

    -- there was no memory, and so no entry
    pub order_unmade : (kept : List Entry) → kept ≡ history → entry_fault result ≡ None → InOrder then first_faults setup journal l' kept
    order_unmade kept same none = subst (InOrder then first_faults setup journal l') (sym (same ∙ sym (ap (after caller call) none))) order_then

    pub serves_unmade : (kept : List Entry) → kept ≡ history → entry_fault result ≡ None → ServesNext caller call bytes result s (state_of then first_faults setup journal l' kept)
    serves_unmade kept same none =
        subst (λ entries. ServesNext caller call bytes result s (state_of then first_faults setup journal l' entries)) (sym (same ∙ sym (ap (after caller call) none))) serves_next

    -- the entry was made
    pub order_made : (more : List Entry) (fault : Bool) → more ≡ history ++ entry_of caller call fault ∷ [] → entry_fault result ≡ Some fault → InOrder then first_faults setup journal l' more
    order_made more fault one made = subst (InOrder then first_faults setup journal l') (sym (one ∙ sym (ap (after caller call) made))) order_then

    pub serves_made : (more : List Entry) (fault : Bool) → more ≡ history ++ entry_of caller call fault ∷ [] → entry_fault result ≡ Some fault
        → ServesNext caller call bytes result s (state_of then first_faults setup journal l' more)
    serves_made more fault one made =
        subst (λ entries. ServesNext caller call bytes result s (state_of then first_faults setup journal l' entries)) (sym (one ∙ sym (ap (after caller call) made))) serves_next

  -- roots were settled, and no entry was made
  pub order_prepared : (failed : Type 0) (may : ℕ → Bool) (m : Live) → Prepares failed may l m → InOrder then first_faults setup journal m history
  order_prepared failed may m prep =
      subst (λ (x : Live). ((account : Account) → Shows l account → StandsIfTold x account) → InOrder then first_faults setup journal x history) (sym prep.same)
      (λ stands. record {
        sound = order.sound;
        journal_is = order.journal_is;
        roots_are = order.roots_are;
        legal = record { within = order.legal.within; served = order.legal.served; excused = omega (arith, order.legal.excused, prep.cause.later) };
        delivered = order.delivered;
        changed = order.changed;
        held = held_still stands;
      }) prep.stands
    where
      held_still : ((account : Account) → Shows l account → StandsIfTold (record l { told = m.told; faults = m.faults; lists = m.lists; books = m.books }) account)
          → Changes (Holds setup (record l { told = m.told; faults = m.faults; lists = m.lists; books = m.books }) history) then m.told
      held_still stands = by then l.told m.told refl refl order.held prep.settles.files
        where
          by : (t n n' : Option Told) → l.told ≡ n → m.told ≡ n' → Changes (Holds setup l history) t n → Changes (OnFiles (SettlesLedgers may (standings_of l.books) (standings_of m.books))) n n'
              → Changes (Holds setup (record l { told = m.told; faults = m.faults; lists = m.lists; books = m.books }) history) t n'
          by None None None e f held still = tt
          by None None (Some n') e f held still = absurd still
          by None (Some n) n' e f held still = absurd held
          by (Some t) None n' e f held still = absurd held
          by (Some t) (Some n) None e f held still = absurd still
          by (Some t) (Some n) (Some n') e f held still =
              let account = replay l.roots (opening t) history in
              record {
                orderly = held.orderly;
                stands = subst (λ o. IfSome o (λ (told : Told). Stands (record l { told = m.told; faults = m.faults; lists = m.lists; books = m.books }) account told.files)) f (stands account (shows_at t n e held));
              }
