-- Logs of a desk: one call's, and one after another.
use Rattle.std.proofs.Common.{◌≡◌, ◌≢◌, ◌≤◌, ◌<◌, ◌+◌, ℕ, zero, suc, List, [], ◌∷◌, ◌++◌, length, map, refl, sym, ap, ◌∙◌, subst, append-nil, length-append, length-set, get_or-set_other, arith, eq-eqb, ne_eqb}
use Rattle.std.specs.Prelude.{◌==◌, Result, Ok, Err}
use Rattle.std.specs.List.{All, filter}
use Rattle.std.proofs.lemmas.List.Elements.{All-append, All-cons, filter-append}
use Rattle.std.proofs.lemmas.List.{map-append}
use mathlib.Core.Logic.{dite}
use native.Mathlib.Decide.{ℕ_discrete}
use Rattle.account_core.specs.declared.calls.Call.{Call}
use Rattle.account_core.specs.declared.calls.Entry.{Entry}
use Rattle.account_core.specs.declared.calls.Reply.{Reply}
use Rattle.account_core.specs.declared.calls.StepError.{StepError}
use Rattle.account_core.specs.declared.calls.StepError.TheVariants.{NoMemory, Store, JournalFull}
use Rattle.account_core.specs.History.{Answer, replied, store, journal_full}
use Rattle.account_core.specs.Histories.{Origin, calls_by}
use Rattle.account_core.specs.Logs.{AreOthers, Logged, entries_of}
use Rattle.account_core.proofs.Logging.{logs_are_own, logs_join as logged_join}
use Rattle.desk.specs.Shares.{Share, no_share, share_at, IsWithinJournal, AreWithinJournals}
use Rattle.desk.specs.Asking.{Asks, DeskCall, MayAsk}
use Rattle.desk.specs.Logs.{part, IsPart, IsLog, log_of, CallsAreLogs, LogsJoin, PartsAreOwnEntries, FullHistoriesStay}

-- one part after another
part-append : (account : ℕ) (log more : List (DeskCall × Answer)) → part account (log ++ more) ≡ part account log ++ part account more
part-append account log more =
    ap (map (λ (entry : DeskCall × Answer). (entry.0.call, entry.1))) (filter-append (λ (entry : DeskCall × Answer). entry.0.account == account) log more)
    ∙ map-append (λ (entry : DeskCall × Answer). (entry.0.call, entry.1)) (filter (λ (entry : DeskCall × Answer). entry.0.account == account) log) (filter (λ (entry : DeskCall × Answer). entry.0.account == account) more)

part_nothing : (share : Share) → IsPart share share []
part_nothing share = record {
  origin = refl;
  caller = refl;
  logged = ([], tt, sym (append-nil share.seen));
}

part_join : (first between last : Share) (log more : List (Call × Answer)) → IsPart first between log → IsPart between last more → IsPart first last (log ++ more)
part_join first between last log more one two =
    let same_caller : Logged (AreOthers first.caller) between.origin first.caller between.seen more last.seen =
    subst (λ (n : ℕ). Logged (AreOthers n) between.origin n between.seen more last.seen) one.caller two.logged in
    let same_origin : Logged (AreOthers first.caller) first.origin first.caller between.seen more last.seen =
    subst (λ (o : Origin). Logged (AreOthers first.caller) o first.caller between.seen more last.seen) one.origin same_caller in
    record {
      origin = two.origin ∙ one.origin;
      caller = two.caller ∙ one.caller;
      logged = (logged_join first.origin first.caller first.seen between.seen last.seen log more one.logged same_origin).0;
    }

-- where nothing was asked
pub log_nothing : (shares : List Share) → IsLog shares shares []
log_nothing shares = record {
  count = refl;
  asked = λ k d lt. absurd (omega arith);
  each = λ account. part_nothing (share_at shares account);
}

pub logs_join : LogsJoin
logs_join first between last log more one two = record {
  count = two.count ∙ one.count;
  asked = All-append (λ (entry : DeskCall × Answer). MayAsk (length first) entry.0) log more one.asked
      (subst (λ (n : ℕ). All (λ (entry : DeskCall × Answer). MayAsk n entry.0) more) one.count two.asked);
  each = λ account. subst (IsPart (share_at first account) (share_at last account)) (sym (part-append account log more))
      (part_join (share_at first account) (share_at between account) (share_at last account) (part account log) (part account more) (one.each account) (two.each account));
}

pub parts_are_own_entries : PartsAreOwnEntries
parts_are_own_entries shares shares' log is account =
    let each = is.each account in
    let share = share_at shares account in
    let share' = share_at shares' account in
    ap (λ (n : ℕ). calls_by n share'.seen) each.caller ∙ logs_are_own share.origin share.caller share.seen share'.seen (part account log) each.logged

-- the log of one call
module _ (asked : DeskCall) where
  part_here : (result : Result Reply StepError) (account : ℕ) → asked.account ≡ account → (share share' : Share) → Asks share asked.call result share' → IsPart share share' (part account (log_of asked result))
  part_here (Ok given) account is share share' asks = rw (eq-eqb asked.account account is) (record {
    origin = asks.origin;
    caller = asks.caller;
    logged = (asks.others, share'.seen, asks.apart, asks.serves, ([], tt, sym (append-nil share'.seen)));
  })
  part_here (Err Store) account is share share' asks = rw (eq-eqb asked.account account is) (record {
    origin = asks.origin;
    caller = asks.caller;
    logged = (asks.others, share'.seen, asks.apart, asks.serves, ([], tt, sym (append-nil share'.seen)));
  })
  part_here (Err (JournalFull most)) account is share share' asks = rw (eq-eqb asked.account account is) (record {
    origin = asks.origin;
    caller = asks.caller;
    logged = (asks.others, share'.seen, asks.apart, asks.serves.1, ([], tt, sym (append-nil share'.seen)));
  })
  part_here (Err NoMemory) account is share share' asks = record {
    origin = asks.origin;
    caller = asks.caller;
    logged = (asks.others, asks.apart, asks.serves);
  }

  part_elsewhere : (result : Result Reply StepError) (account : ℕ) → asked.account ≢ account → part account (log_of asked result) ≡ []
  part_elsewhere (Ok given) account not = rw (ne_eqb asked.account account not)
  part_elsewhere (Err Store) account not = rw (ne_eqb asked.account account not)
  part_elsewhere (Err (JournalFull most)) account not = rw (ne_eqb asked.account account not)
  part_elsewhere (Err NoMemory) account not = refl

  asked_all : (accounts : ℕ) (result : Result Reply StepError) → MayAsk accounts asked → All (λ (entry : DeskCall × Answer). MayAsk accounts entry.0) (log_of asked result)
  asked_all accounts (Ok given) may = All-cons (λ (entry : DeskCall × Answer). MayAsk accounts entry.0) (asked, replied given) [] may (λ k d lt. absurd (omega arith))
  asked_all accounts (Err Store) may = All-cons (λ (entry : DeskCall × Answer). MayAsk accounts entry.0) (asked, store) [] may (λ k d lt. absurd (omega arith))
  asked_all accounts (Err (JournalFull most)) may = All-cons (λ (entry : DeskCall × Answer). MayAsk accounts entry.0) (asked, journal_full) [] may (λ k d lt. absurd (omega arith))
  asked_all accounts (Err NoMemory) may = λ k d lt. absurd (omega arith)

pub calls_are_logs : CallsAreLogs
calls_are_logs shares shares' asked result may asks others =
    let there : (account : ℕ) → asked.account ≡ account → IsPart (share_at shares account) (share_at shares' account) (part account (log_of asked result)) =
    λ account is. part_here asked result account is (share_at shares account) (share_at shares' account)
    (subst (λ (k : ℕ). Asks (share_at shares k) asked.call result (share_at shares' k)) is asks) in
    let same : (account : ℕ) → asked.account ≢ account → share_at shares' account ≡ share_at shares account =
    λ account not. ap (λ (s : List Share). share_at s account) others ∙ get_or-set_other shares asked.account account (share_at shares' asked.account) no_share (λ e. not (sym e)) in
    let elsewhere : (account : ℕ) → asked.account ≢ account → IsPart (share_at shares account) (share_at shares' account) (part account (log_of asked result)) =
    λ account not. rw (part_elsewhere asked result account not, same account not) (part_nothing (share_at shares account)) in
    record {
      count = ap length others ∙ length-set shares asked.account (share_at shares' asked.account);
      asked = asked_all asked (length shares) result may;
      each = λ account. dite (ℕ_discrete asked.account account) (there account) (elsewhere account);
    }

-- a history that is full
module _ (origin : Origin) (caller : ℕ) where
  no_length : (entries : List Entry) → length entries ≡ 0 → entries ≡ []
  no_length [] e = refl
  no_length (entry ∷ entries) e = absurd (omega arith)

  full_stays : (seen seen' : List Entry) (log : List (Call × Answer)) → length seen ≡ origin.journal → length seen' ≤ origin.journal → Logged (AreOthers caller) origin caller seen log seen'
      → (entries_of caller log ≡ []) × (length seen' ≡ origin.journal)
  full_stays seen seen' [] full within (others, apart, e) =
      let more : length seen' ≡ length seen + length others = ap length e ∙ length-append seen others in
      (refl, omega arith)
  full_stays seen seen' ((call, replied given) ∷ log) full within (others, next, apart, sits, rest) =
      let room : length (seen ++ others) < origin.journal = sits.0 in
      let no : ⊥ = omega (arith, length-append seen others) in
      absurd no
  full_stays seen seen' ((call, store) ∷ log) full within (others, next, apart, sits, rest) =
      let room : length (seen ++ others) < origin.journal = sits.0 in
      let no : ⊥ = omega (arith, length-append seen others) in
      absurd no
  full_stays seen seen' ((call, journal_full) ∷ log) full within (others, next, apart, sits, rest) =
      full_stays next seen' log (ap length sits.1 ∙ sits.0) within rest

  full_after : (before after : List (Call × Answer)) (call : Call) (seen seen' : List Entry) → length seen' ≤ origin.journal → Logged (AreOthers caller) origin caller seen (before ++ (call, journal_full) ∷ after) seen'
      → (entries_of caller after ≡ []) × (length seen' ≡ origin.journal)
  full_after [] after call seen seen' within (others, next, apart, sits, rest) = full_stays next seen' after (ap length sits.1 ∙ sits.0) within rest
  full_after (first ∷ before) after call seen seen' within (others, next, apart, sits, rest) = full_after before after call next seen' within rest

-- also of an account that is not there
within_at : (shares : List Share) → AreWithinJournals shares → (account : ℕ) → IsWithinJournal (share_at shares account)
within_at [] within account = omega arith
within_at (share ∷ shares) within zero = within 0 no_share (omega arith)
within_at (share ∷ shares) within (suc account) = within_at shares (λ k d lt. within (suc k) d (omega arith)) account

pub full_histories_stay : FullHistoriesStay
full_histories_stay shares shares' log is within account before after call e =
    let each = is.each account in
    let share = share_at shares account in
    let share' = share_at shares' account in
    let most : length share'.seen ≤ share.origin.journal = subst (λ (o : Origin). length share'.seen ≤ o.journal) each.origin (within_at shares' within account) in
    let full = full_after share.origin share.caller before after call share.seen share'.seen most
    (subst (λ (l : List (Call × Answer)). Logged (AreOthers share.caller) share.origin share.caller share.seen l share'.seen) e each.logged) in
    (full.0, full.1 ∙ sym (ap (λ (o : Origin). o.journal) each.origin))
