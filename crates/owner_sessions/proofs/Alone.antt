-- Accounts that their owner alone asks, over keepers that never fail.
use Rattle.std.proofs.Common.{true, false, ◌==◌, ◌≡◌, ◌≢◌, ◌<◌, ◌≤◌, ◌+◌, ◌-◌, ◌^◌, ℕ, zero, suc, Bool, min, eqb-true, eq-eqb, ne_eqb, List, [], ◌∷◌, ◌++◌, map, length, Option, Some, None, IfSome, unwrap_or, refl, sym, ap, ◌∙◌, subst, append-nil, append_assoc, length-set, get_or-set_other, get_or-set_same, ext_get_or, arith, if◌then◌else◌}
use Rattle.std.proofs.lemmas.Bool.Decides.{nat_tests}
use Rattle.std.proofs.lemmas.List.Elements.{All-set}
use Rattle.std.proofs.lemmas.List.Sums.{sum_by-cons}
use Rattle.std.specs.List.{All, AllZip, filter}
use mathlib.Core.Logic.{dite}
use native.Mathlib.Decide.{ℕ_discrete}
use Rattle.keeper.specs.Calls.{Told, Due}
use Rattle.account_core.specs.declared.calls.Call.{Call}
use Rattle.account_core.specs.declared.calls.Entry.{Entry}
use Rattle.account_core.specs.Account.{Account}
use Rattle.account_core.specs.Histories.{Origin, calls_by}
use Rattle.account_core.specs.History.{Answer, replied, store, journal_full, reply, entry_of}
use Rattle.account_core.specs.Legality.{fault_count}
use Rattle.account_core.specs.Logs.{Sits, AreOthers, Logged}
use Rattle.account_ledger.specs.States.{State}
use Rattle.wire_io.specs.Transcript.{IsAnswered}
use Rattle.desk.specs.Asking.{DeskCall, MayAsk}
use Rattle.desk.specs.Shares.{Share, no_share, share_at}
use Rattle.desk.specs.Logs.{IsLog, IsPart, part}
use Rattle.plain_desk.specs.Continuing.{Continues, EachContinues}
use Rattle.plain_desk.specs.Owning.{AreOwned, IsOwned, share_of}
use Rattle.owner_sessions.specs.Owner.{HasAccount, IsUndisturbed, answer_in, is_full, no_account, opening_in, owners, share_after}
use Rattle.owner_sessions.specs.Plain.{NeverFails}

-- the faults that a keeper has counted stay none
none_counted : (s s' : State) → NeverFails s → Continues s s' → s'.store.faults ≡ 0
none_counted s s' never on = by s.store.told s'.store.told refl never.is_told on.due
  where
    by : (o o' : Option Told) → s.store.told ≡ o → o ≡ Some never.told
        → Due ⊥ s.store.faults s.store.append_faults s'.store.faults s'.store.append_faults o o' → s'.store.faults ≡ 0
    by None o' e is due = absurd (cc)
    by (Some t) None e is due = absurd due
    by (Some t) (Some t') e is due =
        let same : t ≡ never.told = cc in
        let none : s.store.faults + s.store.append_faults + t.due ≡ 0 = ap (λ (u : Told). s.store.faults + s.store.append_faults + u.due) same ∙ never.none in
        let p : (s'.store.faults + s'.store.append_faults) + t'.due ≤ (s.store.faults + s.store.append_faults) + t.due = due.bounded in
        omega arith

-- an account whose keeper never fails is undisturbed after any calls of its owner
pub still_undisturbed : (s s' : State) → NeverFails s → Continues s s' → IsOwned s' → IsUndisturbed (share_of s')
still_undisturbed s s' never on owned = record {
  whole = owned.whole;
  no_fault =
      let none = none_counted s s' never on in
      let few : min (s'.first_faults + fault_count s'.history) (2 ^ 64 - 1) ≤ s'.store.faults = owned.order.legal.excused in
      omega arith;
}

-- so are all accounts of a desk
pub all_undisturbed : (states states' : List State) → All NeverFails states → EachContinues states states' → AreOwned states' → All IsUndisturbed (map share_of states')
all_undisturbed states states' never on owned k d lt = go states states' never on (λ j x less. owned.each j x less) k d lt
  where
    go : (xs ys : List State) → All NeverFails xs → AllZip Continues xs ys → All IsOwned ys → All IsUndisturbed (map share_of ys)
    go [] [] never on owned k d lt = absurd (omega (arith, lt))
    go [] (y ∷ ys) never on owned k d lt = absurd on
    go (x ∷ xs) [] never on owned k d lt = absurd on
    go (x ∷ xs) (y ∷ ys) never on owned zero d lt = still_undisturbed x y (never 0 x (omega arith)) on.0 (owned 0 y (omega arith))
    go (x ∷ xs) (y ∷ ys) never on owned (suc k) d lt =
        go xs ys (λ j e less. never (suc j) e (omega (arith, less))) on.1 (λ j e less. owned (suc j) e (omega (arith, less))) k d (omega (arith, lt))

-- what holds if an account is told holds of the one that is
of_told : (P : Account → Type 0) (account : Account) (o : Option Account) → o ≡ Some account → IfSome o P → P account
of_told P account None is fact = absurd cc
of_told P account (Some own) is fact = let same : own ≡ account = cc in subst P same fact

-- an entry that stands in a whole history is the caller's, and has no fault
abbrev AreQuiet : ℕ → List Entry → Type 0
AreQuiet caller [] = Unit {0}
AreQuiet caller (entry ∷ entries) = (entry.caller ≡ caller) × (entry.fault ≡ false) × AreQuiet caller entries

module _ (caller : ℕ) where
  fewer : (entries : List Entry) → length (calls_by caller entries) ≤ length entries
  fewer [] = omega arith
  fewer (entry ∷ entries) = by (entry.caller == caller) (fewer entries)
    where
      by : (c : Bool) → length (calls_by caller entries) ≤ length entries → length (if c then entry ∷ calls_by caller entries else calls_by caller entries) ≤ length (entry ∷ entries)
      by true few = omega (arith, few)
      by false few = omega (arith, few)

  are_quiet : (entries : List Entry) → calls_by caller entries ≡ entries → fault_count entries ≡ 0 → AreQuiet caller entries
  are_quiet [] whole none = tt
  are_quiet (entry ∷ entries) whole none = by (are_quiet entries) (entry.caller == caller) refl whole entry.fault refl
    where
      by : (calls_by caller entries ≡ entries → fault_count entries ≡ 0 → AreQuiet caller entries)
          → (c : Bool) → (entry.caller == caller) ≡ c → (if c then entry ∷ calls_by caller entries else calls_by caller entries) ≡ entry ∷ entries
          → (f : Bool) → entry.fault ≡ f → AreQuiet caller (entry ∷ entries)
      by next false e all f is = absurd (let sized : length (calls_by caller entries) ≡ suc (length entries) = ap length all in omega (arith, fewer entries, sized))
      by next true e all true is = absurd (let one : fault_count (entry ∷ entries) ≡ 1 + fault_count entries = sum_by-cons (λ (e : Entry). if e.fault then 1 else 0) entry entries ∙ ap (λ (f : Bool). (if f then 1 else 0) + fault_count entries) is in omega (arith, one, none))
      by next true e all false is =
          let rest : calls_by caller entries ≡ entries = cc in
          let more : fault_count (entry ∷ entries) ≡ 0 + fault_count entries = sum_by-cons (λ (e : Entry). if e.fault then 1 else 0) entry entries ∙ ap (λ (f : Bool). (if f then 1 else 0) + fault_count entries) is in
          (eqb-true entry.caller caller e, is, next rest (omega (arith, more, none)))

  quiet_after : (first rest : List Entry) → AreQuiet caller (first ++ rest) → AreQuiet caller rest
  quiet_after [] rest q = q
  quiet_after (entry ∷ first) rest q = quiet_after first rest q.2

  quiet_first : (first rest : List Entry) → AreQuiet caller (first ++ rest) → AreQuiet caller first
  quiet_first [] rest q = tt
  quiet_first (entry ∷ first) rest q = (q.0, q.1, quiet_first first rest q.2)

  quiet_others : (others : List Entry) → AreOthers caller others → AreQuiet caller others → others ≡ []
  quiet_others [] apart q = refl
  quiet_others (entry ∷ others) apart q = absurd (apart.0 q.0)

  -- what is seen begins with what was seen
  begins : (origin : Origin) (seen seen' : List Entry) (log : List (Call × Answer)) → Logged (AreOthers caller) origin caller seen log seen' → (more : List Entry) × (seen' ≡ seen ++ more)
  begins origin seen seen' [] (others, apart, e) = (others, e)
  begins origin seen seen' ((call, answer) ∷ log) (others, next, apart, sits, rest) =
      let h = begins origin next seen' log rest in
      let n = next_is answer sits in
      (others ++ (n.0 ++ h.0), h.1 ∙ ap (λ l. l ++ h.0) n.1 ∙ append_assoc (seen ++ others) n.0 h.0 ∙ append_assoc seen others (n.0 ++ h.0))
    where
      next_is : (a : Answer) → Sits origin caller (seen ++ others) call a next → (own : List Entry) × (next ≡ (seen ++ others) ++ own)
      next_is (replied given) s = (entry_of caller call false ∷ [], s.2)
      next_is store s = (entry_of caller call true ∷ [], s.1)
      next_is journal_full s = ([], s.1 ∙ sym (append-nil (seen ++ others)))

-- one call on the account of a share
module _ (share : Share) (call : Call) where
  abbrev grown : Share
  grown = record { origin = share.origin; caller = share.caller; seen = share.seen ++ entry_of share.caller call false ∷ [] }

  answered_room : length share.seen < share.origin.journal → (answer_in share call ≡ replied (reply share.origin.roots (opening_in share) share.seen call)) × (share_after share call ≡ grown)
  answered_room lt =
      let room : is_full share ≡ false = grind (arith, nat_tests) in (
        ap (λ (c : Bool). if c then journal_full else replied (reply share.origin.roots (opening_in share) share.seen call)) room,
        ap (λ (c : Bool). if c then share else grown) room,
      )

  answered_full : length share.seen ≡ share.origin.journal → (answer_in share call ≡ journal_full) × (share_after share call ≡ share)
  answered_full e =
      let full : is_full share ≡ true = grind (arith, nat_tests) in (
        ap (λ (c : Bool). if c then journal_full else replied (reply share.origin.roots (opening_in share) share.seen call)) full,
        ap (λ (c : Bool). if c then share else grown) full,
      )

  -- the opening account stays told
  has_after : HasAccount share → HasAccount (share_after share call)
  has_after has = by (is_full share)
    where
      by : (c : Bool) → HasAccount (if c then share else grown)
      by true = has
      by false = record { account = has.account; is_told = has.is_told }

  module _ (share' : Share) (log : List (Call × Answer)) (has : HasAccount share) where
    told_is : opening_in share ≡ has.account
    told_is = ap (λ (o : Option Account). unwrap_or o no_account) has.is_told

    -- of a call that was made right after what was seen, and of the rest of a log
    answered_at : (next : List Entry) → AreQuiet share.caller next → share'.origin ≡ share.origin → share'.caller ≡ share.caller → Logged (AreOthers share.caller) share.origin share.caller next log share'.seen
        → (a : Answer) → Sits share.origin share.caller share.seen call a next → (a ≡ answer_in share call) × IsPart (share_after share call) share' log
    answered_at next quiet same_origin same_caller rest (replied given) (room, is, more) =
        let at = answered_room room in
        let machine : given ≡ reply share.origin.roots has.account share.seen call = of_told (λ account. given ≡ reply share.origin.roots account share.seen call) has.account share.origin.account has.is_told is.machine in
        let opened : given ≡ reply share.origin.roots (opening_in share) share.seen call = machine ∙ ap (λ account. reply share.origin.roots account share.seen call) (sym told_is) in
        let own : IsPart grown share' log = record {
          origin = same_origin;
          caller = same_caller;
          logged = subst (λ (l : List Entry). Logged (AreOthers share.caller) share.origin share.caller l log share'.seen) more rest;
        } in
        (ap replied opened ∙ sym at.0, subst (λ (s : Share). IsPart s share' log) (sym at.1) own)
    answered_at next quiet same_origin same_caller rest store (room, more) =
        let own = quiet_after share.caller share.seen (entry_of share.caller call true ∷ []) (subst (AreQuiet share.caller) more quiet) in
        let wrong : true ≡ false = own.1 in
        absurd (cc)
    answered_at next quiet same_origin same_caller rest journal_full (full, same) =
        let at = answered_full full in
        let own : IsPart share share' log = record {
          origin = same_origin;
          caller = same_caller;
          logged = subst (λ (l : List Entry). Logged (AreOthers share.caller) share.origin share.caller l log share'.seen) same rest;
        } in
        (sym at.0, subst (λ (s : Share). IsPart s share' log) (sym at.1) own)

    -- of the first call of a log
    answered_first : (answer : Answer) → IsUndisturbed share' → IsPart share share' ((call, answer) ∷ log) → (answer ≡ answer_in share call) × IsPart (share_after share call) share' log
    answered_first answer alone is =
        let (others, next, apart, sits, rest) = is.logged in
        let h = begins share.caller share.origin next share'.seen log rest in
        let whole : calls_by share.caller share'.seen ≡ share'.seen = subst (λ (k : ℕ). calls_by k share'.seen ≡ share'.seen) is.caller alone.whole in
        let quiet = quiet_first share.caller next h.0 (subst (AreQuiet share.caller) h.1 (are_quiet share.caller share'.seen whole alone.no_fault)) in
        let none : others ≡ [] = quiet_others share.caller others apart (no_others answer others next sits quiet) in
        let seen_is : share.seen ++ others ≡ share.seen = ap (λ l. share.seen ++ l) none ∙ append-nil share.seen in
        answered_at next quiet is.origin is.caller rest answer (subst (λ (s : List Entry). Sits share.origin share.caller s call answer next) seen_is sits)
      where
        no_others : (a : Answer) (o n : List Entry) → Sits share.origin share.caller (share.seen ++ o) call a n → AreQuiet share.caller n → AreQuiet share.caller o
        no_others (replied given) o n sits q = quiet_after share.caller share.seen o (quiet_first share.caller (share.seen ++ o) (entry_of share.caller call false ∷ []) (subst (AreQuiet share.caller) sits.2 q))
        no_others store o n sits q = quiet_after share.caller share.seen o (quiet_first share.caller (share.seen ++ o) (entry_of share.caller call true ∷ []) (subst (AreQuiet share.caller) sits.1 q))
        no_others journal_full o n sits q = quiet_after share.caller share.seen o (subst (AreQuiet share.caller) sits.1 q)

-- the part of the log on the account of the first call begins with that call
module _ (asked : DeskCall) (answer : Answer) (log : List (DeskCall × Answer)) (account : ℕ) where
  abbrev part_if : Bool → List (Call × Answer)
  part_if c = map (λ (entry : DeskCall × Answer). (entry.0.call, entry.1)) (if c then (asked, answer) ∷ filter (λ (entry : DeskCall × Answer). entry.0.account == account) log else filter (λ (entry : DeskCall × Answer). entry.0.account == account) log)

  part_here : asked.account ≡ account → part account ((asked, answer) ∷ log) ≡ (asked.call, answer) ∷ part account log
  part_here is = ap part_if (eq-eqb asked.account account is)

  part_elsewhere : asked.account ≢ account → part account ((asked, answer) ∷ log) ≡ part account log
  part_elsewhere not = ap part_if (ne_eqb asked.account account not)

-- a share that saw nothing more
share_eq : (o o' : Origin) (c c' : ℕ) (l l' : List Entry) → o' ≡ o → c' ≡ c → l' ≡ l → ◌≡◌ {A = Share} (record { origin = o'; caller = c'; seen = l' }) (record { origin = o; caller = c; seen = l })
share_eq o o' c c' l l' i j k = cc

stays : (share share' : Share) → IsUndisturbed share' → IsPart share share' [] → share' ≡ share
stays share share' alone is =
    let (others, apart, e) = is.logged in
    let whole : calls_by share.caller share'.seen ≡ share'.seen = subst (λ (k : ℕ). calls_by k share'.seen ≡ share'.seen) is.caller alone.whole in
    let quiet = subst (AreQuiet share.caller) e (are_quiet share.caller share'.seen whole alone.no_fault) in
    let none : others ≡ [] = quiet_others share.caller others apart (quiet_after share.caller share.seen others quiet) in
    share_eq share.origin share'.origin share.caller share'.caller share.seen share'.seen is.origin is.caller (e ∙ ap (λ l. share.seen ++ l) none ∙ append-nil share.seen)

-- where nothing was asked, and nobody else asked, all is as before
all_stay : (shares shares' : List Share) → IsLog shares shares' [] → All IsUndisturbed shares' → shares' ≡ shares
all_stay shares shares' logged alone = ext_get_or no_share shares' shares logged.count (λ account lt. stays (share_at shares account) (share_at shares' account) (alone account no_share lt) (logged.each account))

-- the first call of a log is answered as the account alone answers it, and the rest is a log
module _ (shares shares' : List Share) (asked : DeskCall) (answer : Answer) (log : List (DeskCall × Answer)) (logged : IsLog shares shares' ((asked, answer) ∷ log)) (has : All HasAccount shares) (alone : All IsUndisturbed shares') where
  abbrev own : Share
  own = share_at shares asked.account

  abbrev next : List Share
  next = owners.after shares asked

  next_length : length next ≡ length shares
  next_length = length-set shares asked.account (share_after own asked.call)

  there : asked.account < length shares
  there = let may : MayAsk (length shares) asked = logged.asked 0 (asked, answer) (omega arith) in may.account

  has_own : HasAccount own
  has_own = has asked.account no_share there

  first : (answer ≡ answer_in own asked.call) × IsPart (share_after own asked.call) (share_at shares' asked.account) (part asked.account log)
  first =
      let same : length shares' ≡ length shares = logged.count in
      let undisturbed : IsUndisturbed (share_at shares' asked.account) = alone asked.account no_share (subst (λ (n : ℕ). asked.account < n) (sym same) there) in
      answered_first own asked.call (share_at shares' asked.account) (part asked.account log) has_own answer undisturbed
      (subst (IsPart own (share_at shares' asked.account)) (part_here asked answer log asked.account refl) (logged.each asked.account))

  has_next : All HasAccount next
  has_next = All-set HasAccount shares asked.account (share_after own asked.call) (has_after own asked.call has_own) has

  here : (account : ℕ) → asked.account ≡ account → IsPart (share_at next account) (share_at shares' account) (part account log)
  here account is =
      let at : share_at next asked.account ≡ share_after own asked.call = get_or-set_same shares asked.account (share_after own asked.call) no_share there in
      subst (λ (k : ℕ). IsPart (share_at next k) (share_at shares' k) (part k log)) is (subst (λ (s : Share). IsPart s (share_at shares' asked.account) (part asked.account log)) (sym at) first.1)

  elsewhere : (account : ℕ) → asked.account ≢ account → IsPart (share_at next account) (share_at shares' account) (part account log)
  elsewhere account not =
      let at : share_at next account ≡ share_at shares account = get_or-set_other shares asked.account account (share_after own asked.call) no_share (λ e. not (sym e)) in
      subst (λ (s : Share). IsPart s (share_at shares' account) (part account log)) (sym at)
      (subst (IsPart (share_at shares account) (share_at shares' account)) (part_elsewhere asked answer log account not) (logged.each account))

  rest : IsLog next shares' log
  rest = record {
    count = logged.count ∙ sym next_length;
    asked = subst (λ (n : ℕ). All (λ (entry : DeskCall × Answer). MayAsk n entry.0) log) (sym next_length) (λ k d lt. logged.asked (suc k) d (omega (arith, lt)));
    each = λ account. dite (ℕ_discrete asked.account account) (here account) (elsewhere account);
  }

-- the owner's calls are answered as the accounts alone answer them
pub alone_answers : (shares shares' : List Share) (log : List (DeskCall × Answer)) → IsLog shares shares' log → All HasAccount shares → All IsUndisturbed shares' → IsAnswered owners shares log shares'
alone_answers shares shares' [] logged has alone = all_stay shares shares' logged alone
alone_answers shares shares' ((asked, answer) ∷ log) logged has alone = (
  (first shares shares' asked answer log logged has alone).0,
  alone_answers (owners.after shares asked) shares' log (rest shares shares' asked answer log logged has alone) (has_next shares shares' asked answer log logged has alone) alone,
)
