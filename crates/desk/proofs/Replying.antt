-- If nothing failed, each call of a log got the machine's reply.
use Rattle.std.proofs.Common.{true, false, refl, ◌≡◌, ◌<◌, ◌+◌, ℕ, Bool, zero, suc, List, [], ◌∷◌, ◌++◌, length, map, ap, ◌∙◌, subst, append-nil, append_assoc, length-append, sym, arith, eq-eqb, ne_eqb, if◌then◌else◌}
use Rattle.std.proofs.lemmas.List.Sums.{sum_by-append}
use Rattle.std.specs.Prelude.{◌==◌}
use Rattle.std.specs.List.{All, filter}
use mathlib.Core.Logic.{dite}
use native.Mathlib.Decide.{ℕ_discrete}
use Rattle.account_core.specs.declared.calls.Call.{Call}
use Rattle.account_core.specs.declared.calls.Entry.{Entry}
use Rattle.account_core.specs.History.{Answer, replied, store, journal_full, entry_of}
use Rattle.account_core.specs.Histories.{Origin}
use Rattle.account_core.specs.Legality.{fault_count}
use Rattle.account_core.specs.Logs.{AreOthers, Sits, Logged, entries_of}
use Rattle.account_core.proofs.Logging.{sits_next}
use Rattle.desk.specs.Asking.{DeskCall, MayAsk}
use Rattle.desk.specs.Logs.{AreReplied, IsLog, IsPart, LogsWithoutFailureAreReplied, part}
use Rattle.desk.specs.Shares.{HasNoFailure, HaveNoFailure, Share, no_share, share_at}

fault_count-append : (entries more : List Entry) → fault_count (entries ++ more) ≡ fault_count entries + fault_count more
fault_count-append entries more = sum_by-append (λ (e : Entry). if e.fault then 1 else 0) entries more

-- one account
module _ (origin : Origin) (caller : ℕ) where
  -- what is seen begins with what was seen
  grown : (seen seen' : List Entry) (log : List (Call × Answer)) → Logged (AreOthers caller) origin caller seen log seen' → (more : List Entry) × (seen' ≡ seen ++ more)
  grown seen seen' [] (others, apart, e) = (others, e)
  grown seen seen' ((call, answer) ∷ log) (others, next, apart, sits, rest) =
      let h = grown next seen' log rest in
      let own = entries_of caller ((call, answer) ∷ []) in
      (others ++ (own ++ h.0), h.1 ∙ ap (λ l. l ++ h.0) (sits_next origin caller (seen ++ others) next call answer sits) ∙ append_assoc (seen ++ others) own h.0 ∙ append_assoc seen others (own ++ h.0))

  replied_each : (seen seen' : List Entry) (log : List (Call × Answer)) → Logged (AreOthers caller) origin caller seen log seen' → fault_count seen' ≡ 0 → length seen' < origin.journal → AreReplied log
  replied_each seen seen' [] is none room = tt
  replied_each seen seen' ((call, replied given) ∷ log) (others, next, apart, sits, rest) none room = replied_each next seen' log rest none room
  replied_each seen seen' ((call, store) ∷ log) (others, next, apart, sits, rest) none room =
      let h = grown next seen' log rest in
      let all : fault_count seen' ≡ fault_count next + fault_count h.0 = ap fault_count h.1 ∙ fault_count-append next h.0 in
      let one : fault_count next ≡ fault_count (seen ++ others) + 1 = ap fault_count sits.1 ∙ fault_count-append (seen ++ others) (entry_of caller call true ∷ []) in
      let no : ⊥ = omega (arith, none) in
      absurd no
  replied_each seen seen' ((call, journal_full) ∷ log) (others, next, apart, sits, rest) none room =
      let h = grown next seen' log rest in
      let all : length seen' ≡ length next + length h.0 = ap length h.1 ∙ length-append next h.0 in
      let full : length next ≡ origin.journal = ap length sits.1 ∙ sits.0 in
      let no : ⊥ = omega (arith, room) in
      absurd no

-- the part of the log on an account that the first call is on begins with that call
part_first : (asked : DeskCall) (answer : Answer) (log : List (DeskCall × Answer)) → part asked.account ((asked, answer) ∷ log) ≡ (asked.call, answer) ∷ part asked.account log
part_first asked answer log =
    ap (λ (c : Bool). map (λ (entry : DeskCall × Answer). (entry.0.call, entry.1)) (if c then (asked, answer) ∷ filter (λ (entry : DeskCall × Answer). entry.0.account == asked.account) log else filter (λ (entry : DeskCall × Answer). entry.0.account == asked.account) log))
    (eq-eqb asked.account asked.account refl)

-- each account's calls are replied, and so all calls are
module _ (accounts : ℕ) where
  after_first : (asked : DeskCall) (answer : Answer) (log : List (DeskCall × Answer)) (account : ℕ) → AreReplied (part account ((asked, answer) ∷ log)) → AreReplied (part account log)
  after_first asked answer log account all = by (asked.account == account) answer all
    where
      by : (c : Bool) (a : Answer) → AreReplied (map (λ (entry : DeskCall × Answer). (entry.0.call, entry.1)) (if c then (asked, a) ∷ filter (λ (entry : DeskCall × Answer). entry.0.account == account) log else filter (λ (entry : DeskCall × Answer). entry.0.account == account) log))
          → AreReplied (part account log)
      by true (replied given) all = all
      by true store all = absurd all
      by true journal_full all = absurd all
      by false a all = all

  all_replied : (log : List (DeskCall × Answer)) → All (λ (entry : DeskCall × Answer). MayAsk accounts entry.0) log → ((account : ℕ) → account < accounts → AreReplied (part account log)) → AreReplied log
  all_replied [] may each = tt
  all_replied ((asked, answer) ∷ log) may each =
      let first : MayAsk accounts asked = may 0 (asked, answer) (omega arith) in
      let here : AreReplied ((asked.call, answer) ∷ part asked.account log) = subst AreReplied (part_first asked answer log) (each asked.account first.account) in
      let rest = all_replied log (λ k d lt. may (suc k) d (omega (arith, lt))) (λ account lt. after_first asked answer log account (each account lt)) in
      by answer here rest
    where
      by : (a : Answer) → AreReplied ((asked.call, a) ∷ part asked.account log) → AreReplied log → AreReplied ((asked, a) ∷ log)
      by (replied given) here rest = rest
      by store here rest = absurd here
      by journal_full here rest = absurd here

pub logs_without_failure_are_replied : LogsWithoutFailureAreReplied
logs_without_failure_are_replied shares shares' log is none = (
  is,
  all_replied (length shares) log is.asked (λ account lt.
      let each = is.each account in
      let share' = share_at shares' account in
      let fine : HasNoFailure share' = none account no_share (subst (λ (n : ℕ). account < n) (sym is.count) lt) in
      replied_each (share_at shares account).origin (share_at shares account).caller (share_at shares account).seen share'.seen (part account log) each.logged
      fine.no_fault (subst (λ (o : Origin). length share'.seen < o.journal) each.origin fine.room)),
)
