-- Logs of calls, one after another.
use Rattle.std.proofs.Common.{true, false, ◌≡◌, ℕ, List, [], ◌∷◌, ◌++◌, refl, sym, ap, ◌∙◌, subst, append_assoc, append-nil}
use Rattle.account_core.specs.declared.calls.Call.{Call}
use Rattle.account_core.specs.declared.calls.Entry.{Entry}
use Rattle.account_core.specs.History.{Answer, replied, store, journal_full, entry_of}
use Rattle.account_core.specs.Histories.{Origin, calls_by}
use Rattle.account_core.specs.Logs.{Sits, AreOthers, AreNone, Logged, entries_of, LogsJoin, LogsAreTheCallersOwn}
use Rattle.account_core.proofs.Histories.{first_own, first_other, calls_by_both}

module _ (Others : List Entry → Type 0) (both : (x y : List Entry) → Others x → Others y → Others (x ++ y)) (origin : Origin) (number : ℕ) where
  -- entries of others that come before a log
  pub logged_behind : (seen others seen' : List Entry) (log : List (Call × Answer)) → Others others → Logged Others origin number (seen ++ others) log seen' → Logged Others origin number seen log seen'
  logged_behind seen others seen' [] is (more, also, e) = (others ++ more, both others more is also, e ∙ append_assoc seen others more)
  logged_behind seen others seen' ((call, answer) ∷ log) is (more, next, also, sits, rest) =
      (others ++ more, next, both others more is also, subst (λ s. Sits origin number s call answer next) (append_assoc seen others more) sits, rest)

  -- one log, and then another
  pub logged_append : (a b c : List Entry) (log more : List (Call × Answer)) → Logged Others origin number a log b → Logged Others origin number b more c → Logged Others origin number a (log ++ more) c
  logged_append a b c [] more (others, is, e) second = logged_behind a others c more is (subst (λ s. Logged Others origin number s more c) e second)
  logged_append a b c ((call, answer) ∷ log) more (others, next, is, sits, rest) second = (others, next, is, sits, logged_append next b c log more rest second)

-- without others
pub none_both : (x y : List Entry) → AreNone x → AreNone y → AreNone (x ++ y)
none_both x y i j = ap (λ l. l ++ y) i ∙ j

pub logged_nothing : (origin : Origin) (number : ℕ) (seen : List Entry) → Logged AreNone origin number seen [] seen
logged_nothing origin number seen = ([], refl, sym (append-nil seen))

pub logged_call : (origin : Origin) (number : ℕ) (seen seen' : List Entry) (call : Call) (answer : Answer) → Sits origin number seen call answer seen' → Logged AreNone origin number seen ((call, answer) ∷ []) seen'
logged_call origin number seen seen' call answer sits =
    ([], seen', refl, subst (λ s. Sits origin number s call answer seen') (sym (append-nil seen)) sits, logged_nothing origin number seen')

-- the entries of two logs
pub entries-append : (number : ℕ) (log more : List (Call × Answer)) → entries_of number (log ++ more) ≡ entries_of number log ++ entries_of number more
entries-append number [] more = refl
entries-append number ((call, replied given) ∷ log) more = ap (λ l. entry_of number call false ∷ l) (entries-append number log more)
entries-append number ((call, store) ∷ log) more = ap (λ l. entry_of number call true ∷ l) (entries-append number log more)
entries-append number ((call, journal_full) ∷ log) more = entries-append number log more

-- what a call adds
pub sits_next : (origin : Origin) (number : ℕ) (entries entries' : List Entry) (call : Call) (answer : Answer) → Sits origin number entries call answer entries'
    → entries' ≡ entries ++ entries_of number ((call, answer) ∷ [])
sits_next origin number entries entries' call (replied given) sits = sits.2
sits_next origin number entries entries' call store sits = sits.1
sits_next origin number entries entries' call journal_full sits = sits.1 ∙ sym (append-nil entries)

-- with others
others_both : (number : ℕ) (x y : List Entry) → AreOthers number x → AreOthers number y → AreOthers number (x ++ y)
others_both number [] y i j = j
others_both number (entry ∷ x) y i j = (i.0, others_both number x y i.1 j)

pub logs_join : LogsJoin
logs_join origin number first between last log more one two =
    (logged_append (AreOthers number) (others_both number) origin number first between last log more one two, entries-append number log more)

-- others have no entry of the caller, and its log has no other
pub calls_by_others : (number : ℕ) (others : List Entry) → AreOthers number others → calls_by number others ≡ []
calls_by_others number [] apart = refl
calls_by_others number (entry ∷ others) apart = first_other number entry others apart.0 ∙ calls_by_others number others apart.1

calls_by_log : (number : ℕ) (log : List (Call × Answer)) → calls_by number (entries_of number log) ≡ entries_of number log
calls_by_log number [] = refl
calls_by_log number ((call, replied given) ∷ log) =
    first_own number (entry_of number call false) (entries_of number log) refl ∙ ap (λ l. entry_of number call false ∷ l) (calls_by_log number log)
calls_by_log number ((call, store) ∷ log) =
    first_own number (entry_of number call true) (entries_of number log) refl ∙ ap (λ l. entry_of number call true ∷ l) (calls_by_log number log)
calls_by_log number ((call, journal_full) ∷ log) = calls_by_log number log

module _ (number : ℕ) (seen others : List Entry) (apart : AreOthers number others) where
  own_stay : calls_by number (seen ++ others) ≡ calls_by number seen
  own_stay = calls_by_both number seen others ∙ ap (λ l. calls_by number seen ++ l) (calls_by_others number others apart) ∙ append-nil (calls_by number seen)

  own_more : (next : List Entry) (log : List (Call × Answer)) → next ≡ (seen ++ others) ++ entries_of number log → calls_by number next ≡ calls_by number seen ++ entries_of number log
  own_more next log e =
      ap (calls_by number) e ∙ calls_by_both number (seen ++ others) (entries_of number log)
      ∙ ap (λ l. l ++ calls_by number (entries_of number log)) own_stay ∙ ap (λ l. calls_by number seen ++ l) (calls_by_log number log)

pub logs_are_own : LogsAreTheCallersOwn
logs_are_own origin number seen seen' [] (others, apart, e) = ap (calls_by number) e ∙ own_stay number seen others apart ∙ sym (append-nil (calls_by number seen))
logs_are_own origin number seen seen' ((call, answer) ∷ log) (others, next, apart, sits, rest) =
    let one = own_more number seen others apart next ((call, answer) ∷ []) (sits_next origin number (seen ++ others) next call answer sits) in
    logs_are_own origin number next seen' log rest
    ∙ ap (λ l. l ++ entries_of number log) one
    ∙ append_assoc (calls_by number seen) (entries_of number ((call, answer) ∷ [])) (entries_of number log)
    ∙ ap (λ l. calls_by number seen ++ l) (sym (entries-append number ((call, answer) ∷ []) log))
