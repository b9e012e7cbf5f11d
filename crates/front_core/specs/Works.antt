-- What the work for a request does to a desk.
use Rattle.std.specs.Prelude.{◌≡◌, ◌⊎◌, ℕ, Bool, nat_lt, List, [], ◌∷◌, length}
use Rattle.wire_io.specs.declared.ends.After.{After}
use Rattle.wire_io.specs.Work.{Work, Does, AsksFirst}
use Rattle.account_core.specs.declared.calls.Call.{Call}
use Rattle.account_core.specs.History.{Answer}
use Rattle.desk.specs.Asking.{DeskCall}
use Rattle.desk.specs.Logs.{IsLog}
use Rattle.desk.specs.Shares.{Share}

-- more bytes than a name may have
abbrev pub is_too_long : List ℕ → Bool
is_too_long name = nat_lt 255 (length name)

-- this call on the account of this number, with the octets of its message
abbrev pub call_on : ℕ → Call → (octets : List ℕ) → DeskCall
call_on account call octets = record { account = account; call = call; bytes = octets }

module _ (shares shares' : List Share) where
  -- the call was made, and this is the text for its answer
  abbrev pub AnswersCall : DeskCall → (words : Answer → List ℕ) → (text : List ℕ) → Type 0
  AnswersCall asked words text = (answer : Answer) × (text ≡ words answer)
      × IsLog shares shares' ((asked, answer) ∷ [])

  -- the call was made, or was not
  abbrev pub LeavesCall : DeskCall → Type 0
  LeavesCall asked = (log : List (DeskCall × Answer)) × IsLog shares shares' log
      × ((log ≡ []) ⊎ ((answer : Answer) × (log ≡ (asked, answer) ∷ [])))

  -- the work was done, and this is its text
  abbrev pub DoesWork : Work DeskCall Answer → (text : List ℕ) → After → Type 0
  DoesWork work text after = (log : List (DeskCall × Answer)) × Does work log text after
      × IsLog shares shares' log

  -- some first calls of the work were made, or none
  abbrev pub LeavesWork : Work DeskCall Answer → Type 0
  LeavesWork work = (log : List (DeskCall × Answer)) × IsLog shares shares' log
      × AsksFirst work log
