-- The rule of a lock: what holds, between any two steps, of its words, its slot and all views. Word
-- 0 counts the tickets that were drawn, word 1 the tickets that were served, word 2 the entries,
-- and word 3 the passes.
use Rattle.std.specs.Prelude.{◌≡◌, ◌≢◌, ℕ, ◌+◌, ◌%◌, ◌^◌, ◌<◌, ◌≤◌, Bool, true, false, List, [], ◌∷◌, length, Option, Some, ◌⊎◌}
use mathlib.Core.Option as maybe
use mathlib.Core.Option.{some, none}
use lib.ListN.{get_elem?}
use Rattle.atomic_table.specs.Table.{State}
use Rattle.account_core.specs.declared.calls.Entry.{Entry}
use Rattle.account_core.specs.Histories.{Origin, Begins, EachBegins, calls_by, CallersBelow}
use Rattle.account_lock.specs.Known.{View, Stage, resting, waiting, serving, spent}

-- the view at this seat
abbrev pub At : List View → ℕ → View → Type 0
At views seat v = get_elem? views seat ≡ some v

-- some seat has a view that meets P
abbrev pub Exists : (View → Type 0) → List View → Type 0
Exists P views = (seat : ℕ) × (v : View) × At views seat v × P v

-- the sum of a number over all views
abbrev pub total : (View → ℕ) → List View → ℕ
total f [] = 0
total f (v ∷ vs) = f v + total f vs

-- 1 if a ticket is out
abbrev pub out : Stage → ℕ
out resting = 0
out waiting = 1
out serving = 1
out spent = 0

abbrev pub tickets_of : View → ℕ
tickets_of v = out v.stage

abbrev pub held_of : View → ℕ
held_of v = v.held

abbrev pub own_of : View → ℕ
own_of v = v.own

abbrev pub is_live : Stage → Bool
is_live resting = true
is_live waiting = true
is_live serving = true
is_live spent = false

abbrev pub IsLive : View → Type 0
IsLive v = is_live v.stage ≡ true

-- 1 if a pass is being made
abbrev pub more : Bool → ℕ
more true = 1
more false = 0

-- this ticket is out with the view
abbrev pub HasTicket : ℕ → View → Type 0
HasTicket t v = (out v.stage ≡ 1) × (v.ticket ≡ t)

-- a ticket that is out was drawn and is not served yet, or is the one that is served
abbrev pub InLine : ℕ → ℕ → ℕ → Stage → Type 0
InLine served drawn ticket resting = Unit {0}
InLine served drawn ticket waiting = (served ≤ ticket) × (ticket < drawn)
InLine served drawn ticket serving = (ticket ≡ served) × (served < drawn)
InLine served drawn ticket spent = Unit {0}

-- what a pass knows of the one history
pub record Knows (start : Origin) (log : List Entry) (limit made : ℕ) (pending : Bool)
    (v : View) : Type 0 where
  pub origin : v.origin ≡ start
  pub limited : v.limit ≡ limit
  pub seen : Begins v.seen log
  pub olds : EachBegins v.olds log
  pub mine : calls_by v.number log ≡ v.mine
  pub mine_seen : calls_by v.number v.seen ≡ v.mine
  pub part : 1 ≤ v.held
  pub numbered : v.number < made + more pending
  pub first : v.number ≡ 0 → (v.made ≡ made) × (v.pending ≡ pending)

abbrev pub Fits : Origin → List Entry → ℕ → ℕ → Bool → View → Stage → Type 0
Fits start log limit made pending v resting = Knows start log limit made pending v
Fits start log limit made pending v waiting = Knows start log limit made pending v
Fits start log limit made pending v serving = Knows start log limit made pending v × (v.seen ≡ log)
Fits start log limit made pending v spent = (v.held ≡ 0) × (v.own ≡ 0)

-- two live passes have different numbers, and two tickets that are out differ
abbrev pub Apart : View → View → Type 0
Apart v w = (IsLive v → IsLive w → v.number ≢ w.number)
    × (out v.stage ≡ 1 → out w.stage ≡ 1 → v.ticket ≢ w.ticket)

-- the pass is live and has seen the whole history
abbrev pub HasSeen : List Entry → View → Type 0
HasSeen log v = IsLive v × (v.seen ≡ log)

abbrev pub IsFirst : View → Type 0
IsFirst v = IsLive v × (v.number ≡ 0)

abbrev pub IsServing : View → Type 0
IsServing v = v.stage ≡ serving

module _ {A : Type 0} (origin : A → Origin) (history : A → List Entry) where
  -- the value is at home and has the one history, or it is out with the pass that has the turn
  abbrev pub Home : List (maybe.Option (Option A)) → List View → Origin → List Entry → Type 0
  Home homes views start log =
      ((x : A) × (homes ≡ some (Some x) ∷ []) × (origin x ≡ start) × (history x ≡ log)
      × ((seat : ℕ) (v : View) → At views seat v → v.stage ≢ serving))
      ⊎ ((homes ≡ none ∷ []) × Exists IsServing views)

  pub record KeepsOrder (limit : ℕ) (s : State (Option A) View) : Type 0 where
    pub drawn : ℕ
    pub served : ℕ
    pub log : List Entry
    pub made : ℕ
    pub start : Origin
    pub pending : Bool
    pub words : s.words ≡ (drawn % 2 ^ 64) ∷ (served % 2 ^ 64) ∷ (length log % 2 ^ 64) ∷ made ∷ []
    -- the tickets that are out are those from the one that is served up to the next to be drawn,
    -- each with one view
    pub in_line : (seat : ℕ) (v : View) → At s.views seat v → InLine served drawn v.ticket v.stage
    pub lined : (t : ℕ) → served ≤ t → t < drawn → Exists (HasTicket t) s.views
    pub tickets : total tickets_of s.views + served ≡ drawn
    -- one value: at home with the whole history, or out with the pass that has the turn
    pub home : Home s.homes s.views start log
    -- one history: what each pass has seen is a prefix of it, and some pass has seen all of it
    pub fits : (seat : ℕ) (v : View) → At s.views seat v
        → Fits start log limit made pending v v.stage
    pub longest : Exists (HasSeen log) s.views
    -- the numbers of views and callers
    pub apart : (i j : ℕ) (v w : View) → At s.views i v → At s.views j w → i ≢ j → Apart v w
    pub first : Exists IsFirst s.views
    pub parts : total held_of s.views ≡ made + more pending
    pub entries : total own_of s.views ≡ length log
    pub callers : CallersBelow (made + more pending) log
    pub limited : made + more pending ≤ limit
    pub narrow : limit < 2 ^ 32
