-- Histories under several callers: where a history begins, which entries begin it, and which of its
-- entries are a caller's.
use Rattle.std.specs.Prelude.{◌≡◌, ◌<◌, ◌==◌, ℕ, if◌then◌else◌, List, [], ◌∷◌, ◌++◌, Option}
use Rattle.quota_roots.specs.declared.root.RootSpec.{RootSpec}
use Rattle.account_core.specs.declared.calls.Entry.{Entry}
use Rattle.account_core.specs.Account.{Account}

-- Where a history begins. The opening account is known if the account's store tells contracts what
-- it holds.
pub record Origin : Type 0 where
  pub roots : List RootSpec
  -- the most entries that the history may have
  pub journal : ℕ
  -- the second at which the account was opened
  pub epoch : ℕ
  pub account : Option Account

-- the history begins with these entries: they are a prefix of it
abbrev pub Begins : List Entry → List Entry → Type 0
Begins entries history = (rest : List Entry) × (entries ++ rest ≡ history)

-- each of these lists is a prefix of the history
abbrev pub EachBegins : List (List Entry) → List Entry → Type 0
EachBegins [] history = Unit {0}
EachBegins (entries ∷ lists) history = Begins entries history × EachBegins lists history

-- the entries of one caller, in their order
abbrev pub calls_by : ℕ → List Entry → List Entry
calls_by caller [] = []
calls_by caller (entry ∷ entries) =
    if entry.caller == caller then entry ∷ calls_by caller entries else calls_by caller entries

-- each entry's caller has a number below this one
abbrev pub CallersBelow : ℕ → List Entry → Type 0
CallersBelow callers [] = Unit {0}
CallersBelow callers (entry ∷ entries) = (entry.caller < callers) × CallersBelow callers entries
