-- What a lock leaves when it is closed.
use Rattle.std.specs.Prelude.{◌≡◌, List, length}
use Rattle.account_core.specs.declared.calls.Entry.{Entry}
use Rattle.account_core.specs.Histories.{Origin, Begins, EachBegins, calls_by, CallersBelow}
use Rattle.account_lock.specs.Known.{View}

-- a value with the whole history; the view of the first pass stands for all passes and all entries
pub record Leaves {A : Type 0} (origin : A → Origin) (history : A
    → List Entry) (v : View) (x : A) : Type 0 where
  pub held : v.held ≡ v.made
  pub begun : origin x ≡ v.origin
  pub seen : Begins v.seen (history x)
  pub olds : EachBegins v.olds (history x)
  pub callers : CallersBelow v.made (history x)
  pub own : length (history x) ≡ v.own
  pub mine : calls_by v.number (history x) ≡ v.mine
