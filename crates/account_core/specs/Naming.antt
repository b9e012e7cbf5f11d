-- When no two messages of a mailbox have the same base.
use Rattle.std.specs.Prelude.{◌≡◌, ◌<◌, ◌≤◌, ◌+◌, ◌^◌, ℕ, List, length}
use Rattle.quota_roots.specs.declared.root.RootSpec.{RootSpec}
use Rattle.account_core.specs.declared.calls.Entry.{Entry}
use Rattle.account_core.specs.Account.{Account, Message}
use Rattle.account_core.specs.Delivering.{delivered_base}
use Rattle.account_core.specs.Messages.{how_many}
use Rattle.account_core.specs.History.{replay}

-- no mailbox has a base twice
abbrev pub AreApart : List Message → Type 0
AreApart messages = (mailbox base : List ℕ) → how_many mailbox base messages ≤ 1

-- no message has the base of a delivery that is yet to come
abbrev pub AreUnused : Account → Type 0
AreUnused account =
    (number : ℕ) → account.deliveries < number → number < 2 ^ 64 → (mailbox : List ℕ)
    → how_many mailbox (delivered_base account.epoch number) account.messages ≡ 0

-- If at the opening no mailbox has a base twice and no message has the base of a delivery yet to
-- come, then no mailbox has a base twice after any history. The deliveries at the opening and the
-- entries must be fewer than 2 ^ 64 together.
abbrev pub NamesStayApart : Type 0
NamesStayApart =
    (roots : List RootSpec) (opening : Account) (history : List Entry)
    → opening.deliveries + length history < 2 ^ 64
    → AreApart opening.messages → AreUnused opening
    → AreApart (replay roots opening history).messages
