-- The bound on what an account's messages add up to, after any history.
use Rattle.std.specs.Prelude.{◌≤◌, ◌<◌, ◌+◌, ◌*◌, ◌^◌, ℕ, List, length, sum_by}
use Rattle.quota_roots.specs.declared.root.RootSpec.{RootSpec}
use Rattle.account_core.specs.declared.calls.Entry.{Entry}
use Rattle.account_core.specs.Account.{Account, Message}
use Rattle.account_core.specs.History.{replay}
use Rattle.account_core.specs.Legality.{AreServed}
use Rattle.account_core.specs.Naming.{AreApart, AreUnused}

-- What holds of an account after this number of entries: the sums over its messages are bounded,
-- and no two messages of a mailbox have the same base.
pub record IsOrderly (entries : ℕ) (account : Account) : Type 0 where
  -- At the opening there are at most 2 ^ 60 octets and 2 ^ 20 messages. Each entry adds at most one
  -- message, of at most 67108864 octets.
  pub octets : sum_by (λ (m : Message). m.octets) account.messages ≤ 2 ^ 60 + 67108864 * entries
  pub count : length account.messages ≤ 1048576 + entries
  -- no mailbox has a base twice, and no message has the base of a delivery that is yet to come
  pub apart : AreApart account.messages
  pub unused : AreUnused account
  pub deliveries : account.deliveries ≤ entries
  pub generation : account.generation ≤ entries

-- An account that is orderly at the opening stays so after any history of fewer than 2 ^ 63 entries
-- whose messages have at most 67108864 octets each.
abbrev pub AccountsStayOrderly : Type 0
AccountsStayOrderly =
    (roots : List RootSpec) (opening : Account) (history : List Entry)
    → AreServed history → length history < 2 ^ 63
    → IsOrderly 0 opening → IsOrderly (length history) (replay roots opening history)
