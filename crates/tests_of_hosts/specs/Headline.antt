-- What the calls of a session did to the histories of a host's accounts.
use Rattle.std.specs.Prelude.{◌≡◌, ℕ, List, ◌++◌}
use Rattle.account_core.specs.History.{Answer}
use Rattle.account_core.specs.Histories.{Begins}
use Rattle.account_core.specs.Logs.{entries_of}
use Rattle.desk.specs.Asking.{DeskCall}
use Rattle.desk.specs.Logs.{AreReplied, IsLog, part}
use Rattle.desk.specs.Shares.{Share, mine, share_at}

-- Each call, with its answer, has its own place in its account's one history, which begins with all
-- that the caller had seen. The history holds each call once: the caller's own entries grew by
-- those of the calls, and by no others.
pub record IsPlaced (shares shares' : List Share) (log : List (DeskCall × Answer)) : Type 0 where
  pub logged : IsLog shares shares' log
  pub begins : (account : ℕ)
      → Begins (share_at shares account).seen (share_at shares' account).seen
  pub once : (account : ℕ)
      → mine (share_at shares' account)
      ≡ mine (share_at shares account)
      ++ entries_of (share_at shares account).caller (part account log)

-- and each got the account machine's reply
abbrev pub IsRepliedAndPlaced : (shares shares' : List Share) → List (DeskCall × Answer) → Type 0
IsRepliedAndPlaced shares shares' log = IsPlaced shares shares' log × AreReplied log
