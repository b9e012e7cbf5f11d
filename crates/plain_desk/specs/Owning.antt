-- Accounts with one owner: the owner's calls are all that their histories have.
use Rattle.std.specs.Prelude.{◌≡◌, ◌≤◌, ℕ, List, [], length, slice_index_or, None}
use Rattle.std.specs.List.{All}
use Rattle.account_core.specs.Histories.{calls_by}
use Rattle.account_ledger.specs.States.{State, IsInOrder}
use Rattle.desk.specs.Shares.{Share, no_share}

-- the state of an account that is not there
abbrev pub no_state : State
no_state = record {
  store = record {
    told = None;
    faults = 0;
    append_faults = 0;
    lists = 0;
    roots = [];
    mailboxes = [];
    epoch = 0;
    standings = [];
    lengths = [];
  };
  origin = no_share.origin;
  history = [];
  first_faults = 0;
}

-- the state of the account of this number
abbrev pub state_at : List State → ℕ → State
state_at states account = slice_index_or states account no_state

-- the owner's share of an account: it is caller 0, and has seen the whole history
abbrev pub share_of : State → Share
share_of s = record { origin = s.origin; caller = 0; seen = s.history }

-- the account has no entry yet
abbrev pub IsFresh : State → Type 0
IsFresh s = s.history ≡ []

-- the account is in order, and each entry of its history is the owner's
pub record IsOwned (s : State) : Type 0 where
  pub order : IsInOrder s
  pub whole : calls_by 0 s.history ≡ s.history

-- accounts that one owner may ask at a desk
pub record AreOwned (states : List State) : Type 0 where
  pub each : All IsOwned states
  pub few : length states ≤ 32
