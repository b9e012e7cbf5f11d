-- A desk's share of an account: what it knows of the account's history.
use Rattle.std.specs.Prelude.{◌≡◌, ◌≤◌, ◌<◌, ℕ, List, [], length, slice_index_or, None}
use Rattle.std.specs.List.{All}
use Rattle.account_core.specs.declared.calls.Entry.{Entry}
use Rattle.account_core.specs.Histories.{Origin, calls_by}
use Rattle.account_core.specs.Legality.{fault_count}

pub record Share : Type 0 where
  -- where the account's history begins
  pub origin : Origin
  -- the number that the desk's own entries have for their caller
  pub caller : ℕ
  -- the entries that the desk has seen; the history begins with them
  pub seen : List Entry

-- the desk's own entries
abbrev pub mine : Share → List Entry
mine share = calls_by share.caller share.seen

-- the share of an account that is not there
abbrev pub no_share : Share
no_share = record {
  origin = record { roots = []; journal = 0; epoch = 0; account = None };
  caller = 0;
  seen = [];
}

-- the share of the account of this number
abbrev pub share_at : List Share → ℕ → Share
share_at shares account = slice_index_or shares account no_share

-- no more entries were seen than the journal takes
abbrev pub IsWithinJournal : Share → Type 0
IsWithinJournal share = length share.seen ≤ share.origin.journal

abbrev pub AreWithinJournals : List Share → Type 0
AreWithinJournals shares = All IsWithinJournal shares

-- no entry that was seen has fault, and the history has room for one more
pub record HasNoFailure (share : Share) : Type 0 where
  pub no_fault : fault_count share.seen ≡ 0
  pub room : length share.seen < share.origin.journal

abbrev pub HaveNoFailure : List Share → Type 0
HaveNoFailure shares = All HasNoFailure shares
