-- Worked entries: the quota objects that they touch, and the version of their history.
use Rattle.std.specs.Prelude.{◌≡◌, true, List, [], ◌∷◌, Some, None, codes}
use Rattle.quota_units.specs.declared.resource.Resource.TheVariants.{Storage, Message as Messages}
use Rattle.account_core.specs.declared.calls.Call.TheVariants.{Remove, Move, Quota as QuotaCall}
use Rattle.account_core.specs.declared.calls.Entry.{Entry}
use Rattle.account_core.specs.Account.{Account}
use Rattle.account_core.specs.History.{entry_of}
use Rattle.account_core.specs.Worked.{plain_message, one_root, made, marked}
use Rattle.account_core.specs.WorkedLimits.{change, delivery, empty, half_full, two_limits, two_roots}
use Rattle.account_core.specs.Touching.{objects_of, touched_by, version}

-- the account of two roots, with a message of 10 octets in INBOX
abbrev pub one_message : Account
one_message = record two_limits { messages = plain_message (codes "INBOX") (codes "1.mx") 10 ∷ [] }

-- two deliveries, one of them to Trash, a mark, and a limit that is removed and set again
abbrev pub five_entries : List Entry
five_entries =
    made (delivery (codes "INBOX") 7) ∷ made (delivery (codes "Trash") 8) ∷ marked (codes "S")
    ∷ made (change [] None None) ∷ made (change [] (Some 2048) None) ∷ []

-- A delivery, a removal and a move touch each object whose used number they change. A change of
-- limits touches each object whose limit it sets, changes or removes. A delivery to Trash, a mark,
-- a question, a change that leaves the limits as they were, and an entry with fault touch none.
-- The version counts the entries that touched some object.
pub record EntriesTouchSo : Type 0 where
  pub objects : objects_of two_roots two_limits ≡ (0, Messages) ∷ (0, Storage) ∷ (1, Storage) ∷ []
  pub delivered : touched_by two_roots two_limits (made (delivery (codes "Lists") 10))
      ≡ (0, Messages) ∷ (0, Storage) ∷ (1, Storage) ∷ []
  pub no_octets : touched_by two_roots two_limits (made (delivery (codes "Lists") 0))
      ≡ (0, Messages) ∷ []
  pub removed : touched_by two_roots one_message (made (Remove (codes "INBOX") (codes "1.mx")))
      ≡ (0, Messages) ∷ (0, Storage) ∷ []
  pub moved : touched_by two_roots one_message
      (made (Move (codes "INBOX") (codes "1.mx") (codes "Lists")))
      ≡ (1, Storage) ∷ []
  pub ungoverned : touched_by one_root empty (made (delivery (codes "Trash") 8)) ≡ []
  pub marked_so : touched_by one_root half_full (marked (codes "S")) ≡ []
  pub asked : touched_by one_root half_full (made (QuotaCall [])) ≡ []
  pub failed : touched_by one_root empty (entry_of 0 (delivery (codes "INBOX") 8) true) ≡ []
  pub limit_set : touched_by one_root empty (made (change [] (Some 1024) (Some 10)))
      ≡ (0, Messages) ∷ []
  pub limit_changed : touched_by one_root empty (made (change [] (Some 2048) None))
      ≡ (0, Storage) ∷ []
  pub limit_removed : touched_by one_root empty (made (change [] None None)) ≡ (0, Storage) ∷ []
  pub limit_kept : touched_by one_root empty (made (change [] (Some 1024) None)) ≡ []
  pub counted : version one_root half_full five_entries ≡ 3
