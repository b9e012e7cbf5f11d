-- Setups of accounts: what an account is opened with.
use Rattle.std.specs.Prelude.{◌≡◌, ◌≤◌, ℕ, Bool, true, not, ◌&&◌, List, [], ◌∷◌, length, slice_get, codes, bytes_eq, Some}
use Rattle.std.specs.List.{list_all, list_any}
use Rattle.quota_roots.specs.declared.setup.Setup.{Setup}
use Rattle.quota_roots.specs.MailboxNames.{canonical, is_mailbox_name}

-- a mailbox name in canonical spelling
abbrev pub is_mailbox : List ℕ → Bool
is_mailbox name = is_mailbox_name name && bytes_eq (canonical name) name

-- no name occurs twice
abbrev pub are_different : List (List ℕ) → Bool
are_different [] = true
are_different (name ∷ names) =
    not (list_any (λ other. bytes_eq other name) names) && are_different names

-- 1 to 256 different mailboxes in canonical spelling, with INBOX first
pub record AreMailboxes (mailboxes : List (List ℕ)) : Type 0 where
  pub inbox : slice_get mailboxes 0 ≡ Some (codes "INBOX")
  pub few : length mailboxes ≤ 256
  pub named : list_all is_mailbox mailboxes ≡ true
  pub different : are_different mailboxes ≡ true

-- limits for each root, mailboxes as above, and room for 1 to 524288 entries of history
pub record IsSound (setup : Setup) : Type 0 where
  pub limited : length setup.limits ≡ length setup.roots
  pub mailboxes : AreMailboxes setup.mailboxes
  pub some_room : 1 ≤ setup.journal
  pub most_room : setup.journal ≤ 524288
