-- The account that a history makes.
use Rattle.std.proofs.Common.{◌≡◌, List, [], ◌∷◌, ◌++◌, refl}
use Rattle.quota_roots.specs.declared.root.RootSpec.{RootSpec}
use Rattle.account_core.specs.declared.calls.Entry.{Entry}
use Rattle.account_core.specs.Account.{Account}
use Rattle.account_core.specs.History.{replay, account_after}

-- one entry more
pub replay_more : (roots : List RootSpec) (account : Account) (history : List Entry) (entry : Entry) → replay roots account (history ++ entry ∷ []) ≡ account_after roots (replay roots account history) entry
replay_more roots account [] entry = refl
replay_more roots account (first ∷ history) entry = replay_more roots (account_after roots account first) history entry
