-- A reply names roots that are there.
use Rattle.std.proofs.Common.{ℕ, List}
use Rattle.quota_roots.specs.declared.root.RootSpec.{RootSpec}
use Rattle.account_core.specs.declared.calls.Reply.{Reply}
use Rattle.account_core.specs.declared.calls.Reply.TheVariants.{Quota, LimitsSet, Roots}
use Rattle.account_core.specs.Forms.{NamesRoots}
use Rattle.imap_front.specs.Answers.{HasRootsOf}

pub has_roots : (roots : List RootSpec) (mailboxes : List (List ℕ)) (given : Reply) → NamesRoots roots mailboxes given → HasRootsOf roots given
has_roots roots mailboxes (Quota row) names = names
has_roots roots mailboxes (LimitsSet row) names = names
has_roots roots mailboxes (Roots rows) names = names
has_roots roots mailboxes given names = tt
