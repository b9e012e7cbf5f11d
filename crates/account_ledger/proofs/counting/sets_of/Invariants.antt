use Rattle.std.proofs.Common.{◌≡◌, map, take}
use Rattle.quota_roots.specs.Governing.{governing}
use Rattle.account_ledger.proofs.counting.sets_of.Given as goal

abbrev pub invariant-loop-mailbox : goal.invariant-loop-mailbox
invariant-loop-mailbox l = l.sets ≡ map (governing l.roots) (take l.mailbox-index l.mailboxes)
