use Rattle.std.proofs.Common.{◌≡◌, drop}
use Rattle.quota_roots.specs.MailboxNames.{is_mailbox_name}
use Rattle.quota_roots.proofs.MailboxLemmas.{reads}
use Rattle.quota_roots.proofs.mailbox.is_mailbox_name.Given as goal

abbrev pub invariant-loop-byte : goal.invariant-loop-byte
invariant-loop-byte l = reads l.at_edge (drop l.byte-index l.bytes) ≡ is_mailbox_name l.bytes
