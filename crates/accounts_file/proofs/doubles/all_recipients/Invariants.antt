use Rattle.std.proofs.Common.{◌≡◌, take}
use Rattle.accounts_file.specs.Doubles.{all_recipients}
use Rattle.accounts_file.proofs.doubles.all_recipients.Given as goal

abbrev pub invariant-loop-draft : goal.invariant-loop-draft
invariant-loop-draft l = l.names.items ≡ all_recipients (take l.draft-index l.drafts)
