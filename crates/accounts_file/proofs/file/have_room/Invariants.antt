use Rattle.std.proofs.Common.{◌≡◌, ◌+◌, ◌≤◌, drop}
use Rattle.accounts_file.specs.Files.{all_journals}
use Rattle.accounts_file.proofs.file.have_room.Given as goal

abbrev pub invariant-loop-account : goal.invariant-loop-account
invariant-loop-account l = (l.total + all_journals (drop l.account-index l.accounts) ≡ all_journals l.accounts) × (l.total ≤ 4194304)
