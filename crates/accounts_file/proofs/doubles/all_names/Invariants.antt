use Rattle.std.proofs.Common.{◌≡◌, map, take}
use Rattle.accounts_file.specs.declared.entry.AccountEntry.{AccountEntry}
use Rattle.accounts_file.proofs.doubles.all_names.Given as goal

abbrev pub invariant-loop-draft : goal.invariant-loop-draft
invariant-loop-draft l = l.names.items ≡ map (λ (account : AccountEntry). account.name) (take l.draft-index l.drafts)
