use Rattle.std.proofs.Common.{◌≡◌, map, take, drop}
use Rattle.toml.specs.View.{view}
use Rattle.accounts_file.specs.Accounts.{account_in, refusal_in}
use Rattle.accounts_file.specs.Refusals.{first_in}
use Rattle.accounts_file.proofs.accounts.read_values.Given as goal

abbrev pub invariant-loop-value : goal.invariant-loop-value
invariant-loop-value l =
    (first_in (map refusal_in (map view (drop l.value-index l.values))) ≡ first_in (map refusal_in (map view l.values)))
    × (l.drafts.items ≡ map account_in (map view (take l.value-index l.values)))
