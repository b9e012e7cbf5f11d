use Rattle.std.proofs.Common.{◌≡◌, ◌++◌, None, map}
use Rattle.std.specs.Prelude.{All}
use Rattle.std.specs.Vec.Iter.{into_iter_items}
use Rattle.quota_roots.specs.Setups.{IsSound}
use Rattle.accounts_file.specs.declared.entry.AccountEntry.{AccountEntry}
use Rattle.accounts_file.specs.Doubles.{own_double}
use Rattle.accounts_file.specs.Refusals.{first_in}
use Rattle.accounts_file.proofs.doubles.entries_of.Given as goal

abbrev pub invariant-loop-draft : goal.invariant-loop-draft
invariant-loop-draft l =
    (l.yielded ++ into_iter_items l.draft-iterator ≡ into_iter_items l.initial.draft-iterator)
    × (l.entries.items ≡ l.yielded)
    × (first_in (map own_double l.yielded) ≡ None)
    × All (λ (entry : AccountEntry). IsSound entry.setup) l.entries.items
