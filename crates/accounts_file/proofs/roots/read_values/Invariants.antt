use Rattle.std.proofs.Common.{◌≡◌, true, length, map, take, drop}
use Rattle.toml.specs.View.{view}
use Rattle.accounts_file.specs.Refusals.{first_in}
use Rattle.accounts_file.specs.RootTables.{all_limits, root_refusals, specs_of}
use Rattle.accounts_file.proofs.RootLemmas.{are_right_from}
use Rattle.accounts_file.proofs.roots.read_values.Given as goal

abbrev pub invariant-loop-root : goal.invariant-loop-root
invariant-loop-root l =
    (first_in (root_refusals l.root (map view (drop l.root l.values))) ≡ first_in (root_refusals 0 (map view l.values)))
    × (l.specs.items ≡ specs_of (map view (take l.root l.values)))
    × (l.limits.items ≡ all_limits (map view (take l.root l.values)))
    × (length l.specs.items ≡ l.root)
    × (are_right_from 0 l.specs.items ≡ true)
