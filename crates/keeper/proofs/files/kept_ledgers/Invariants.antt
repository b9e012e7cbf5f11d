use Rattle.std.proofs.Common.{◌≡◌, map}
use Rattle.std.specs.Option.{option_map}
use Rattle.keeper.proofs.files.kept_ledgers.Given as goal

abbrev pub invariant-loop-ledger : goal.invariant-loop-ledger
invariant-loop-ledger l = l.ledgers.items ≡ map (option_map (λ bytes. bytes.items)) l.yielded
