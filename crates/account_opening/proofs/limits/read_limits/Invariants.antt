use Rattle.std.proofs.Common.{◌≡◌, ◌+◌, length}
use Rattle.keeper.specs.Calls.{Changes, Spends}
use Rattle.account_opening.specs.Limits.{ReadsSome}
use Rattle.account_opening.proofs.limits.read_limits.Given as goal

abbrev pub invariant-loop-root : goal.invariant-loop-root
invariant-loop-root g l =
    Changes (ReadsSome l.root l.fn.own l.limits.items) (g.K.Keeper.told l.initial.keeper) (g.K.Keeper.told l.keeper)
    × (length l.limits.items ≡ l.root)
    × (g.K.Keeper.faults l.keeper ≡ g.K.Keeper.faults l.initial.keeper)
    × (g.K.Keeper.append_faults l.keeper ≡ g.K.Keeper.append_faults l.initial.keeper)
    × Changes (Spends ⊥ (g.K.Keeper.faults l.initial.keeper + g.K.Keeper.append_faults l.initial.keeper) (g.K.Keeper.faults l.keeper + g.K.Keeper.append_faults l.keeper)) (g.K.Keeper.told l.initial.keeper) (g.K.Keeper.told l.keeper)
