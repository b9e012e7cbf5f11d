use Rattle.std.proofs.Common.{◌≡◌, ◌+◌, take}
use Rattle.keeper.specs.Calls.{Changes, Spends}
use Rattle.account_opening.specs.Admitting.{FindsSome}
use Rattle.account_opening.proofs.findings.find.Given as goal

abbrev pub invariant-loop-mailbox : goal.invariant-loop-mailbox
invariant-loop-mailbox g l =
    Changes (FindsSome l.epoch (take l.mailbox-index l.mailboxes) l.found) (g.K.Keeper.told l.initial.keeper) (g.K.Keeper.told l.keeper)
    × (g.K.Keeper.faults l.keeper ≡ g.K.Keeper.faults l.initial.keeper)
    × (g.K.Keeper.append_faults l.keeper ≡ g.K.Keeper.append_faults l.initial.keeper)
    × Changes (Spends ⊥ (g.K.Keeper.faults l.initial.keeper + g.K.Keeper.append_faults l.initial.keeper) (g.K.Keeper.faults l.keeper + g.K.Keeper.append_faults l.keeper)) (g.K.Keeper.told l.initial.keeper) (g.K.Keeper.told l.keeper)
