use Rattle.std.proofs.Common.{take}
use Rattle.std.specs.List.{All}
use Rattle.account_ledger.specs.States.{IsInOrder}
use Rattle.plain_desk.proofs.plain.PlainDesk.new.Given as goal

abbrev pub invariant-loop-state : goal.invariant-loop-state
invariant-loop-state g l = All IsInOrder (take l.state-index l.fn.states.items)
