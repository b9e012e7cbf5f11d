use Rattle.std.proofs.Common.{take}
use Rattle.std.specs.List.{All}
use Rattle.account_ledger.specs.States.{IsInOrder}
use Rattle.tests_of_hosts.proofs.closing.show_in_order.Given as goal

abbrev pub invariant-loop-state : goal.invariant-loop-state
invariant-loop-state g l = All IsInOrder (take l.state-index l.states)
