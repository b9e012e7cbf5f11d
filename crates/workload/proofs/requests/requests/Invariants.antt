use Rattle.std.proofs.Common.{◌≡◌}
use Rattle.workload.specs.Requests.{first_requests}
use Rattle.workload.proofs.requests.requests.Given as goal

abbrev pub invariant-loop-i : goal.invariant-loop-i
invariant-loop-i l = l.bytes.items ≡ first_requests l.n l.i
