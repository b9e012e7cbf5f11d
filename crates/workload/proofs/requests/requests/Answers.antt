use Rattle.std.proofs.Common.{◌≡◌, ap, ◌∙◌, arith}
use Rattle.workload.specs.Requests.{first_requests, input}
use Rattle.workload.proofs.requests.requests.Goals as goal

pub returns : goal.returns
unfolding input
returns c = let end : c.loop-i.i ≡ c.args.n = omega arith in c.loop-i.invariant ∙ ap (first_requests c.args.n) end
