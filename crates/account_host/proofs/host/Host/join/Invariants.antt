use Rattle.std.proofs.Common.{◌≡◌, List, ◌++◌, length, take, drop}
use Rattle.account_lock.specs.declared.pass.Pass.{Pass}
use Rattle.account_host.specs.Sets.{views, views_of, joined_each}
use Rattle.account_host.specs.Seating.{AreSeated, IsSetOf}
use Rattle.account_host.proofs.host.Host.join.Given as goal

abbrev pub invariant-loop-pass : goal.invariant-loop-pass
invariant-loop-pass g l = record {
  gone : List Pass;
  joined : l.passes.items ++ gone ≡ l.fn.other.passes.items;
  set : IsSetOf l.self l.set;
  views_are : views_of l.set ≡ take (length l.passes.items) (views_of l.fn.set)
      ++ joined_each (drop (length l.passes.items) (views_of l.fn.set)) (drop (length l.passes.items) (views_of l.fn.other));
}

abbrev pub decreases-loop-pass : goal.decreases-loop-pass
decreases-loop-pass g l = length l.passes.items
