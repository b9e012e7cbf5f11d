use Rattle.std.proofs.Common.{◌≡◌, true, length}
use Rattle.policy_front.specs.Attributes.{attribute, is_closed}
use Rattle.policy_front.proofs.attributes.attribute.Given as goal

abbrev pub invariant-loop-line : goal.invariant-loop-line
invariant-loop-line l = record {
  value : attribute l.rest l.name ≡ attribute l.text l.name;
  closed : is_closed l.rest ≡ true;
}

abbrev pub decreases-loop-line : goal.decreases-loop-line
decreases-loop-line l = length l.rest
