use Rattle.std.proofs.Common.{◌≡◌, length}
use Rattle.policy_front.specs.Attributes.{has_form, is_closed}
use Rattle.policy_front.proofs.attributes.has_form.Given as goal

abbrev pub invariant-loop-line : goal.invariant-loop-line
invariant-loop-line l = record {
  form : has_form l.rest ≡ has_form l.text;
  closed : is_closed l.rest ≡ is_closed l.text;
}

abbrev pub decreases-loop-line : goal.decreases-loop-line
decreases-loop-line l = length l.rest
