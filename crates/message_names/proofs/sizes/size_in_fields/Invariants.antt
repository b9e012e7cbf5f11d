use Rattle.std.proofs.Common.{◌≡◌, ◌∷◌, length}
use Rattle.message_names.specs.Sizes.{size_named}
use Rattle.message_names.proofs.sizes.size_in_fields.Given as goal

abbrev pub invariant-loop-rest : goal.invariant-loop-rest
invariant-loop-rest l = size_named (44 ∷ l.rest) ≡ size_named (44 ∷ l.fields)

abbrev pub decreases-loop-rest : goal.decreases-loop-rest
decreases-loop-rest l = length l.rest
