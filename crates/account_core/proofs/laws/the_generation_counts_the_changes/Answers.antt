use Rattle.account_core.proofs.Generations.{generation_is_counted}
use Rattle.account_core.proofs.laws.the_generation_counts_the_changes.Goals as goal

pub returns : goal.returns
returns c = generation_is_counted
