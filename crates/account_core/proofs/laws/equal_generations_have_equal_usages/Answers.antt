use Rattle.account_core.proofs.Generations.{equal_generation_equal_usage}
use Rattle.account_core.proofs.laws.equal_generations_have_equal_usages.Goals as goal

pub returns : goal.returns
returns c = equal_generation_equal_usage
