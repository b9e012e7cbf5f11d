use Rattle.message_names.proofs.PlaceLemmas.{named_first, named_once}
use Rattle.message_names.proofs.laws.one_size.Goals as goal

pub returns : goal.returns
returns c = λ unique. (named_first unique, named_once unique)
