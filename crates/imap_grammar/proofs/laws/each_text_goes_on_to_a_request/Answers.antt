use Rattle.std.proofs.Common.{refl}
use Rattle.imap_grammar.proofs.Filled.{fills}
use Rattle.imap_grammar.proofs.laws.each_text_goes_on_to_a_request.Goals as goal

pub returns-clause-nothing : goal.returns-clause-nothing
returns-clause-nothing c = λ login. refl

pub returns-clause-more : goal.returns-clause-more
returns-clause-more c = fills
