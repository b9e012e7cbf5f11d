use Rattle.imap_grammar.proofs.Table.{one_command}
use Rattle.imap_grammar.proofs.laws.each_text_is_one_command.Goals as goal

pub returns : goal.returns
returns c = one_command
