use Rattle.imap_grammar.proofs.Table.{whole_is, is_whole, command_is, is_command}
use Rattle.imap_grammar.proofs.laws.a_reading_is_the_grammar.Goals as goal

pub returns-clause-progress : goal.returns-clause-progress
returns-clause-progress c = λ login text command n. (whole_is login text command n, is_whole login text command n)

pub returns-clause-command : goal.returns-clause-command
returns-clause-command c = λ login text command. (command_is login text command, is_command login text command)
