use Rattle.imap_grammar.proofs.Places.{progress_place, progress_word, command_place, command_word}
use Rattle.imap_grammar.proofs.Prefixes.{prefix_is_wrong, open_is_wrong}
use Rattle.imap_grammar.proofs.laws.a_syntax_error_has_its_place.Goals as goal

pub returns-clause-progress : goal.returns-clause-progress
returns-clause-progress c = progress_place

pub returns-clause-command : goal.returns-clause-command
returns-clause-command c = command_place

pub returns-clause-progress_word : goal.returns-clause-progress_word
returns-clause-progress_word c = progress_word

pub returns-clause-command_word : goal.returns-clause-command_word
returns-clause-command_word c = command_word

pub returns-clause-command_prefix : goal.returns-clause-command_prefix
returns-clause-command_prefix c = prefix_is_wrong

pub returns-clause-command_open : goal.returns-clause-command_open
returns-clause-command_open c = open_is_wrong
