use Rattle.imap_grammar.proofs.PrintedNames.{printed_reads_back, any_printed_reads_back}
use Rattle.imap_grammar.proofs.laws.a_printed_name_reads_back.Goals as goal

pub returns-clause-printable : goal.returns-clause-printable
returns-clause-printable c = printed_reads_back

pub returns-clause-any : goal.returns-clause-any
returns-clause-any c = any_printed_reads_back
