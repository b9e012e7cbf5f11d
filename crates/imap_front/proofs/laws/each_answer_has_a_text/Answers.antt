use Rattle.imap_front.proofs.AnswerTexts.{requests_have_texts, commands_end_tagged}
use Rattle.imap_front.proofs.laws.each_answer_has_a_text.Goals as goal

pub returns-clause-some : goal.returns-clause-some
returns-clause-some c = requests_have_texts

pub returns-clause-tagged : goal.returns-clause-tagged
returns-clause-tagged c = commands_end_tagged
