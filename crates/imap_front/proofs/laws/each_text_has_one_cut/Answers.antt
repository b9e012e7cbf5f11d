use Rattle.wire_io.proofs.Cuts.{one_cut}
use Rattle.imap_front.specs.Imap.{imap}
use Rattle.imap_front.specs.Filled.{imap_filled}
use Rattle.imap_front.proofs.laws.each_text_has_one_cut.Goals as goal

pub returns-clause-filled : goal.returns-clause-filled
returns-clause-filled c = imap_filled

pub returns-clause-one_cut : goal.returns-clause-one_cut
returns-clause-one_cut c = λ hosts login text. one_cut (imap hosts) (imap_filled hosts) login text
