use Rattle.std.proofs.Common.{[], ap, Err}
use Rattle.account_core.specs.declared.calls.Call.TheVariants.{Quota}
use Rattle.imap_grammar.specs.declared.command.Command.TheVariants.{GetQuota}
use Rattle.imap_front.specs.Answers.{get_quota}
use Rattle.imap_front.specs.Texts.{no_root_text}
use Rattle.imap_front.specs.Imap.{work_of}
use Rattle.imap_front.proofs.Wording.{said, long_name}
use Rattle.imap_front.proofs.owner.Owner.get_quota.Goals as goal

pub returns-in-Err-clause-ok : goal.returns-in-Err-clause-ok
returns-in-Err-clause-ok g c =
    let account = c.args.self.now.account in
    let entry = c.args.self.now.details.now in
    let tag = c.args.self.now.tag.now in
    said (λ (t : Unit {0}). c.words.new.answer.items) (g.D.Desk.shares c.args.desk.now) (work_of account entry tag (GetQuota c.args.root) []) (no_root_text tag) c.words.result
    (long_name account entry tag c.args.root (no_root_text tag) get_quota (Quota c.args.root) [] (c.in-Err.ensures.too_long.0 (ap Err c.in-Err.ensures.only))) c.words.ensures
