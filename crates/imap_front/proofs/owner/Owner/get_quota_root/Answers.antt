use Rattle.std.proofs.Common.{[], ap, subst, Err, length, ◌<◌}
use Rattle.account_core.specs.declared.calls.Call.TheVariants.{Roots}
use Rattle.imap_grammar.specs.declared.command.Command.TheVariants.{GetQuotaRoot}
use Rattle.quota_roots.specs.MailboxNames.{canonical}
use Rattle.imap_front.specs.Answers.{get_quota_root}
use Rattle.imap_front.specs.Texts.{name_too_long_text}
use Rattle.imap_front.specs.Imap.{work_of}
use Rattle.imap_front.proofs.Wording.{said, long_name, too_long_by}
use Rattle.imap_front.proofs.owner.Owner.get_quota_root.Goals as goal

pub returns-in-Err-TooLong-clause-ok : goal.returns-in-Err-TooLong-clause-ok
returns-in-Err-TooLong-clause-ok g c =
    let account = c.args.self.now.account in
    let entry = c.args.self.now.details.now in
    let tag = c.args.self.now.tag.now in
    let own = canonical c.args.mailbox.now in
    let mailbox = c.canonical_spelling-mailbox.result.now in
    let long : 255 < length mailbox = c.in-Err-TooLong.ensures.too_long.0 (ap Err (too_long_by c.in-Err-TooLong.field-0 c.in-Err-TooLong.field-0-0 (length mailbox) c.in-Err-TooLong.field-0-is c.in-Err-TooLong.ensures.only)) in
    said (λ (t : Unit {0}). c.words.new.answer.items) (g.D.Desk.shares c.args.desk.now) (work_of account entry tag (GetQuotaRoot c.args.mailbox.now) []) (name_too_long_text tag) c.words.result
    (long_name account entry tag own (name_too_long_text tag) (get_quota_root own) (Roots own) [] (subst (λ l. 255 < length l) c.canonical_spelling-mailbox.ensures.value long)) c.words.ensures
