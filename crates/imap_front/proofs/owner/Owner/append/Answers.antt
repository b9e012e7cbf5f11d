use Rattle.std.proofs.Common.{ap, subst, Err, length, ◌<◌}
use Rattle.account_core.specs.declared.calls.Call.TheVariants.{Deliver}
use Rattle.quota_roots.specs.MailboxNames.{canonical}
use Rattle.imap_front.specs.Answers.{append}
use Rattle.imap_front.specs.Texts.{try_create_text}
use Rattle.imap_front.specs.Imap.{deliver}
use Rattle.imap_front.proofs.Wording.{said, long_name, too_long_by}
use Rattle.imap_front.proofs.owner.Owner.append.Goals as goal

pub returns-in-Err-TooLong-clause-ok : goal.returns-in-Err-TooLong-clause-ok
returns-in-Err-TooLong-clause-ok g c =
    let account = c.args.self.now.account in
    let entry = c.args.self.now.details.now in
    let tag = c.args.self.now.tag.now in
    let own = canonical c.args.mailbox.now in
    let mailbox = c.canonical_spelling.result.now in
    let long : 255 < length mailbox = c.in-Err-TooLong.ensures.too_long.0 (ap Err (too_long_by c.in-Err-TooLong.field-0 c.in-Err-TooLong.field-0-0 (length mailbox) c.in-Err-TooLong.field-0-is c.in-Err-TooLong.ensures.only)) in
    said (λ (t : Unit {0}). c.words.new.answer.items) (g.D.Desk.shares c.args.desk.now) (deliver account entry tag own c.args.flags c.args.message.now) (try_create_text tag) c.words.result
    (long_name account entry tag own (try_create_text tag) append (Deliver own (length c.args.message.now) c.args.flags) c.args.message.now (subst (λ l. 255 < length l) c.canonical_spelling.ensures.value long)) c.words.ensures
