use Rattle.std.proofs.Common.{[], ap, sym, ◌∙◌, subst, Err, length, ◌<◌}
use Rattle.account_core.specs.declared.calls.Call.TheVariants.{Status as StatusCall}
use Rattle.imap_grammar.specs.declared.command.Command.TheVariants.{Status}
use Rattle.quota_roots.specs.MailboxNames.{canonical}
use Rattle.imap_front.specs.Answers.{status}
use Rattle.imap_front.specs.Texts.{no_mailbox_text}
use Rattle.imap_front.specs.Imap.{work_of}
use Rattle.imap_front.proofs.Wording.{said, long_name, known_items, too_long_by}
use Rattle.imap_front.proofs.owner.Owner.status.Goals as goal

pub returns-in-Err-TooLong-clause-ok : goal.returns-in-Err-TooLong-clause-ok
returns-in-Err-TooLong-clause-ok g c =
    let account = c.args.self.now.account in
    let entry = c.args.self.now.details.now in
    let tag = c.args.self.now.tag.now in
    let own = canonical c.args.mailbox.now in
    let mailbox = c.canonical_spelling-mailbox.result.now in
    let words = c.words-in-Err-TooLong in
    let long : 255 < length mailbox = c.in-Err-TooLong.ensures.too_long.0 (ap Err (too_long_by c.in-Err-TooLong.field-0 c.in-Err-TooLong.field-0-0 (length mailbox) c.in-Err-TooLong.field-0-is c.in-Err-TooLong.ensures.only)) in
    said (λ (t : Unit {0}). words.new.answer.items) (g.D.Desk.shares c.args.desk.now) (work_of account entry tag (Status c.args.mailbox.now c.args.items.now) []) (no_mailbox_text tag) words.result
    (known_items account entry tag c.args.mailbox.now c.args.items.now (sym c.has_no_item.ensures ∙ c.if-has_no_item.false)
    ∙ long_name account entry tag own (no_mailbox_text tag) (status own c.args.items.now) (StatusCall own) [] (subst (λ l. 255 < length l) c.canonical_spelling-mailbox.ensures.value long)) words.ensures
