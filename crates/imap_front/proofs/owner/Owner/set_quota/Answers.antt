use Rattle.std.proofs.Common.{[], ap, ◌∙◌, sym, Err}
use Rattle.account_core.specs.declared.calls.Call.TheVariants.{SetLimits}
use Rattle.imap_grammar.specs.declared.command.Command.TheVariants.{SetQuota}
use Rattle.imap_front.specs.Answers.{set_quota}
use Rattle.imap_front.specs.Texts.{no_root_text, not_permitted_text}
use Rattle.imap_front.specs.Imap.{work_of}
use Rattle.imap_front.proofs.Wording.{said, long_name, not_permitted, limits_given}
use Rattle.imap_front.proofs.owner.Owner.set_quota.Goals as goal

pub returns-then-not-self-clause-ok : goal.returns-then-not-self-clause-ok
returns-then-not-self-clause-ok g c =
    let account = c.args.self.now.account in
    let entry = c.args.self.now.details.now in
    let tag = c.args.self.now.tag.now in
    said (λ (t : Unit {0}). c.words.new.answer.items) (g.D.Desk.shares c.args.desk.now) (work_of account entry tag (SetQuota c.args.root c.args.limits.now) []) (not_permitted_text tag) c.words.result
    (not_permitted account entry tag c.args.root c.args.limits.now c.if-not-self.true) c.words.ensures

pub returns-in-Err-into_name-clause-ok : goal.returns-in-Err-into_name-clause-ok
returns-in-Err-into_name-clause-ok g c =
    let account = c.args.self.now.account in
    let entry = c.args.self.now.details.now in
    let tag = c.args.self.now.tag.now in
    let words = c.words-in-Err-into_name in
    said (λ (t : Unit {0}). words.new.answer.items) (g.D.Desk.shares c.args.desk.now) (work_of account entry tag (SetQuota c.args.root c.args.limits.now) []) (no_root_text tag) words.result
    (limits_given account entry tag c.args.root c.args.limits.now c.if-not-self.false c.in-Ok.limits (sym c.in-Ok.ensures)
    ∙ long_name account entry tag c.args.root (no_root_text tag) set_quota (SetLimits c.args.root c.in-Ok.limits) [] (c.in-Err-into_name.ensures.too_long.0 (ap Err c.in-Err-into_name.ensures.only)))
    words.ensures
