use Rattle.std.proofs.Common.{◌≡◌, ℕ, List, ◌++◌, OnOk, subst, sym}
use Rattle.imap_front.proofs.AnswerTexts.{other_quota}
use Rattle.imap_front.proofs.answers.push_get_quota.Goals as goal

pub returns-in_default : goal.returns-in_default
returns-in_default c =
    subst (λ (l : List ℕ). OnOk c.push_tagged-in_default.result (c.push_tagged-in_default.new.out.items ≡ c.args.out.now.items ++ l))
    (sym (other_quota c.args.roots.now c.args.tag.now c.args.reply.now c.in_default.not-NoRoot c.in_default.not-Quota)) c.push_tagged-in_default.ensures
