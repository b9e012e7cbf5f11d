use Rattle.std.proofs.Common.{◌≡◌, ℕ, List, [], ◌++◌, OnOk, subst, sym}
use Rattle.imap_front.proofs.AnswerTexts.{other_append}
use Rattle.imap_front.proofs.answers.push_append.Goals as goal

pub returns-in_default : goal.returns-in_default
returns-in_default c =
    subst (λ (l : List ℕ). OnOk c.push_tagged-in_default.result (c.push_tagged-in_default.new.out.items ≡ c.args.out.now.items ++ l))
    (sym (other_append [] c.args.tag.now c.args.reply.now c.in_default.not-NoMailbox c.in_default.not-Over c.in_default.not-Delivered)) c.push_tagged-in_default.ensures
