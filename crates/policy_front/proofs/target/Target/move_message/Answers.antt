use Rattle.std.proofs.Common.{◌≡◌, false, true, sym, ap, ◌∙◌}
use Rattle.wire_io.specs.declared.ends.After.TheVariants.{Open}
use Rattle.quota_roots.specs.MailboxNames.{canonical}
use Rattle.front_core.specs.Works.{is_too_long}
use Rattle.policy_front.specs.Answers.{action, no_message}
use Rattle.policy_front.specs.Policy.{move_work}
use Rattle.policy_front.proofs.Answering.{said, short_name, long_name, no_such_message}
use Rattle.policy_front.proofs.target.Target.move_message.Goals as goal

pub returns-in_default-3-clause-ok : goal.returns-in_default-3-clause-ok
returns-in_default-3-clause-ok g c =
    let from = canonical c.args.mailbox.now in
    let to = canonical c.args.to.now in
    let name = c.args.name.now in
    let write = c.write_action-in_default-3 in
    let short : is_too_long from ≡ false = ap is_too_long (sym c.canonical_spelling.ensures.value) ∙ short_name c.canonical_spelling.result.now c.in_ok-from.field-0 _ c.in-Some.is c.in_ok-from.ensures.short in
    let other : is_too_long to ≡ false = ap is_too_long (sym c.canonical_spelling-2.ensures.value) ∙ short_name c.canonical_spelling-2.result.now c.in_ok-to.field-0 _ c.in-Some-2.is c.in_ok-to.ensures.short in
    let long : is_too_long name ≡ true = long_name name c.in_ok-base.field-0 c.in_default-3.not-Some c.in_ok-base.ensures.none in
    said (g.D.Desk.shares c.args.desk.now) (move_work c.args.self.now.epoch c.args.self.now.account from name to) write.new.out.items (action no_message) Open write.result
    (no_such_message c.args.self.now.epoch c.args.self.now.account from name to short other long) write.ensures
