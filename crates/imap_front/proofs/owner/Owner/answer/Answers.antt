use Rattle.std.proofs.Common.{ℕ, List, ◌++◌, ap, ◌∙◌}
use Rattle.wire_io.specs.declared.ends.After.TheVariants.{Open, Closing}
use Rattle.imap_grammar.specs.declared.command.Command.{Command}
use Rattle.imap_grammar.specs.declared.command.CommandFault.TheVariants.{AlreadyAuthenticated}
use Rattle.imap_front.specs.Texts.{capability_text, noop_text, logout_text, fault_text}
use Rattle.imap_front.specs.Imap.{work_of}
use Rattle.imap_front.proofs.Wording.{says}
use Rattle.imap_front.proofs.owner.Owner.answer.Goals as goal

pub returns-in-Capability-clause-ok : goal.returns-in-Capability-clause-ok
returns-in-Capability-clause-ok g c =
    let account = c.args.self.now.account in
    let entry = c.args.self.now.details.now in
    let tag = c.args.self.now.tag.now in
    let message = c.args.message.now in
    says (g.D.Desk.shares c.args.desk.now) (work_of account entry tag c.args.command message) c.push_capability.new.out.items (capability_text tag) Open
    (ap (λ (own : Command). work_of account entry tag own message) c.in-Capability.is) (c.in_ok-push_capability-in-Capability.ensures ∙ ap (λ (l : List ℕ). l ++ capability_text tag) c.requires.empty)

pub returns-in-Noop-clause-ok : goal.returns-in-Noop-clause-ok
returns-in-Noop-clause-ok g c =
    let account = c.args.self.now.account in
    let entry = c.args.self.now.details.now in
    let tag = c.args.self.now.tag.now in
    let message = c.args.message.now in
    says (g.D.Desk.shares c.args.desk.now) (work_of account entry tag c.args.command message) c.words.new.answer.items (noop_text tag) Open
    (ap (λ (own : Command). work_of account entry tag own message) c.in-Noop.is) c.in_ok-words-in-Noop.ensures

pub returns-in-Logout-clause-ok : goal.returns-in-Logout-clause-ok
returns-in-Logout-clause-ok g c =
    let account = c.args.self.now.account in
    let entry = c.args.self.now.details.now in
    let tag = c.args.self.now.tag.now in
    let message = c.args.message.now in
    says (g.D.Desk.shares c.args.desk.now) (work_of account entry tag c.args.command message) c.push_logout.new.out.items (logout_text tag) Closing
    (ap (λ (own : Command). work_of account entry tag own message) c.in-Logout.is) (c.in_ok-push_logout-in-Logout.ensures ∙ ap (λ (l : List ℕ). l ++ logout_text tag) c.requires.empty)

pub returns-in-Login-clause-ok : goal.returns-in-Login-clause-ok
returns-in-Login-clause-ok g c =
    let account = c.args.self.now.account in
    let entry = c.args.self.now.details.now in
    let tag = c.args.self.now.tag.now in
    let message = c.args.message.now in
    says (g.D.Desk.shares c.args.desk.now) (work_of account entry tag c.args.command message) c.push_refusal.new.out.items (fault_text tag AlreadyAuthenticated) Open
    (ap (λ (own : Command). work_of account entry tag own message) c.in-Login.is) (c.in_ok-push_refusal-in-Login.ensures ∙ ap (λ (l : List ℕ). l ++ fault_text tag AlreadyAuthenticated) c.requires.empty)
