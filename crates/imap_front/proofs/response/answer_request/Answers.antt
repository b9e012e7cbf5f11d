use Rattle.std.proofs.Common.{◌++◌, ℕ, List, ap, sym, ◌∙◌}
use Rattle.wire_io.specs.declared.ends.After.{After}
use Rattle.wire_io.specs.Work.{Work, say}
use Rattle.account_core.specs.History.{Answer}
use Rattle.desk.specs.Asking.{DeskCall}
use Rattle.imap_grammar.specs.Requests.{fault_tag}
use Rattle.imap_front.specs.Texts.{fault_text}
use Rattle.imap_front.specs.declared.request.Taken.{Taken}
use Rattle.imap_front.specs.Imap.{work}
use Rattle.imap_front.specs.Taking.{request_taken}
use Rattle.imap_front.proofs.Wording.{says, fault_said}
use Rattle.imap_front.proofs.response.answer_request.Goals as goal

abbrev said_after : List ℕ → After → Work DeskCall Answer
said_after words after = say words after

pub returns-in_ok-push_refusal-in-Fault-clause-ok : goal.returns-in_ok-push_refusal-in-Fault-clause-ok
returns-in_ok-push_refusal-in-Fault-clause-ok g c =
    let hosts = c.args.table.now in
    let login = c.args.login in
    let text = c.args.text.now in
    let fault = c.in-Fault.fault in
    let words = fault_text (fault_tag fault text) fault in
    says (g.D.Desk.shares c.args.desk.now) (work hosts login (request_taken text c.args.request)) c.push_refusal.new.out.items words c.after_fault-after.result
    (ap (λ (own : Taken). work hosts login (request_taken text own)) c.in-Fault.is ∙ ap (said_after words) (sym c.after_fault-after.ensures))
    (c.in_ok-push_refusal-in-Fault.ensures ∙ ap (λ l. l ++ fault_text c.tag_in.result.now fault) c.clear.ensures.items ∙ ap (λ t. fault_text t fault) c.tag_in.ensures ∙ fault_said fault text)
