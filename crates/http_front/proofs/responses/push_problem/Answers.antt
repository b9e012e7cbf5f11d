use Rattle.std.proofs.Common.{◌≡◌, ◌++◌, List, ℕ, OnOk, ◌∙◌, subst}
use Rattle.http_front.specs.Responses.{response}
use Rattle.http_front.proofs.responses.push_problem.Goals as goal

pub returns : goal.returns
returns c =
    subst (λ (b : List ℕ). OnOk c.push_response.result (c.push_response.new.out.items ≡ c.args.out.now.items ++ response c.args.reply c.args.after b)) (c.deref.ensures.value ∙ c.in_ok-body.ensures) c.push_response.ensures
