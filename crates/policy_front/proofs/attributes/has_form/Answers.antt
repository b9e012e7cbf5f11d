use Rattle.std.proofs.Common.{sym, ◌∙◌}
use Rattle.policy_front.proofs.LineLemmas.{closed_line, form_empty, form_line}
use Rattle.policy_front.proofs.attributes.has_form.Goals as goal

pub returns-then-is_empty-clause-form : goal.returns-then-is_empty-clause-form
returns-then-is_empty-clause-form c =
    c.is_empty-then-is_empty.ensures
    ∙ sym (form_empty c.loop-line.rest.now c.in-Some.after.now c.in-Some.line.now c.in-Some.ensures.lines (sym c.is_empty.ensures ∙ c.if-is_empty.true))
    ∙ c.loop-line.invariant.form

pub loop-line-preserved : goal.loop-line-preserved
loop-line-preserved c =
    let some = sym c.is_empty.ensures ∙ c.if-is_empty.false in record {
      form = sym (form_line c.loop-line.rest.now c.in-Some.after.now c.in-Some.line.now c.in-Some.ensures.lines some (sym c.has_equals.ensures ∙ c.if-not-has_equals.false)) ∙ c.loop-line.invariant.form;
      closed = sym (closed_line c.loop-line.rest.now c.in-Some.after.now c.in-Some.line.now c.in-Some.ensures.lines some) ∙ c.loop-line.invariant.closed;
    }
