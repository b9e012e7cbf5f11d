use Rattle.std.proofs.Common.{Some, ap, sym, ◌∙◌, bytes_eq}
use Rattle.policy_front.proofs.LineLemmas.{closed_line, attribute_here, attribute_later}
use Rattle.policy_front.proofs.attributes.attribute.Goals as goal

pub returns-then-eq : goal.returns-then-eq
returns-then-eq c =
    let some = sym c.is_empty.ensures ∙ c.if-is_empty.false in
    ap Some c.around_first.ensures.after
    ∙ sym (attribute_here c.loop-line.rest.now c.in-Some.after.now c.in-Some.line.now c.in-Some.ensures.lines some c.args.name.now
    (ap (λ given. bytes_eq given c.args.name.now) (sym c.around_first.ensures.before) ∙ sym c.eq.ensures ∙ c.if-eq.true))
    ∙ c.loop-line.invariant.value

pub loop-line-preserved : goal.loop-line-preserved
loop-line-preserved c =
    let some = sym c.is_empty.ensures ∙ c.if-is_empty.false in record {
      value = sym (attribute_later c.loop-line.rest.now c.in-Some.after.now c.in-Some.line.now c.in-Some.ensures.lines some c.args.name.now
          (ap (λ given. bytes_eq given c.args.name.now) (sym c.around_first.ensures.before) ∙ sym c.eq.ensures ∙ c.if-eq.false))
          ∙ c.loop-line.invariant.value;
      closed = sym (closed_line c.loop-line.rest.now c.in-Some.after.now c.in-Some.line.now c.in-Some.ensures.lines some) ∙ c.loop-line.invariant.closed;
    }
