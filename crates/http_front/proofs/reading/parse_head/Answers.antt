use Rattle.std.proofs.Common.{◌≡◌, [], length, Ok, Result, ap, ◌∙◌, subst, arith}
use Rattle.httparse.specs.declared.Error.{Error}
use Rattle.httparse.specs.declared.Status.{Status}
use Rattle.httparse.specs.declared.spans.RequestSpans.{RequestSpans}
use Rattle.httparse.specs.Outcome.{IfComplete, IsCompleteAnd}
use Rattle.httparse.specs.Spans.{IsRequestOf, IsRequestWithin, IsRequestAt}
use Rattle.http_front.proofs.ReaderLemmas.{parsed, not_parsed, full_length}
use Rattle.http_front.proofs.reading.parse_head.Goals as goal

pub returns-then-spans-head-clause-some : goal.returns-then-spans-head-clause-some
returns-then-spans-head-clause-some c =
    let text = c.args.head.now in
    let room = c.parse_request.new.headers in
    let spans = c.in-Ok-Complete.spans in
    let found : IsRequestOf text room spans = subst (λ (s : Status RequestSpans). IfComplete {E = Error} (Ok s) (IsRequestOf text room)) c.in-Ok-Complete.field-0-is c.in-Ok-Complete.ensures.complete in
    let within : IsRequestWithin text room spans = subst (λ (s : Status RequestSpans). IfComplete {E = Error} (Ok s) (IsRequestWithin text room)) c.in-Ok-Complete.field-0-is c.in-Ok-Complete.ensures.within in
    let sized : length room ≡ 64 = c.parse_request.auto.headers ∙ ap length c.as_mut_slice.ensures.value ∙ c.told-room in
    (found.0, parsed text room spans found.0 sized c.if-spans-head.true within found.1, found.1, within)

pub returns-else-spans-head-clause-none : goal.returns-else-spans-head-clause-none
returns-else-spans-head-clause-none c =
    let text = c.args.head.now in
    let room = c.parse_request.new.headers in
    let spans = c.in-Ok-Complete.spans in
    let sized : length c.as_mut_slice.result.now ≡ 64 = ap length c.as_mut_slice.ensures.value ∙ c.told-room in
    λ _. not_parsed text (λ h reads le.
    let at : IsRequestAt text room spans h = subst (λ (s : Status RequestSpans). IsCompleteAnd {E = Error} (Ok s) (λ r. IsRequestAt text room r h)) c.in-Ok-Complete.field-0-is (c.in-Ok-Complete.ensures.found h [] reads (omega (arith, le, sized))) in
    c.if-spans-head.false (full_length text room spans h reads at))

pub returns-in-Ok-Partial-clause-none : goal.returns-in-Ok-Partial-clause-none
returns-in-Ok-Partial-clause-none c =
    let text = c.args.head.now in
    let room = c.parse_request.new.headers in
    let sized : length c.as_mut_slice.result.now ≡ 64 = ap length c.as_mut_slice.ensures.value ∙ c.told-room in
    λ _. not_parsed text (λ h reads le.
    subst (λ (s : Status RequestSpans). IsCompleteAnd {E = Error} (Ok s) (λ r. IsRequestAt text room r h)) c.in-Ok-Partial.field-0-is (c.in-Ok-Partial.ensures.found h [] reads (omega (arith, le, sized))))

pub returns-in-Err-clause-none : goal.returns-in-Err-clause-none
returns-in-Err-clause-none c =
    let text = c.args.head.now in
    let room = c.parse_request.new.headers in
    let sized : length c.as_mut_slice.result.now ≡ 64 = ap length c.as_mut_slice.ensures.value ∙ c.told-room in
    λ _. not_parsed text (λ h reads le.
    subst (λ (r : Result (Status RequestSpans) Error). IsCompleteAnd r (λ r. IsRequestAt text room r h)) c.in-Err.is (c.parse_request.ensures.found h [] reads (omega (arith, le, sized))))
