use Rattle.std.proofs.Common.{◌≡◌, ◌<◌, ◌+◌, [], ◌++◌, length, take, refl, sym, ap, ◌∙◌, subst, arith, Ok, Err, length-append}
use Rattle.std.proofs.KnownBytes.{Appends-nil}
use Rattle.wire_io.specs.Feeding.{gained, Hands}
use Rattle.wire_io.specs.Feeds.{source_of, waiting_of, taken_of, handed_of, limit_of}
use Rattle.wire_io.specs.Requests.{end_at}
use Rattle.wire_io.proofs.FeedLemmas.{Hands-trans}
use Rattle.http_front.specs.Judging.{judged}
use Rattle.http_front.specs.Taking.{asked_of, IsHead, IsEndless, EndsHead, Stops}
use Rattle.http_front.proofs.WholeLemmas.{part_or_all, part_begun, part_prompts, endless_request, head_first, refused_request, refused_prompts, prompts_are, head_prompts, body_begun, body_request}
use Rattle.http_front.proofs.TakeLemmas.{stopped, breaks_off, cut_prompt, end_cause, end_not_written, kept_cause, cause_from}
use Rattle.http_front.proofs.taking.take_request.Goals as goal

pub returns-in-Ok-TooLong-clause-takes : goal.returns-in-Ok-TooLong-clause-takes
returns-in-Ok-TooLong-clause-takes g c =
    let w = c.in-Ok-TooLong.ensures in
    let text = c.take_head.new.head.items in
    let is : IsEndless text = subst (λ e. EndsHead e text) c.in-Ok-TooLong.field-0-is w.head in
    record {
      given = text;
      prompted = [];
      hands = w.hands;
      counts = w.counts;
      appended = Appends-nil _;
      comes = (endless_request text is, part_prompts text is.first is.unended);
    }

pub returns-in-Err-clause-takes : goal.returns-in-Err-clause-takes
returns-in-Err-clause-takes g c =
    let w = c.in-Err.ensures in
    let end = c.in-Err.end in
    let text = c.take_head.new.head.items in
    let now = c.take_head.new.feed in
    let is = subst (λ n. c.end_of.result ≡ end_at end n c.len.result) c.at-at.ensures c.end_of.ensures in
    record {
      given = text;
      prompted = [];
      hands = w.hands;
      counts = w.counts;
      appended = Appends-nil _;
      comes = breaks_off (limit_of c.args.feed.now) (handed_of c.args.feed.now) (g.S.Source.left (source_of now)) text (waiting_of now) [] (taken_of now) (handed_of now)
          (part_begun text w.part) (part_prompts text w.part.first w.part.unended) w.counts refl end c.len.result c.end_of.result is (omega (arith, c.len.ensures, c.take_head.new.head.ok))
          (subst (λ n. Stops end (g.S.Source.left (source_of now)) (waiting_of now) (taken_of now) n) w.same_limit w.stops);
    }

pub returns-in-Err-read_head-clause-takes : goal.returns-in-Err-read_head-clause-takes
returns-in-Err-read_head-clause-takes g c =
    let w = c.in-Ok-Whole.ensures in
    let text = c.take_head.new.head.items in
    let is : IsHead text = subst (λ e. EndsHead e text) c.in-Ok-Whole.field-0-is w.head in
    let refusal = c.in-Err-read_head.refusal in
    let judges : judged text ≡ Err refusal = ap judged (sym c.deref.ensures.value) ∙ c.in-Err-read_head.ensures.err in
    record {
      given = text;
      prompted = [];
      hands = w.hands;
      counts = w.counts;
      appended = Appends-nil _;
      comes = (refused_request text is refusal judges, refused_prompts text is refusal judges);
    }

pub returns-in-Err-send-clause-takes : goal.returns-in-Err-send-clause-takes
returns-in-Err-send-clause-takes g c =
    let w = c.in-Ok-Whole.ensures in
    let text = c.take_head.new.head.items in
    let is : IsHead text = subst (λ e. EndsHead e text) c.in-Ok-Whole.field-0-is w.head in
    let a = asked_of c.in-Ok.asked in
    let judges : judged text ≡ Ok a = ap judged (sym c.deref.ensures.value) ∙ c.in-Ok.ensures.ok in
    let prompt = c.prompt_text.result.now in
    let cut = c.in-Err-send.ensures.cut in
    record {
      given = text;
      prompted = take cut.0 prompt;
      hands = w.hands;
      counts = w.counts;
      appended = cut.2;
      comes = cut_prompt text (waiting_of c.take_head.new.feed) prompt cut.0 (part_or_all text (head_first text is)) (c.prompt_text.ensures ∙ head_prompts text is a judges);
    }

pub returns-in-Ok-exact-clause-takes : goal.returns-in-Ok-exact-clause-takes
returns-in-Ok-exact-clause-takes g c =
    let w = c.in-Ok-Whole.ensures in
    let text = c.take_head.new.head.items in
    let is : IsHead text = subst (λ e. EndsHead e text) c.in-Ok-Whole.field-0-is w.head in
    let a = asked_of c.in-Ok.asked in
    let judges : judged text ≡ Ok a = ap judged (sym c.deref.ensures.value) ∙ c.in-Ok.ensures.ok in
    let body = c.exact.new.out.items in
    let x = c.in-Ok-exact.ensures in
    let same : gained c.clear-2.new.self.items body ≡ body = ap (λ l. gained l body) c.clear-2.ensures.items in
    let sized : length body ≡ a.size = sym (ap length same) ∙ x.all.0 refl in
    record {
      given = text ++ body;
      prompted = c.prompt_text.result.now;
      hands = subst (λ l. Hands (g.S.Source.left (source_of c.args.feed.now)) (g.S.Source.left (source_of c.exact.new.self)) (waiting_of c.args.feed.now) (waiting_of c.exact.new.self) (taken_of c.args.feed.now) (taken_of c.exact.new.self) (text ++ l)) same
          (Hands-trans _ _ _ _ _ _ _ _ _ text (gained c.clear-2.new.self.items body) w.hands x.hands);
      counts = omega (arith, w.counts, x.counts, ap length same, length-append text body);
      appended = c.in_default.ensures.sent;
      comes = (body_request text is a judges body sized, c.prompt_text.ensures ∙ prompts_are text is a judges body);
    }

pub returns-in-Err-exact-clause-takes : goal.returns-in-Err-exact-clause-takes
returns-in-Err-exact-clause-takes g c =
    let w = c.in-Ok-Whole.ensures in
    let text = c.take_head.new.head.items in
    let is : IsHead text = subst (λ e. EndsHead e text) c.in-Ok-Whole.field-0-is w.head in
    let a = asked_of c.in-Ok.asked in
    let judges : judged text ≡ Ok a = ap judged (sym c.deref.ensures.value) ∙ c.in-Ok.ensures.ok in
    let body = c.exact.new.out.items in
    let now = c.exact.new.self in
    let end = c.in-Err-exact.end in
    let x = c.in-Err-exact.ensures in
    let piece = gained c.clear-2.new.self.items body in
    let same : piece ≡ body = ap (λ l. gained l body) c.clear-2.ensures.items in
    let counts : handed_of now ≡ handed_of c.args.feed.now + length (text ++ body) = omega (arith, w.counts, x.counts, ap length same, length-append text body) in
    let s = stopped {Begun = length piece < a.size} end (g.S.Source.left (source_of now)) (waiting_of now) (taken_of now) (limit_of now) x.below_limit.0 x.at_limit.0 x.ended x.no_memory.0 in
    let limit : limit_of now ≡ limit_of c.args.feed.now = x.same_limit ∙ w.same_limit in
    let come = c.len-in-Err-exact.result + c.len-in-Err-exact-2.result in
    let ends : c.end_of-in-Err-exact.result ≡ end_at end (handed_of c.args.feed.now) come = c.end_of-in-Err-exact.ensures ∙ ap (λ n. end_at end n come) c.at-at.ensures in
    let sized : length (text ++ body) ≡ come = omega (arith, length-append text body, c.len-in-Err-exact.ensures, c.len-in-Err-exact-2.ensures, c.take_head.new.head.ok, c.exact.new.out.ok) in
    record {
      given = text ++ body;
      prompted = c.prompt_text.result.now;
      hands = subst (λ l. Hands (g.S.Source.left (source_of c.args.feed.now)) (g.S.Source.left (source_of now)) (waiting_of c.args.feed.now) (waiting_of now) (taken_of c.args.feed.now) (taken_of now) (text ++ l)) same
          (Hands-trans _ _ _ _ _ _ _ _ _ text piece w.hands x.hands);
      counts = counts;
      appended = c.in_default.ensures.sent;
      comes = breaks_off (limit_of c.args.feed.now) (handed_of c.args.feed.now) (g.S.Source.left (source_of now)) (text ++ body) (waiting_of now) c.prompt_text.result.now (taken_of now) (handed_of now)
          (body_begun text is a judges body (subst (λ l. length l < a.size) same s.0)) (c.prompt_text.ensures ∙ prompts_are text is a judges body) counts refl
          end come c.end_of-in-Err-exact.result ends sized (subst (λ n. Stops end (g.S.Source.left (source_of now)) (waiting_of now) (taken_of now) n) limit s.1);
    }

pub returns-in-Err-exact-clause-read_cause : goal.returns-in-Err-exact-clause-read_cause
returns-in-Err-exact-clause-read_cause g c =
    cause_from _ _ _ (c.in-Ok-Whole.ensures.cause.kept (λ e. cc)) (end_cause c.in-Err-exact.end _ _ c.end_of-in-Err-exact.result c.end_of-in-Err-exact.ensures _ _ c.in-Err-exact.ensures.cause)

pub returns-in-Err-exact-clause-write_cause : goal.returns-in-Err-exact-clause-write_cause
returns-in-Err-exact-clause-write_cause g c =
    kept_cause _ _ (end_not_written c.in-Err-exact.end _ _ c.end_of-in-Err-exact.result c.end_of-in-Err-exact.ensures) (c.in_default.ensures.cause.kept (λ e. cc))
