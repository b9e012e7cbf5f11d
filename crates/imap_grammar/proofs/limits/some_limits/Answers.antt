use Rattle.std.proofs.Common.{rules, ap, ◌∙◌, Option}
use Rattle.imap_grammar.specs.declared.limits.AskedLimit.{AskedLimit}
use Rattle.imap_grammar.specs.Reading.{Stops, got}
use Rattle.imap_grammar.specs.Lists.{some_items}
use Rattle.imap_grammar.specs.LimitLists.{asked_limit}
use Rattle.imap_grammar.proofs.ListLoop.{items_stop, items_more}
use Rattle.imap_grammar.proofs.Shorter.{shrinks_limit, next_shorter}
use Rattle.imap_grammar.proofs.limits.some_limits.Goals as goal

pub returns-in_err-next : goal.returns-in_err-next
returns-in_err-next c =
    let stop = c.in_err-next.field-0.0 in
    let stopped : Stops stop (some_items asked_limit c.args.text.now) = items_stop asked_limit c.args.text.now c.loop-limits.limits c.loop-limits.rest.now stop c.in_err-next.ensures c.loop-limits.invariant in
    search rules

pub loop-limits-smaller : goal.loop-limits-smaller
loop-limits-smaller c = next_shorter asked_limit shrinks_limit c.loop-limits.rest.now c.in_ok-next.more.now c.in_ok-next.next c.in_ok-next.ensures

pub loop-limits-preserved : goal.loop-limits-preserved
loop-limits-preserved c =
    items_more asked_limit c.args.text.now c.loop-limits.limits c.push-in-Some.new.self c.loop-limits.rest.now c.in_ok-next.more.now c.in-Some.limit
    (next_shorter asked_limit shrinks_limit c.loop-limits.rest.now c.in_ok-next.more.now c.in_ok-next.next c.in_ok-next.ensures)
    (c.in_ok-next.ensures ∙ ap (λ (n : Option AskedLimit). got n c.in_ok-next.more.now) c.in-Some.is) c.in_ok-push-in-Some.ensures.ok c.loop-limits.invariant
