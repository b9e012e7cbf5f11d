use Rattle.std.proofs.Common.{rules, ap, ◌∙◌, Option}
use Rattle.imap_grammar.specs.declared.status.StatusItem.{StatusItem}
use Rattle.imap_grammar.specs.Reading.{Stops, got}
use Rattle.imap_grammar.specs.Lists.{some_items}
use Rattle.imap_grammar.specs.StatusItems.{status_item}
use Rattle.imap_grammar.proofs.ListLoop.{items_stop, items_more}
use Rattle.imap_grammar.proofs.Shorter.{shrinks_status_item, next_shorter}
use Rattle.imap_grammar.proofs.status.status_items.Goals as goal

pub returns-in_err-next : goal.returns-in_err-next
returns-in_err-next c =
    let stop = c.in_err-next.field-0.0 in
    let stopped : Stops stop (some_items status_item c.args.text.now) = items_stop status_item c.args.text.now c.loop-items.items c.loop-items.rest.now stop c.in_err-next.ensures c.loop-items.invariant in
    search rules

pub loop-items-smaller : goal.loop-items-smaller
loop-items-smaller c = next_shorter status_item shrinks_status_item c.loop-items.rest.now c.in_ok-next.more.now c.in_ok-next.next c.in_ok-next.ensures

pub loop-items-preserved : goal.loop-items-preserved
loop-items-preserved c =
    items_more status_item c.args.text.now c.loop-items.items c.push-in-Some.new.self c.loop-items.rest.now c.in_ok-next.more.now c.in-Some.item
    (next_shorter status_item shrinks_status_item c.loop-items.rest.now c.in_ok-next.more.now c.in_ok-next.next c.in_ok-next.ensures)
    (c.in_ok-next.ensures ∙ ap (λ (n : Option (Option StatusItem)). got n c.in_ok-next.more.now) c.in-Some.is) c.in_ok-push-in-Some.ensures.ok c.loop-items.invariant
