use Rattle.std.proofs.Common.{rules, ap, ◌∙◌, ℕ, Option}
use Rattle.imap_grammar.specs.Reading.{Stops, got}
use Rattle.imap_grammar.specs.AppendArguments.{some_flags}
use Rattle.imap_grammar.proofs.FlagLoop.{flags_one, flags_shorter, flags_more, flags_end, flags_stop}
use Rattle.imap_grammar.proofs.append.some_flags.Goals as goal

pub loop-next-init : goal.loop-next-init
loop-next-init c = flags_one c.args.text.now c.in_ok-first.first c.flag_of-flags.result c.in_ok-first.rest.now c.in_ok-first.ensures c.flag_of-flags.ensures

pub returns-in_err-next : goal.returns-in_err-next
returns-in_err-next c =
    let stop = c.in_err-next.field-0.0 in
    let stopped : Stops stop (some_flags c.args.text.now) = flags_stop c.args.text.now c.loop-next.flags c.loop-next.rest.now stop c.in_err-next.ensures c.loop-next.invariant in
    search rules

pub returns-in-None : goal.returns-in-None
returns-in-None c =
    flags_end c.args.text.now c.loop-next.flags c.loop-next.rest.now c.in_ok-next.more.now
    (c.in_ok-next.ensures ∙ ap (λ (n : Option (Option ℕ)). got n c.in_ok-next.more.now) c.in-None.is) c.loop-next.invariant

pub loop-next-smaller : goal.loop-next-smaller
loop-next-smaller c = flags_shorter c.args.text.now c.loop-next.rest.now c.in_ok-next.more.now c.in_ok-next.next c.in_ok-next.ensures

pub loop-next-preserved : goal.loop-next-preserved
loop-next-preserved c =
    flags_more c.args.text.now c.loop-next.flags c.flag_of.result c.either-flags.result c.loop-next.rest.now c.in_ok-next.more.now c.in-Some.letter
    (c.in_ok-next.ensures ∙ ap (λ (n : Option (Option ℕ)). got n c.in_ok-next.more.now) c.in-Some.is) c.flag_of.ensures c.either-flags.ensures c.loop-next.invariant
