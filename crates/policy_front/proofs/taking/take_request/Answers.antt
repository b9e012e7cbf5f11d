use Rattle.std.proofs.Common.{[], sym, subst, arith, Err}
use Rattle.wire_io.specs.Feeds.{limit_of}
use Rattle.front_core.proofs.Coming.{takes_whole, takes_from}
use Rattle.policy_front.specs.Policy.{policy}
use Rattle.policy_front.specs.Taking.{request_taken, IsText}
use Rattle.policy_front.specs.declared.reading.PolicyFault.TheVariants.{BadRequest}
use Rattle.policy_front.specs.Filled.{policy_filled}
use Rattle.policy_front.proofs.Texting.{ended, too_long, moves_seen}
use Rattle.policy_front.proofs.Wholes.{came_text, whole_endless}
use Rattle.policy_front.proofs.taking.take_request.Goals as goal

pub take_message-requires-clause-text : goal.take_message-requires-clause-text
take_message-requires-clause-text g c =
    subst IsText (sym c.deref.ensures.value) (ended _ c.take_text.new.text.items c.in-Ok-Whole.field-0-is c.in-Ok-Whole.ensures.text)

pub returns-in-Ok-Whole-clause-takes : goal.returns-in-Ok-Whole-clause-takes
returns-in-Ok-Whole-clause-takes g c =
    let w = c.in-Ok-Whole.ensures in
    let message = c.take_message.new.message.items in
    let text = c.deref.result.now in
    λ hosts login written.
    takes_from (policy hosts) login (request_taken message) (limit_of c.args.feed.now) (limit_of c.take_text.new.feed) _ _ _ _ _ _ _ _ _ _ _ _ text [] _ w.same_limit c.at-at.ensures
    (c.take_message.ensures.takes hosts login written) _ _ _ _ (moves_seen c.deref.ensures.value (w.takes hosts login message written))

pub returns-in-Ok-TooLong-clause-takes : goal.returns-in-Ok-TooLong-clause-takes
returns-in-Ok-TooLong-clause-takes g c =
    let w = c.in-Ok-TooLong.ensures in
    let message = c.clear-2.new.self.items in
    let text = c.take_text.new.text.items in
    let endless = too_long _ text c.in-Ok-TooLong.field-0-is w.text in
    λ hosts login written.
    takes_whole (policy hosts) (policy_filled hosts) login (limit_of c.args.feed.now) (request_taken message) _ _ _ _ _ _ _ _ _ _ text [] (w.takes hosts login message written) (Err BadRequest)
    (came_text hosts login text endless.first (omega (arith, endless.full))) (whole_endless text endless)

pub returns-in-Err-clause-takes : goal.returns-in-Err-clause-takes
returns-in-Err-clause-takes g c =
    λ hosts login written. c.in-Err.ensures.takes hosts login c.clear-2.new.self.items written
