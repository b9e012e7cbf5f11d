use Rattle.std.proofs.Common.{refl, sym, ap}
use Rattle.account_core.specs.History.{replied, store, journal_full}
use Rattle.account_core.specs.declared.calls.StepError.TheVariants.{Store, JournalFull, NoMemory}
use Rattle.front_core.specs.Works.{call_on}
use Rattle.front_core.proofs.Asking.{asked_log, failed_log, answered_called, left_called, leaves_uncalled}
use Rattle.policy_front.specs.Answers.{action, answer_text}
use Rattle.policy_front.proofs.target.Target.ask.Goals as goal

pub returns-in-Ok-clause-ok : goal.returns-in-Ok-clause-ok
returns-in-Ok-clause-ok g c =
    let asks = c.in-Ok.ensures in
    answered_called _ _ (call_on c.args.self.now.account c.args.call c.args.octets.now) (replied c.in-Ok.reply)
    (asked_log _ _ c.args.self.now.account c.args.call c.args.octets.now c.requires.there c.requires.asked c.requires.octets _ asks.asks asks.others)
    (λ (t : Unit {0}). c.write_answer.new.out.items) c.write_answer.result (answer_text c.args.self.now.epoch c.args.kind) _ refl c.write_answer.ensures

pub returns-in-Ok-clause-err : goal.returns-in-Ok-clause-err
returns-in-Ok-clause-err g c =
    let asks = c.in-Ok.ensures in
    left_called _ _ (call_on c.args.self.now.account c.args.call c.args.octets.now) (replied c.in-Ok.reply)
    (asked_log _ _ c.args.self.now.account c.args.call c.args.octets.now c.requires.there c.requires.asked c.requires.octets _ asks.asks asks.others)
    (λ (t : Unit {0}). c.write_answer.new.out.items) c.write_answer.result

pub returns-in-Err-Store-clause-ok : goal.returns-in-Err-Store-clause-ok
returns-in-Err-Store-clause-ok g c =
    let asks = c.in-Err-Store.ensures in
    answered_called _ _ (call_on c.args.self.now.account c.args.call c.args.octets.now) store
    (failed_log _ _ c.args.self.now.account c.args.call c.args.octets.now c.requires.there c.requires.asked c.requires.octets _ Store c.in-Err-Store.field-0-is asks.asks asks.others)
    (λ (t : Unit {0}). c.write_action.new.out.items) c.write_action.result (answer_text c.args.self.now.epoch c.args.kind) (action c.store_words.result.now)
    (ap action (sym (c.store_words.ensures c.args.self.now.epoch))) c.write_action.ensures

pub returns-in-Err-Store-clause-err : goal.returns-in-Err-Store-clause-err
returns-in-Err-Store-clause-err g c =
    let asks = c.in-Err-Store.ensures in
    left_called _ _ (call_on c.args.self.now.account c.args.call c.args.octets.now) store
    (failed_log _ _ c.args.self.now.account c.args.call c.args.octets.now c.requires.there c.requires.asked c.requires.octets _ Store c.in-Err-Store.field-0-is asks.asks asks.others)
    (λ (t : Unit {0}). c.write_action.new.out.items) c.write_action.result

pub returns-in-Err-JournalFull-clause-ok : goal.returns-in-Err-JournalFull-clause-ok
returns-in-Err-JournalFull-clause-ok g c =
    let asks = c.in-Err-JournalFull.ensures in
    let write = c.write_action-in-Err-JournalFull in
    answered_called _ _ (call_on c.args.self.now.account c.args.call c.args.octets.now) journal_full
    (failed_log _ _ c.args.self.now.account c.args.call c.args.octets.now c.requires.there c.requires.asked c.requires.octets _ (JournalFull c.in-Err-JournalFull.field-0-0) c.in-Err-JournalFull.field-0-is asks.asks asks.others)
    (λ (t : Unit {0}). write.new.out.items) write.result (answer_text c.args.self.now.epoch c.args.kind) (action c.full_words.result.now)
    (ap action (sym (c.full_words.ensures c.args.self.now.epoch))) write.ensures

pub returns-in-Err-JournalFull-clause-err : goal.returns-in-Err-JournalFull-clause-err
returns-in-Err-JournalFull-clause-err g c =
    let asks = c.in-Err-JournalFull.ensures in
    let write = c.write_action-in-Err-JournalFull in
    left_called _ _ (call_on c.args.self.now.account c.args.call c.args.octets.now) journal_full
    (failed_log _ _ c.args.self.now.account c.args.call c.args.octets.now c.requires.there c.requires.asked c.requires.octets _ (JournalFull c.in-Err-JournalFull.field-0-0) c.in-Err-JournalFull.field-0-is asks.asks asks.others)
    (λ (t : Unit {0}). write.new.out.items) write.result

pub returns-in-Err-NoMemory-clause-err : goal.returns-in-Err-NoMemory-clause-err
returns-in-Err-NoMemory-clause-err g c =
    let asks = c.in-Err-NoMemory.ensures in
    leaves_uncalled _ _ (call_on c.args.self.now.account c.args.call c.args.octets.now)
    (failed_log _ _ c.args.self.now.account c.args.call c.args.octets.now c.requires.there c.requires.asked c.requires.octets _ NoMemory c.in-Err-NoMemory.field-0-is asks.asks asks.others)
