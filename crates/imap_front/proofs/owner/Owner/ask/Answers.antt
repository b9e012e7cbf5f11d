use Rattle.std.proofs.Common.{refl}
use Rattle.account_core.specs.History.{replied, store, journal_full}
use Rattle.account_core.specs.declared.calls.StepError.TheVariants.{Store, JournalFull, NoMemory}
use Rattle.front_core.specs.Works.{call_on}
use Rattle.imap_front.specs.Texts.{unavailable_text, journal_full_text}
use Rattle.imap_front.specs.Answers.{answer_text, kind_of}
use Rattle.imap_front.proofs.AnswerTexts.{store_text, full_text}
use Rattle.front_core.proofs.Asking.{asked_log, failed_log, answered_called, left_called, leaves_uncalled}
use Rattle.imap_front.proofs.owner.Owner.ask.Goals as goal

pub returns-in-Ok-clause-ok : goal.returns-in-Ok-clause-ok
returns-in-Ok-clause-ok g c =
    let asks = c.in-Ok.ensures in
    answered_called _ _ (call_on c.args.self.now.account c.args.call c.args.octets.now) (replied c.in-Ok.reply)
    (asked_log _ _ c.args.self.now.account c.args.call c.args.octets.now c.requires.owner.there c.requires.asked c.requires.octets _ asks.asks asks.others)
    (λ (t : Unit {0}). c.reply.new.answer.items) c.reply.result (answer_text c.args.self.now.details.now.setup.roots (kind_of c.args.kind) c.args.self.now.tag.now) _ refl c.reply.ensures

pub returns-in-Ok-clause-err : goal.returns-in-Ok-clause-err
returns-in-Ok-clause-err g c =
    let asks = c.in-Ok.ensures in
    left_called _ _ (call_on c.args.self.now.account c.args.call c.args.octets.now) (replied c.in-Ok.reply)
    (asked_log _ _ c.args.self.now.account c.args.call c.args.octets.now c.requires.owner.there c.requires.asked c.requires.octets _ asks.asks asks.others)
    (λ (t : Unit {0}). c.reply.new.answer.items) c.reply.result

pub returns-in-Err-Store-clause-ok : goal.returns-in-Err-Store-clause-ok
returns-in-Err-Store-clause-ok g c =
    let asks = c.in-Err-Store.ensures in
    answered_called _ _ (call_on c.args.self.now.account c.args.call c.args.octets.now) store
    (failed_log _ _ c.args.self.now.account c.args.call c.args.octets.now c.requires.owner.there c.requires.asked c.requires.octets _ Store c.in-Err-Store.field-0-is asks.asks asks.others)
    (λ (t : Unit {0}). c.words.new.answer.items) c.words.result (answer_text c.args.self.now.details.now.setup.roots (kind_of c.args.kind) c.args.self.now.tag.now) (unavailable_text c.args.self.now.tag.now) (store_text c.args.self.now.details.now.setup.roots c.args.self.now.tag.now (kind_of c.args.kind)) c.words.ensures

pub returns-in-Err-Store-clause-err : goal.returns-in-Err-Store-clause-err
returns-in-Err-Store-clause-err g c =
    let asks = c.in-Err-Store.ensures in
    left_called _ _ (call_on c.args.self.now.account c.args.call c.args.octets.now) store
    (failed_log _ _ c.args.self.now.account c.args.call c.args.octets.now c.requires.owner.there c.requires.asked c.requires.octets _ Store c.in-Err-Store.field-0-is asks.asks asks.others)
    (λ (t : Unit {0}). c.words.new.answer.items) c.words.result

pub returns-in-Err-JournalFull-clause-ok : goal.returns-in-Err-JournalFull-clause-ok
returns-in-Err-JournalFull-clause-ok g c =
    let asks = c.in-Err-JournalFull.ensures in
    answered_called _ _ (call_on c.args.self.now.account c.args.call c.args.octets.now) journal_full
    (failed_log _ _ c.args.self.now.account c.args.call c.args.octets.now c.requires.owner.there c.requires.asked c.requires.octets _ (JournalFull c.in-Err-JournalFull.field-0-0) c.in-Err-JournalFull.field-0-is asks.asks asks.others)
    (λ (t : Unit {0}). c.words-in-Err-JournalFull.new.answer.items) c.words-in-Err-JournalFull.result (answer_text c.args.self.now.details.now.setup.roots (kind_of c.args.kind) c.args.self.now.tag.now) (journal_full_text c.args.self.now.tag.now) (full_text c.args.self.now.details.now.setup.roots c.args.self.now.tag.now (kind_of c.args.kind)) c.words-in-Err-JournalFull.ensures

pub returns-in-Err-JournalFull-clause-err : goal.returns-in-Err-JournalFull-clause-err
returns-in-Err-JournalFull-clause-err g c =
    let asks = c.in-Err-JournalFull.ensures in
    left_called _ _ (call_on c.args.self.now.account c.args.call c.args.octets.now) journal_full
    (failed_log _ _ c.args.self.now.account c.args.call c.args.octets.now c.requires.owner.there c.requires.asked c.requires.octets _ (JournalFull c.in-Err-JournalFull.field-0-0) c.in-Err-JournalFull.field-0-is asks.asks asks.others)
    (λ (t : Unit {0}). c.words-in-Err-JournalFull.new.answer.items) c.words-in-Err-JournalFull.result

pub returns-in-Err-NoMemory-clause-err : goal.returns-in-Err-NoMemory-clause-err
returns-in-Err-NoMemory-clause-err g c =
    let asks = c.in-Err-NoMemory.ensures in
    leaves_uncalled _ _ (call_on c.args.self.now.account c.args.call c.args.octets.now)
    (failed_log _ _ c.args.self.now.account c.args.call c.args.octets.now c.requires.owner.there c.requires.asked c.requires.octets _ NoMemory c.in-Err-NoMemory.field-0-is asks.asks asks.others)
