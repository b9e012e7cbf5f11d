use Rattle.std.proofs.Common.{◌≡◌, true, false, [], None, Option, refl, subst, rules, bytes_eq}
use Rattle.std.specs.Prelude.{Err, IfSome}
use Rattle.std.specs.List.{list_any}
use Rattle.keeper.specs.Calls.{Told}
use Rattle.keeper.specs.Files.{listed}
use Rattle.keeper.specs.declared.rows.FileRow.{FileRow}
use Rattle.account_core.specs.declared.calls.Call.TheVariants.{Move}
use Rattle.account_core.specs.declared.calls.Reply.TheVariants.{NoMailbox, NoMessage}
use Rattle.account_core.specs.Account.{Account}
use Rattle.account_ledger.specs.NamedFiles.{file_named}
use Rattle.account_ledger.specs.Settling.{needs}
use Rattle.account_ledger.specs.Lives.{Shows}
use Rattle.account_ledger.proofs.Delivering.{nowhere_in, there_in}
use Rattle.account_ledger.proofs.Moving.{missing_moved, no_source, no_target, refused_leaves}
use Rattle.account_ledger.proofs.Settled.{looks_prepare}
use Rattle.account_ledger.proofs.Showing.{known}
use Rattle.account_ledger.proofs.Stepping.{calm_looked, not_failed, steps_answered, steps_looked, steps_refused, steps_unlisted}
use Rattle.account_ledger.proofs.live.LiveAccount.move_message.Goals as goal

pub returns-then-not-has_mailbox : goal.returns-then-not-has_mailbox
returns-then-not-has_mailbox g c =
    let l = c.args.self.now in
    let from = c.args.from.now in
    let base = c.args.base.now in
    let to = c.args.to.now in
    let none : list_any (λ mailbox. bytes_eq mailbox from) l.mailboxes ≡ false = search rules in
    let replied = λ (account : Account) (shows : Shows l account). no_source l.roots account from base to (nowhere_in l account shows from none) in
    steps_refused (Move from base to) [] NoMailbox l c.show_whole.ensures refl replied (record { kind = refl; names = tt })
    (λ account shows. refused_leaves l.roots account from base to NoMailbox (replied account shows) refl) refl (λ rows. refl) tt

pub returns-then-not-has_mailbox-2 : goal.returns-then-not-has_mailbox-2
returns-then-not-has_mailbox-2 g c =
    let l = c.args.self.now in
    let from = c.args.from.now in
    let base = c.args.base.now in
    let to = c.args.to.now in
    let there : list_any (λ mailbox. bytes_eq mailbox from) l.mailboxes ≡ true = search rules in
    let none : list_any (λ mailbox. bytes_eq mailbox to) l.mailboxes ≡ false = search rules in
    let replied = λ (account : Account) (shows : Shows l account). no_target l.roots account from base to (there_in l account shows from there) (nowhere_in l account shows to none) in
    steps_refused (Move from base to) [] NoMailbox l c.show_whole.ensures refl replied (record { kind = refl; names = tt })
    (λ account shows. refused_leaves l.roots account from base to NoMailbox (replied account shows) refl) refl (λ rows. refl) tt

pub returns-in_err-find_file : goal.returns-in_err-find_file
returns-in_err-find_file g c =
    let is : c.from_residual.result ≡ Err c.in_err-find_file.field-0.0 = search rules in
    rw is (steps_unlisted (Move c.args.from.now c.args.base.now c.args.to.now) [] c.find_file.result c.args.self.now c.find_file.new.self c.find_file.ensures.looks c.find_file.ensures.never_full c.find_file.ensures.whole
    c.in_err-find_file.field-0.0 c.in_err-find_file.was tt)

pub returns-in-None : goal.returns-in-None
returns-in-None g c =
    let l = c.args.self.now in
    let n = c.find_file.new.self in
    let from = c.args.from.now in
    let base = c.args.base.now in
    let to = c.args.to.now in
    let call = Move from base to in
    let source : list_any (λ mailbox. bytes_eq mailbox from) l.mailboxes ≡ true = search rules in
    let target : list_any (λ mailbox. bytes_eq mailbox to) l.mailboxes ≡ true = search rules in
    let None_there = λ (t : Told). None ≡ file_named base (listed from t.files.rows) in
    let none = subst (λ (o : Option FileRow). IfSome l.told (λ t. o ≡ file_named base (listed from t.files.rows))) c.in-None.is c.in_ok-find_file.ensures.found in
    let not = not_failed c.in_ok-find_file.was in
    let replied = λ (account : Account) (shows : Shows l account). missing_moved l account shows from base to source target (known l account None_there shows none) in
    steps_answered call [] NoMessage _ l n not (looks_prepare _ (needs l.roots call) l n c.find_file.ensures.looks) c.find_file.ensures.whole (calm_looked _ l n c.find_file.ensures.looks not)
    replied (record { kind = refl; names = tt }) (λ account shows. refused_leaves l.roots account from base to NoMessage (replied account shows) refl) refl (λ rows. refl) tt

pub returns-in-Some : goal.returns-in-Some
returns-in-Some g c =
    steps_looked (Move c.args.from.now c.args.base.now c.args.to.now) [] c.move_found.result _ c.args.self.now c.find_file.new.self c.move_found.new.self c.find_file.ensures.looks (not_failed c.in_ok-find_file.was) c.move_found.ensures tt
