use Rattle.std.proofs.Common.{◌≡◌, true, false, [], None, refl, sym, ap, subst, rules, bytes_eq, Option}
use Rattle.std.specs.Prelude.{Err, IfSome}
use Rattle.std.specs.List.{list_any}
use Rattle.keeper.specs.Files.{listed}
use Rattle.keeper.specs.declared.rows.FileRow.{FileRow}
use Rattle.account_core.specs.declared.calls.Call.TheVariants.{Remove}
use Rattle.account_core.specs.declared.calls.Reply.TheVariants.{NoMailbox, NoMessage, Removed}
use Rattle.account_core.specs.Machine.{removed_after}
use Rattle.account_ledger.specs.NamedFiles.{file_named}
use Rattle.account_ledger.specs.Settling.{needs}
use Rattle.account_ledger.proofs.Answering.{none_needed}
use Rattle.account_ledger.proofs.Delivering.{nowhere_in}
use Rattle.account_ledger.proofs.Removing.{missing_replied, nowhere, removal_missing}
use Rattle.account_ledger.proofs.Settled.{looks_prepare}
use Rattle.account_ledger.proofs.Showing.{known}
use Rattle.account_ledger.proofs.Stepping.{calm_looked, not_failed, steps_answered, steps_refused, steps_then, steps_unlisted}
use Rattle.account_ledger.proofs.live.LiveAccount.remove.Goals as goal

pub returns-then-not-has_mailbox : goal.returns-then-not-has_mailbox
returns-then-not-has_mailbox g c =
    let l = c.args.self.now in
    let m = c.args.mailbox.now in
    let none : list_any (λ mailbox. bytes_eq mailbox m) l.mailboxes ≡ false = search rules in
    steps_refused (Remove m c.args.base.now) [] NoMailbox l c.show_whole.ensures refl
    (λ account shows. nowhere account m c.args.base.now Removed (nowhere_in l account shows m none)) (record { kind = refl; names = tt })
    (λ account shows. ap (removed_after account m c.args.base.now) (sym (nowhere account m c.args.base.now Removed (nowhere_in l account shows m none)))) refl (λ rows. refl) tt

pub returns-in_err-find_file : goal.returns-in_err-find_file
returns-in_err-find_file g c =
    let is : c.from_residual.result ≡ Err c.in_err-find_file.field-0.0 = search rules in
    rw is (steps_unlisted (Remove c.args.mailbox.now c.args.base.now) [] c.find_file.result c.args.self.now c.find_file.new.self c.find_file.ensures.looks c.find_file.ensures.never_full c.find_file.ensures.whole
    c.in_err-find_file.field-0.0 c.in_err-find_file.was tt)

pub returns-in-None : goal.returns-in-None
returns-in-None g c =
    let l = c.args.self.now in
    let n = c.find_file.new.self in
    let m = c.args.mailbox.now in
    let base = c.args.base.now in
    let there : list_any (λ mailbox. bytes_eq mailbox m) l.mailboxes ≡ true = search rules in
    let none = subst (λ (o : Option FileRow). IfSome l.told (λ t. o ≡ file_named base (listed m t.files.rows))) c.in-None.is c.in_ok-find_file.ensures.found in
    let not = not_failed c.in_ok-find_file.was in
    steps_answered (Remove m base) [] NoMessage _ l n not (looks_prepare _ (needs l.roots (Remove m base)) l n c.find_file.ensures.looks) c.find_file.ensures.whole
    (calm_looked _ l n c.find_file.ensures.looks not)
    (λ account shows. missing_replied l account shows m base there (known l account (λ t. None ≡ file_named base (listed m t.files.rows)) shows none) Removed) (record { kind = refl; names = tt })
    (λ account shows. removal_missing l account shows m base there (known l account (λ t. None ≡ file_named base (listed m t.files.rows)) shows none)) refl (λ rows. refl) tt

pub returns-in-Some : goal.returns-in-Some
returns-in-Some g c =
    let l = c.args.self.now in
    let n = c.find_file.new.self in
    let call = Remove c.args.mailbox.now c.args.base.now in
    steps_then call [] c.remove_file.result _ l n c.remove_file.new.self (not_failed c.in_ok-find_file.was) (looks_prepare _ (needs l.roots call) l n c.find_file.ensures.looks) c.find_file.ensures.whole
    (none_needed call l n (λ root. refl)) c.remove_file.ensures.acts (λ wanting. absurd (c.remove_file.ensures.never_out_of_memory wanting)) tt
