use Rattle.std.proofs.Common.{◌≡◌, true, false, [], refl, rules, bytes_eq}
use Rattle.std.specs.Prelude.{Err, IfSome}
use Rattle.std.specs.List.{list_any}
use Rattle.keeper.specs.Files.{listed}
use Rattle.account_core.specs.declared.calls.Call.TheVariants.{Status as StatusCall}
use Rattle.account_core.specs.declared.calls.Reply.TheVariants.{NoMailbox}
use Rattle.account_ledger.specs.Settling.{needs}
use Rattle.account_ledger.proofs.Answering.{none_needed}
use Rattle.account_ledger.proofs.Questioning.{status_nowhere, status_replied}
use Rattle.account_ledger.proofs.Settled.{looks_prepare}
use Rattle.account_ledger.proofs.Showing.{known}
use Rattle.account_ledger.proofs.Stepping.{not_failed, steps_answered, steps_refused, steps_unlisted}
use Rattle.account_ledger.proofs.live.LiveAccount.status.Goals as goal

pub returns-then-not-has_mailbox : goal.returns-then-not-has_mailbox
returns-then-not-has_mailbox g c =
    let l = c.args.self.now in
    let m = c.args.mailbox.now in
    let none : list_any (λ mailbox. bytes_eq mailbox m) l.mailboxes ≡ false = search rules in
    steps_refused (StatusCall m) [] NoMailbox l c.show_whole.ensures refl
    (λ account shows. status_nowhere l account shows m none) (record { kind = refl; names = tt })
    (λ account shows. refl) refl (λ rows. refl) tt

pub returns-in_err-files : goal.returns-in_err-files
returns-in_err-files g c =
    let is : c.from_residual.result ≡ Err c.in_err-files.field-0.0 = search rules in
    rw is (steps_unlisted (StatusCall c.args.mailbox.now) [] c.list.result c.args.self.now c.list.new.self c.list.ensures.looks c.list.ensures.never_full c.list.ensures.whole
    c.in_err-files.field-0.0 c.in_err-files.was tt)

pub returns : goal.returns
returns g c =
    let l = c.args.self.now in
    let n = c.list.new.self in
    let m = c.args.mailbox.now in
    let there : list_any (λ mailbox. bytes_eq mailbox m) l.mailboxes ≡ true = search rules in
    let found : IfSome l.told (λ t. c.in_ok-files.files.items ≡ listed m t.files.rows) = c.in_ok-files.ensures.files in
    steps_answered (StatusCall m) [] _ _ l n (not_failed c.in_ok-files.was) (looks_prepare _ (needs l.roots (StatusCall m)) l n c.list.ensures.looks) c.list.ensures.whole
    (none_needed (StatusCall m) l n (λ root. refl))
    (λ account shows. status_replied l account shows m c.in_ok-files.files.items c.sums_of-sums.result there (known l account (λ t. c.in_ok-files.files.items ≡ listed m t.files.rows) shows found) (search rules))
    (record { kind = refl; names = tt }) (λ account shows. refl) refl (λ rows. refl) tt
