use Rattle.std.proofs.Common.{◌≡◌, ◌<◌, ◌≤◌, [], length, refl, rules, inl, inr}
use Rattle.std.specs.Prelude.{Err, IfSome}
use Rattle.keeper.specs.Files.{listed}
use Rattle.account_core.specs.declared.calls.Call.TheVariants.{ScanPart}
use Rattle.account_core.specs.declared.calls.Reply.TheVariants.{NoPart}
use Rattle.account_ledger.specs.Counting.{mailbox_at}
use Rattle.account_ledger.specs.Settling.{needs}
use Rattle.account_ledger.proofs.Answering.{none_needed}
use Rattle.account_ledger.proofs.Questioning.{lists_next, no_part, part_replied}
use Rattle.account_ledger.proofs.Settled.{looks_prepare}
use Rattle.account_ledger.proofs.Showing.{known}
use Rattle.account_ledger.proofs.Stepping.{not_failed, prepares_same, steps_answered, steps_unlisted}
use Rattle.account_ledger.proofs.live.LiveAccount.scan_part.Goals as goal

pub returns-then-not-has_part : goal.returns-then-not-has_part
returns-then-not-has_part g c =
    let l = c.args.self.now in
    let past : length l.mailboxes ≤ c.args.index = search rules in
    steps_answered (ScanPart c.args.index) [] NoPart ⊥ l l (λ f. f) (prepares_same ⊥ (needs l.roots (ScanPart c.args.index)) l (λ f. f)) c.show_whole.ensures
    (none_needed (ScanPart c.args.index) l l (λ root. refl))
    (λ account shows. no_part l account shows c.args.index past) (record { kind = refl; names = tt })
    (λ account shows. refl) refl (λ rows. refl) (inl refl)

pub returns-in_err-files : goal.returns-in_err-files
returns-in_err-files g c =
    let l = c.args.self.now in
    let n = c.list_part.new.self in
    let is : c.from_residual.result ≡ Err c.in_err-files.field-0.0 = search rules in
    rw is (steps_unlisted (ScanPart c.args.index) [] c.list_part.result l n c.list_part.ensures.looks c.list_part.ensures.never_full c.list_part.ensures.whole
    c.in_err-files.field-0.0 c.in_err-files.was (inr (lists_next _ l n c.list_part.ensures.looks)))

pub returns : goal.returns
returns g c =
    let l = c.args.self.now in
    let n = c.list_part.new.self in
    let index = c.args.index in
    let inside : index < length l.mailboxes = search rules in
    let found : IfSome l.told (λ t. c.in_ok-files.files.items ≡ listed (mailbox_at l.mailboxes index) t.files.rows) = c.in_ok-files.ensures.files in
    rw c.generation-generation.ensures
    (steps_answered (ScanPart index) [] _ _ l n (not_failed c.in_ok-files.was) (looks_prepare _ (needs l.roots (ScanPart index)) l n c.list_part.ensures.looks) c.list_part.ensures.whole
    (none_needed (ScanPart index) l n (λ root. refl))
    (λ account shows. part_replied l account shows index c.in_ok-files.files.items c.totals_of_files-totals.result inside (known l account (λ t. c.in_ok-files.files.items ≡ listed (mailbox_at l.mailboxes index) t.files.rows) shows found) (search rules))
    (record { kind = refl; names = tt }) (λ account shows. refl) refl (λ rows. refl) (inr (lists_next _ l n c.list_part.ensures.looks)))
