use Rattle.std.proofs.Common.{◌≡◌, ◌+◌, true, false, [], None, Some, refl, sym, ap, subst, ◌∙◌, arith, rules, bytes_eq}
use Rattle.std.specs.Prelude.{IfSome}
use Rattle.std.specs.List.{list_any}
use denote.Param.{param}
use Rattle.quota_roots.specs.Governing.{gaining}
use Rattle.keeper.specs.Files.{Files, has_row, listed}
use Rattle.keeper.specs.Calls.{Told, Changes, OnFiles}
use Rattle.keeper.proofs.Spending.{spends_not}
use Rattle.account_core.specs.declared.calls.Call.TheVariants.{Move}
use Rattle.account_core.specs.declared.calls.Reply.TheVariants.{Moved}
use Rattle.account_core.specs.Account.{Account}
use Rattle.account_core.specs.Machine.{over_of}
use Rattle.account_core.specs.Messages.{with_mailbox}
use Rattle.account_ledger.specs.Filing.{RowsFor}
use Rattle.account_ledger.specs.Messages.{message_in}
use Rattle.account_ledger.specs.NamedFiles.{file_named}
use Rattle.account_ledger.specs.Lives.{IsShown, Live, Shows}
use Rattle.account_ledger.specs.contracts.live.LiveAccount.{the_view}
use Rattle.account_ledger.proofs.Found.{files_renamed}
use Rattle.account_ledger.proofs.Lined.{acts_lined, changes_known}
use Rattle.account_ledger.proofs.Moving.{may, moves_moved, reply_moved, target_free}
use Rattle.account_ledger.proofs.Removing.{RowRenamed, file_there, has_named}
use Rattle.account_ledger.proofs.Shifting.{FilesShifted}
use Rattle.account_ledger.proofs.Showing.{known, of_shown}
use Rattle.account_ledger.proofs.live.LiveAccount.move_file.Goals as goal

pub rename_file-requires-clause-there : goal.rename_file-requires-clause-there
rename_file-requires-clause-there g c =
    let s = c.self.inside in
    let l = the_view (param 0 g.row.K) g.K.Keeper s in
    let m = c.args.from.now in
    let base = c.args.base.now in
    let there = subst (λ (v : Live). list_any (λ other. bytes_eq other m) v.mailboxes ≡ true) (sym c.self.view_is) c.requires.source in
    let found = subst (λ (v : Live). IfSome v.told (λ t. Some c.args.file.now ≡ file_named base (listed m t.files.rows))) (sym c.self.view_is) c.requires.found in
    rw c.as_slice-name.ensures
    (of_shown l (λ t. has_row m c.args.file.now.name t.files.rows ≡ true)
    (λ account shows. file_there l account shows m base c.args.file.now there (known l account (λ t. Some c.args.file.now ≡ file_named base (listed m t.files.rows)) shows found))
    (subst IsShown (sym c.self.view_is) c.requires.shown))

pub rename_file-requires-clause-free : goal.rename_file-requires-clause-free
rename_file-requires-clause-free g c =
    let s = c.self.inside in
    let l = the_view (param 0 g.row.K) g.K.Keeper s in
    let m = c.args.from.now in
    let to = c.args.to.now in
    let base = c.args.base.now in
    let file = c.args.file.now in
    let source = subst (λ (v : Live). list_any (λ other. bytes_eq other m) v.mailboxes ≡ true) (sym c.self.view_is) c.requires.source in
    let target = subst (λ (v : Live). list_any (λ other. bytes_eq other to) v.mailboxes ≡ true) (sym c.self.view_is) c.requires.target in
    let found = subst (λ (v : Live). IfSome v.told (λ t. Some c.args.file.now ≡ file_named base (listed m t.files.rows))) (sym c.self.view_is) c.requires.found in
    let free = subst (λ (v : Live). IfSome v.told (λ t. None ≡ file_named base (listed to t.files.rows))) (sym c.self.view_is) c.requires.free in
    rw c.as_slice-name.ensures (λ differs.
    of_shown l (λ t. has_row to file.name t.files.rows ≡ false)
    (λ account shows. target_free l account shows m base to source target file (known l account (λ t. Some file ≡ file_named base (listed m t.files.rows)) shows found)
    (known l account (λ t. None ≡ file_named base (listed to t.files.rows)) shows free) c.requires.apart)
    (subst IsShown (sym c.self.view_is) c.requires.shown))

pub returns-clause-acts : goal.returns-clause-acts
returns-clause-acts g c =
    let s = c.self.inside in
    let l = the_view (param 0 g.row.K) g.K.Keeper s in
    let m = c.args.from.now in
    let to = c.args.to.now in
    let base = c.args.base.now in
    let file = c.args.file.now in
    let call = Move m base to in
    let n = c.rename_file.new.keeper in
    let w = c.write_lines.new in
    let message = message_in m file in
    let Found = λ (t : Told). Some file ≡ file_named base (listed m t.files.rows) in
    let Free = λ (t : Told). None ≡ file_named base (listed to t.files.rows) in
    let source = subst (λ (v : Live). list_any (λ other. bytes_eq other m) v.mailboxes ≡ true) (sym c.self.view_is) c.requires.source in
    let target = subst (λ (v : Live). list_any (λ other. bytes_eq other to) v.mailboxes ≡ true) (sym c.self.view_is) c.requires.target in
    let found = subst (λ (v : Live). IfSome v.told (λ t. Some c.args.file.now ≡ file_named base (listed m t.files.rows))) (sym c.self.view_is) c.requires.found in
    let free = subst (λ (v : Live). IfSome v.told (λ t. None ≡ file_named base (listed to t.files.rows))) (sym c.self.view_is) c.requires.free in
    let fits = subst (λ (v : Live). (account : Account) → Shows v account → over_of v.roots account (gaining v.roots m to) message.octets ≡ None) (sym c.self.view_is) c.requires.fits in
    let moved : Changes (RowRenamed m c.as_slice-name.result.now to c.as_slice-name.result.now) (g.K.Keeper.told s.keeper) (g.K.Keeper.told n) = c.in_default.ensures.files in
    let moved1 : Changes (RowRenamed m file.name to file.name) (g.K.Keeper.told s.keeper) (g.K.Keeper.told n) = rw c.as_slice-name.ensures at moved in
    let shifted = changes_known Found (RowRenamed m file.name to file.name) (OnFiles (FilesShifted s.mailboxes (Some message) (Some (with_mailbox to message)))) (g.K.Keeper.told s.keeper) (g.K.Keeper.told n) found moved1
    (λ x y is e. files_renamed s.mailboxes m base to file.name file (with_mailbox to message) x.files y.files source target is refl e) in
    let rows = changes_known Found (RowRenamed m file.name to file.name) (OnFiles (λ files files1. RowsFor s.epoch call [] Moved files.rows files1.rows)) (g.K.Keeper.told s.keeper) (g.K.Keeper.told n) found moved1
    (λ x y is e. (file, sym is, ap (λ (f : Files). f.rows) e)) in
    let octets = c.size_of_file-octets.ensures.value in
    let may_move = λ (account : Account) (shows : Shows l account). may l account shows m base to source target file (known l account Found shows found) (known l account Free shows free) c.requires.apart in
    rw (← c.self.view_is, c.write_lines.ensures.limits)
    (acts_lined call l (Some message) (Some (with_mailbox to message)) message.octets s.counts.deliveries (s.counts.generation + 1) (g.K.Keeper.told n) (g.K.Keeper.told w.keeper) (g.K.Keeper.faults n) (g.K.Keeper.faults w.keeper) (g.K.Keeper.append_faults n) (g.K.Keeper.append_faults w.keeper)
    (g.K.Keeper.lists w.keeper) w.self.books
    (λ account shows. moves_moved l account shows m base to source target file (known l account Found shows found) (known l account Free shows free) c.requires.apart (fits account shows)) shifted
    (rw octets at c.write_lines.ensures.books) (rw octets at c.write_lines.ensures.files)
    (c.show_kept.ensures.each ∙ c.self.invariant.0) (c.in_default.ensures.cause.kept (search rules)) c.rename_file.ensures.appends (rw octets at c.write_lines.ensures.faults) (rw octets at c.write_lines.ensures.appends)
    [] Moved (λ account shows. reply_moved l.roots account m base to message (may_move account shows) (fits account shows)) (record { kind = refl; names = tt }) refl
    (λ wrote. rw c.requires.apart (record { octets = message.octets; named = λ account shows. has_named l account shows m base file source (known l account Found shows found); lines = wrote }))
    rows (omega arith) (omega arith)
    (spends_not _ ⊥ _ _ _ _ (λ f. absurd f) c.in_default.ensures.due) c.write_lines.ensures.due)
